-- What the lines of a form are that was read (02, Card 6): an action line has an action and the position of its place, a compound line has a
-- method of the model with as many subtasks as it has ids, and there are not too many lines; so it is line by line. Assumes nothing.
use mathlib.Core.Path.{◌≡◌, refl, sym, subst}
use mathlib.Core.List.{List, [], ◌∷◌, ◌++◌}
use mathlib.Core.List.Memᴰ.{append_cases as in_either}
use mathlib.Core.List.Memᴰ.{eq_of_singleton as alone}
use mathlib.Core.List.{Memᴰ as Mem}
use mathlib.Core.Logic.{⊎_elim}
use Prim.Native.Nat.{ℕ, ◌+◌, ◌≤◌, ◌<◌}
use native.Mathlib.Omega.{arith}
use lib.ListN.{length, length-append}
use Rattle.rules.specs.Result.{Result, found, refused, ◌>>=◌, ◌>>◌}
use Rattle.rules.specs.Case.{Method, method_at, Case}
use Rattle.rules.specs.Naming.{Names}
use Rattle.rules.specs.Form.{FormLine, cue_line, task_line, form_line_most, Form, form_lines}
use Rattle.rules.specs.FormFaults.{Stage, opening, front, back, over, Due, start, opened, action, rooted, compound, closed, FormIs}
use Rattle.rules.proofs.Judgement.Each.{Each, each_nil, each_weaken}

-- ---- What is found

-- P of what is found; nothing is said of a refusal.
abbrev pub IfFound : {A : Type 0} → (A → Type 0) → Result A → Type 0
IfFound P (found a) = P a
IfFound P (refused r) = Unit {0}

pub found_bind : {A B : Type 0} (Q : B → Type 0) (o : Result A) (rest : A → Result B) → ((a : A) → o ≡ found a → IfFound Q (rest a)) → IfFound Q (o >>= rest)
found_bind Q (found a) rest f = f a refl
found_bind Q (refused r) rest f = tt

pub found_then : {A B : Type 0} (Q : B → Type 0) (o : Result A) (m : Result B) → ((a : A) → o ≡ found a → IfFound Q m) → IfFound Q (o >> m)
found_then Q (found a) m f = f a refl
found_then Q (refused r) m f = tt

-- The same with what is known of the first.
pub found_with : {A B : Type 0} (P : A → Type 0) (Q : B → Type 0) (o : Result A) (rest : A → Result B) → IfFound P o → ((a : A) → P a → IfFound Q (rest a))
    → IfFound Q (o >>= rest)
found_with P Q (found a) rest p f = f a p
found_with P Q (refused r) rest p f = tt

-- ---- Action lines

-- An action line: an action of the model, at a position from low on and below high.
abbrev pub GoodCue : Case → ℕ → ℕ → FormLine → Type 0
GoodCue k low high (cue_line line id a i) = (a < k.head.actions) × (low ≤ i) × (i < high)
GoodCue k low high (task_line line id m subtasks) = ⊥

wider : (k : Case) {low high low' high' : ℕ} → low' ≤ low → high ≤ high' → (e : FormLine) → GoodCue k low high e → GoodCue k low' high' e
wider k l h (cue_line line id a i) (b, lo, hi) = (b, omega arith, omega arith)
wider k l h (task_line line id m subtasks) g = g

-- ---- Compound lines

-- A compound line has as many ids as its method has subtasks.
abbrev pub Counts : List Method → FormLine → Type 0
Counts ms (cue_line line id a i) = Unit {0}
Counts ms (task_line line id m subtasks) = length (method_at ms m).subtasks ≡ length subtasks

-- A compound line: a method of the model, with as many subtasks.
abbrev pub GoodTask : Case → FormLine → Type 0
GoodTask k (cue_line line id a i) = ⊥
GoodTask k (task_line line id m subtasks) = (m < k.head.methods) × Counts k.methods (task_line line id m subtasks)

-- ---- The whole form

pub record GoodForm (k : Case) (f : Form) : Type 0 where
  pub cues_good : Each (GoodCue k 1 (1 + length f.cues)) f.cues
  pub tasks_good : Each (GoodTask k) f.tasks
  pub few : length (form_lines f) ≤ form_line_most

-- ---- Line by line

-- What the lines are that came before what is due.
abbrev GoodStage : Case → Stage → Type 0
GoodStage k opening = Unit {0}
GoodStage k (front cues) = Each (GoodCue k 1 (1 + length cues)) cues × (length cues ≤ form_line_most)
GoodStage k (back f) = GoodForm k f
GoodStage k (over f) = GoodForm k f

each_more : (P : FormLine → Type 0) (es : List FormLine) (e : FormLine) → Each P es → P e → Each P (es ++ e ∷ [])
each_more P es e f p x m = ⊎_elim (λ (n : Mem x es). f x n) (λ n. subst P (sym (alone n)) p) (in_either es m)

due_good : (k : Case) (ns : Names) (text : List ℕ) → length ns.methods ≡ k.head.methods → {l : ℕ} {s : Stage} → Due k ns text l s → GoodStage k s
unfolding form_lines
due_good k ns text all start = tt
due_good k ns text all (opened h) = (each_nil (GoodCue k 1 1), omega arith)
due_good k ns text all (action {l} {id} {a} {name} {cues} d may at named) =
    let (good, few) = due_good k ns text all d in
    let e = cue_line l id a (length cues + 1) in
    let n = length-append cues (e ∷ []) in
    let top = 1 + length (cues ++ e ∷ []) in (
      each_more (GoodCue k 1 top) cues e (each_weaken (GoodCue k 1 (1 + length cues)) (GoodCue k 1 top) cues (wider k (omega arith) (omega arith)) good)
          (named.1, omega arith, omega arith),
      omega arith,
    )
due_good k ns text all (rooted {cues = cues} d at) =
    let (good, few) = due_good k ns text all d in
    record { cues_good = good; tasks_good = each_nil (GoodTask k); few = omega (arith, length-append {A = FormLine} cues []) }
due_good k ns text all (compound {l} {id} {m} {name} {method} {subtasks} {f} d may at named) =
    let g = due_good k ns text all d in
    let e = task_line l id m subtasks in
    record {
      cues_good = g.cues_good;
      tasks_good = each_more (GoodTask k) f.tasks e g.tasks_good (omega (arith, named.listed.below), named.counted);
      few = omega (arith, length-append f.cues (f.tasks ++ e ∷ []), length-append f.tasks (e ∷ []), length-append f.cues f.tasks);
    }
due_good k ns text all (closed d h) = due_good k ns text all d

pub form_good : (k : Case) (ns : Names) (text : List ℕ) (f : Form) → length ns.methods ≡ k.head.methods → FormIs k ns text f → GoodForm k f
form_good k ns text f all i = due_good k ns text all i.due

-- ---- All lines

-- What follows of every action line and of every compound line is so of every line.
pub each_line : (f : Form) (P Q R : FormLine → Type 0) → ((e : FormLine) → P e → R e) → ((e : FormLine) → Q e → R e) → Each P f.cues → Each Q f.tasks
    → Each R (form_lines f)
unfolding form_lines
each_line f P Q R p q cs ts e m = ⊎_elim (λ (n : Mem e f.cues). p e (cs e n)) (λ (n : Mem e f.tasks). q e (ts e n)) (in_either f.cues m)

pub form_counts : (k : Case) (f : Form) → GoodForm k f → Each (Counts k.methods) (form_lines f)
form_counts k f g = each_line f _ _ (Counts k.methods) cue task g.cues_good g.tasks_good
  where
    cue : (e : FormLine) → GoodCue k 1 (1 + length f.cues) e → Counts k.methods e
    cue (cue_line line id a i) w = tt
    cue (task_line line id m subtasks) w = absurd w

    task : (e : FormLine) → GoodTask k e → Counts k.methods e
    task (cue_line line id a i) w = tt
    task (task_line line id m subtasks) w = w.1
