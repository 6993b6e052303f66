-- Number 19 as a statement about lines (02, Card 6): the line that refuses is the first that is wrong, since the lines of a form come in the order
-- of their numbers, the action lines ahead of the root line and the compound lines after it. Assumes nothing.
use mathlib.Core.Path.{◌≡◌, refl, sym, ap, ◌∙◌, subst}
use mathlib.Core.Bool.{false≢true}
use mathlib.Core.List.{List, [], ◌∷◌, ◌++◌}
use mathlib.Core.List.Memᴰ.{append_cases as in_either}
use mathlib.Core.List.Memᴰ.{append_left as in_left}
use mathlib.Core.List.Memᴰ.{append_right as in_right}
use mathlib.Core.List.Memᴰ.{head as here}
use mathlib.Core.List.Memᴰ.{not-nil}
use mathlib.Core.List.Memᴰ.{tail as there}
use mathlib.Core.List.{Memᴰ as Mem}
use mathlib.Core.Logic.{⊎_elim}
use Prim.Native.Nat.{ℕ, ◌+◌, ◌≤◌, ◌<◌}
use native.Mathlib.Omega.{arith}
use Rattle.rules.specs.declared.Answer.{Answer}
use Rattle.rules.specs.declared.Answer.TheVariants.{WrongId}
use Rattle.rules.specs.Case.{Case}
use Rattle.rules.specs.Naming.{Names}
use Rattle.rules.specs.Form.{FormLine, Form, line_number, form_lines, all_defined, ids_right}
use Rattle.rules.specs.FormFaults.{Stage, opening, front, back, over, Due, start, opened, action, rooted, compound, closed, FormIs, Wrong, twice, subtask_twice, under, unreached, undefined, WrongAt, line, root, FirstWrong}
use Rattle.rules.proofs.Judgement.Each.{Each, first_in}
use Rattle.rules.proofs.Import.Reach.{is_in_lem, in_is}
use Rattle.rules.proofs.Import.Ids.{Defined, RightLine, RightIds, FirstOf, AllRight, ids_say_in_turn}
use Rattle.rules.proofs.Import.Says.{Says, says_weaken}

-- ---- Right and wrong

not_both : (es : List FormLine) (r : ℕ) (e : FormLine) → RightLine es r e → Wrong es r e → ⊥
not_both es r e w (twice h) = omega (arith, w.once)
not_both es r e w (subtask_twice h) = omega (arith, w.subtask_once)
not_both es r e w (under p m) = false≢true (sym (w.no_parent p) ∙ in_is m)
not_both es r e w (unreached n) = n w.reached
not_both es r e w (undefined {s} m n) = n (is_in_lem s _ (w.defined s m))

none_wrong : (f : Form) → RightIds f → (l : ℕ) → WrongAt f l → ⊥
none_wrong f r l (line {e} m w) = not_both (form_lines f) f.root e (r.lines e m) w
none_wrong f r l (root n) = n (is_in_lem f.root _ r.root_there)

-- ---- The numbers of the lines

-- Lines one after the other, from this number on and up to that.
abbrev Numbered : ℕ → List FormLine → ℕ → Type 0
Numbered low [] high = low ≡ high
Numbered low (e ∷ es) high = (line_number e ≡ low) × Numbered (low + 1) es high

numbered_more : (low : ℕ) (es : List FormLine) (high : ℕ) (e : FormLine) → Numbered low es high → line_number e ≡ high → Numbered low (es ++ e ∷ []) (high + 1)
numbered_more low [] high e n p = (p ∙ sym n, ap (λ (x : ℕ). x + 1) n)
numbered_more low (x ∷ es) high e (q, n) p = (q, numbered_more (low + 1) es high e n p)

-- Each is from the first number on and below the last.
numbered_within : (low : ℕ) (es : List FormLine) (high : ℕ) → Numbered low es high → (low ≤ high) × Each (λ e. (low ≤ line_number e) × (line_number e < high)) es
numbered_within low [] high n = (omega arith, λ e m. absurd (not-nil m))
numbered_within low (x ∷ es) high (q, n) = let (h, f) = numbered_within (low + 1) es high n in (omega arith, all h f)
  where
    all : low + 1 ≤ high → Each (λ e. (low + 1 ≤ line_number e) × (line_number e < high)) es → Each (λ e. (low ≤ line_number e) × (line_number e < high)) (x ∷ es)
    all h f e (here p) = let same = ap line_number p in omega arith
    all h f e (there m) = let (a, b) = f e m in omega arith

-- Those from a line on have no lesser number.
numbered_after : (low : ℕ) (before : List FormLine) (it : FormLine) (after : List FormLine) (high : ℕ) → Numbered low (before ++ it ∷ after) high
    → Each (λ e. line_number it ≤ line_number e) (it ∷ after)
numbered_after low [] it after high n e m = let (h, f) = numbered_within low (it ∷ after) high n in omega (arith, n.0, f e m)
numbered_after low (x ∷ before) it after high n e m = numbered_after (low + 1) before it after high n.1 e m

-- What is due has the lines before it in their order.
record InOrder (f : Form) (next : ℕ) : Type 0 where
  ahead : Numbered 2 f.cues f.root_line
  behind : Numbered (f.root_line + 1) f.tasks next

abbrev StageInOrder : ℕ → Stage → Type 0
StageInOrder l opening = Unit {0}
StageInOrder l (front cues) = Numbered 2 cues l
StageInOrder l (back f) = InOrder f l
StageInOrder l (over f) = (next : ℕ) × InOrder f next

due_in_order : {k : Case} {ns : Names} {text : List ℕ} {l : ℕ} {s : Stage} → Due k ns text l s → StageInOrder l s
due_in_order start = tt
due_in_order (opened h) = refl
due_in_order (action {l} {cues = cues} d c a n) = numbered_more 2 cues l _ (due_in_order d) refl
due_in_order (rooted d r) = record { ahead = due_in_order d; behind = refl }
due_in_order (compound {l} {f = f} d c a n) =
    let o = due_in_order d in record { ahead = o.ahead; behind = numbered_more (f.root_line + 1) f.tasks l _ o.behind refl }
due_in_order (closed {l} d h) = (l, due_in_order d)

-- ---- The first wrong line

-- Those of these lines that are wrong have this number or a greater one.
abbrev WrongFrom : Form → ℕ → List FormLine → Type 0
WrongFrom f l es = Each (λ e. Wrong (form_lines f) f.root e → l ≤ line_number e) es

right_from : (f : Form) (l : ℕ) (es : List FormLine) → AllRight f es → WrongFrom f l es
right_from f l es g e m w = absurd (not_both (form_lines f) f.root e (g e m) w)

-- The first wrong one is that with the least number.
first_from_lem : (f : Form) (es : List FormLine) (low high : ℕ) → Numbered low es high → (w : FirstOf f es) → WrongFrom f (line_number w.it) es
first_from_lem f es low high n w e m x =
    ⊎_elim (λ (b : Mem e w.before). right_from f (line_number w.it) w.before w.good e b x)
    (λ b. numbered_after low w.before w.it w.after high (subst (λ (l : List FormLine). Numbered low l high) w.split n) e b)
    (in_either w.before (subst (λ (l : List FormLine). Mem e l) w.split m))

-- So it is of the whole form if of the action lines, the root line and the compound lines.
all_from : (f : Form) (l : ℕ) → WrongFrom f l f.cues → ((Mem f.root (all_defined (form_lines f)) → ⊥) → l ≤ f.root_line) → WrongFrom f l f.tasks
    → (j : ℕ) → WrongAt f j → l ≤ j
unfolding form_lines
all_from f l cs r ts j (line {e} m w) = ⊎_elim (λ (c : Mem e f.cues). cs e c w) (λ t. ts e t w) (in_either f.cues m)
all_from f l cs r ts j (root n) = r n

module _ (f : Form) (next : ℕ) (o : InOrder f next) where
  in_cues : Each (λ e. line_number e < f.root_line) f.cues
  in_cues e m = ((numbered_within 2 f.cues f.root_line o.ahead).1 e m).1

  in_tasks : (l : ℕ) → l ≤ f.root_line → WrongFrom f l f.tasks
  in_tasks l h e m w = omega (arith, ((numbered_within (f.root_line + 1) f.tasks next o.behind).1 e m).0)

  cue_first : (w : FirstOf f f.cues) → FirstWrong f (line_number w.it)
  unfolding form_lines
  cue_first w =
      let h = in_cues w.it (first_in f.cues w) in
      record {
        wrong = line (in_left f.tasks (first_in f.cues w)) w.bad;
        first = all_from f _ (first_from_lem f f.cues 2 f.root_line o.ahead w) (λ n. omega arith) (in_tasks _ (omega arith));
      }

  root_first : AllRight f f.cues → (Mem f.root (all_defined (form_lines f)) → ⊥) → FirstWrong f f.root_line
  root_first cs n =
      record { wrong = root n; first = all_from f f.root_line (right_from f f.root_line f.cues cs) (λ n. omega arith) (in_tasks f.root_line (omega arith)) }

  task_first : AllRight f f.cues → Defined (form_lines f) f.root → (w : FirstOf f f.tasks) → FirstWrong f (line_number w.it)
  unfolding form_lines
  task_first cs d w = record {
    wrong = line (in_right f.cues (first_in f.tasks w)) w.bad;
    first = all_from f _ (right_from f _ f.cues cs) (λ n. absurd (n (is_in_lem f.root _ d)))
        (first_from_lem f f.tasks (f.root_line + 1) next o.behind w);
  }

pub ids_say : (k : Case) (ns : Names) (text : List ℕ) (f : Form) → FormIs k ns text f
    → Says (λ u. (l : ℕ) → WrongAt f l → ⊥) (λ a. (l : ℕ) × (a ≡ WrongId l) × FirstWrong f l) (ids_right f)
ids_say k ns text f is =
    let (next, o) = due_in_order is.due in
    let R : Answer → Type 0 = λ a. (l : ℕ) × (a ≡ WrongId l) × FirstWrong f l in
    says_weaken (λ u. RightIds f) _ R R (ids_right f) (λ u. none_wrong f) (λ r x. x)
    (ids_say_in_turn f R (λ w. (_, refl, cue_first f next o w)) (λ cs n. (_, refl, root_first f next o cs n))
    (λ cs d w. (_, refl, task_first f next o cs d w)))
