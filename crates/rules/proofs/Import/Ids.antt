-- What the ids of a form are where none is refused (02, Card 6, number 19): each is defined once and is a subtask at most once, the root of none;
-- each is reached from the root, and each that is used is defined. Where one is refused, all that was looked at before is right. Assumes nothing.
use mathlib.Core.Path.{◌≡◌, refl, sym, ◌∙◌}
use mathlib.Core.Bool.{Bool, true, false, ◌&&◌, ◌||◌, not, false≢true}
use mathlib.Core.List.{List, [], ◌∷◌}
use mathlib.Core.List.Memᴰ.{head as here}
use mathlib.Core.List.Memᴰ.{tail as there}
use mathlib.Core.List.{Memᴰ as Mem}
use mathlib.Core.Option.{Option, none, some}
use Prim.Native.Nat.{ℕ, ◌≤◌}
use lib.Dec.{eqb, ltb}
use borrow.Author.Tests.{ltb-true, ltb-false, eqb-true, eq-eqb, not-true, not-false}
use Rattle.rules.specs.declared.Answer.{Answer}
use Rattle.rules.specs.declared.Answer.TheVariants.{WrongId}
use Rattle.rules.specs.Result.{Result, found, refused}
use Rattle.rules.specs.Tree.{is_in}
use Rattle.rules.specs.Verdict.{unless}
use Rattle.rules.specs.Form.{FormLine, Form, line_number, defines, uses, form_lines, times, all_defined, all_used, is_reached, Reached, any_missing, is_wrong, first_wrong, wrong_line, ids_right}
use Rattle.rules.specs.FormFaults.{Wrong, twice, subtask_twice, under, unreached, undefined}
use Rattle.rules.proofs.Judgement.Each.{Each, First, each_nil, each_cons, both_true, first_here, first_later}
use Rattle.rules.proofs.Import.Reach.{is_in_lem, in_is, is_reached_lem}
use Rattle.rules.proofs.Import.Lines.{IfFound, each_line}
use Rattle.rules.proofs.Import.Says.{Says}

-- The id is one that a line defines.
abbrev pub Defined : List FormLine → ℕ → Type 0
Defined es id = is_in id (all_defined es) ≡ true

-- A line that is not wrong.
pub record RightLine (es : List FormLine) (root : ℕ) (e : FormLine) : Type 0 where
  pub once : times (defines e) (all_defined es) ≤ 1
  pub subtask_once : times (defines e) (all_used es) ≤ 1
  pub no_parent : defines e ≡ root → is_in root (all_used es) ≡ false
  pub reached : Reached es root (defines e)
  pub defined : Each (Defined es) (uses e)

pub record RightIds (f : Form) : Type 0 where
  pub root_there : Defined (form_lines f) f.root
  pub lines : Each (RightLine (form_lines f) f.root) (form_lines f)

-- ---- A line

not_in : (i : ℕ) (l : List ℕ) → is_in i l ≡ false → Mem i l → ⊥
not_in i l q m = false≢true (sym q ∙ in_is m)

or-false : (a b : Bool) → (a || b) ≡ false → (a ≡ false) × (b ≡ false)
or-false true b e = absurd (false≢true (sym e))
or-false false b e = (refl, e)

none_missing : (ids xs : List ℕ) → any_missing ids xs ≡ false → Each (λ x. is_in x ids ≡ true) xs
none_missing ids [] e = each_nil (λ x. is_in x ids ≡ true)
none_missing ids (x ∷ xs) e =
    let (p, q) = or-false (not (is_in x ids)) (any_missing ids xs) e in
    each_cons (λ x. is_in x ids ≡ true) x xs (not-false (is_in x ids) p) (none_missing ids xs q)

either_true : {P : Type 0} (a b : Bool) → (a || b) ≡ true → (a ≡ true → P) → (b ≡ true → P) → P
either_true true b e f g = f refl
either_true false b e f g = g e

one_missing : (ids xs : List ℕ) → any_missing ids xs ≡ true → (x : ℕ) × Mem x xs × (Mem x ids → ⊥)
one_missing ids [] e = absurd (false≢true e)
one_missing ids (x ∷ xs) e =
    either_true (not (is_in x ids)) (any_missing ids xs) e (λ p. (x, here refl, not_in x ids (not-true (is_in x ids) p)))
    (λ p. let (y, m, n) = one_missing ids xs p in (y, there m, n))

module _ (es : List FormLine) (root : ℕ) (e : FormLine) where
  -- The five tests of a line.
  abbrev again : Bool
  again = ltb 1 (times (defines e) (all_defined es))

  abbrev used : Bool
  used = ltb 1 (times (defines e) (all_used es))

  abbrev parent : Bool
  parent = eqb (defines e) root && is_in root (all_used es)

  abbrev lost : Bool
  lost = not (is_reached es root (defines e))

  abbrev missing : Bool
  missing = any_missing (all_defined es) (uses e)

  line_right : is_wrong es root e ≡ false → RightLine es root e
  unfolding is_wrong
  line_right q =
      let (a, q₁) = or-false again (used || (parent || (lost || missing))) q in
      let (b, q₂) = or-false used (parent || (lost || missing)) q₁ in
      let (c, q₃) = or-false parent (lost || missing) q₂ in
      let (d, f) = or-false lost missing q₃ in
      record {
        once = ltb-false 1 (times (defines e) (all_defined es)) a;
        subtask_once = ltb-false 1 (times (defines e) (all_used es)) b;
        no_parent = λ p. rw (eq-eqb (defines e) root p) at c;
        reached = (is_reached_lem es root (defines e)).0 (not-false (is_reached es root (defines e)) d);
        defined = none_missing (all_defined es) (uses e) f;
      }

  line_wrong : is_wrong es root e ≡ true → Wrong es root e
  unfolding is_wrong
  line_wrong q =
      either_true again (used || (parent || (lost || missing))) q (λ p. twice (ltb-true 1 (times (defines e) (all_defined es)) p))
      (λ q. either_true used (parent || (lost || missing)) q (λ p. subtask_twice (ltb-true 1 (times (defines e) (all_used es)) p))
      (λ q. either_true parent (lost || missing) q
      (λ p. let (a, b) = both_true (eqb (defines e) root) (is_in root (all_used es)) p in
      under (eqb-true (defines e) root a) (is_in_lem root (all_used es) b))
      (λ q. either_true lost missing q
      (λ p. unreached (λ r. false≢true (sym (not-true (is_reached es root (defines e)) p) ∙ (is_reached_lem es root (defines e)).1 r)))
      (λ p. let (x, m, n) = one_missing (all_defined es) (uses e) p in undefined m n))))

-- ---- All lines

-- The first wrong line of some; those before it are right.
abbrev pub FirstOf : Form → List FormLine → Type 0
FirstOf f es = First (RightLine (form_lines f) f.root) (Wrong (form_lines f) f.root) es

abbrev pub AllRight : Form → List FormLine → Type 0
AllRight f es = Each (RightLine (form_lines f) f.root) es

module _ (f : Form) (R : Answer → Type 0) where
  -- The first wrong one of these lines refuses; else what comes later is said.
  first_says : (es : List FormLine) (later : Option ℕ) → ((w : FirstOf f es) → R (WrongId (line_number w.it)))
      → (AllRight f es → Says (λ u. RightIds f) R (unless WrongId later))
      → Says (λ u. RightIds f) R (unless WrongId (first_wrong (is_wrong (form_lines f) f.root) es later))
  first_says [] later r p = p (each_nil (RightLine (form_lines f) f.root))
  first_says (e ∷ es) later r p =
      go (is_wrong all f.root e) refl
      (λ g. first_says es later (λ w. r (first_later e es g w)) (λ gs. p (each_cons (RightLine all f.root) e es g gs)))
    where
      all : List FormLine
      all = form_lines f

      go : (b : Bool) → is_wrong all f.root e ≡ b
          → (RightLine all f.root e → Says (λ u. RightIds f) R (unless WrongId (first_wrong (is_wrong all f.root) es later)))
          → Says (λ u. RightIds f) R (unless WrongId (elim b [ true ↦ some (line_number e) | false ↦ first_wrong (is_wrong all f.root) es later ]))
      go true q rest = r (first_here e es (line_wrong all f.root e q))
      go false q rest = rest (line_right all f.root e q)

  -- What is looked at before that which refuses is right: the action lines, the root's id, the compound lines.
  pub ids_say_in_turn : ((w : FirstOf f f.cues) → R (WrongId (line_number w.it)))
      → (AllRight f f.cues → (Mem f.root (all_defined (form_lines f)) → ⊥) → R (WrongId f.root_line))
      → (AllRight f f.cues → Defined (form_lines f) f.root → (w : FirstOf f f.tasks) → R (WrongId (line_number w.it)))
      → Says (λ u. RightIds f) R (ids_right f)
  unfolding ids_right wrong_line
  ids_say_in_turn cue lost task =
      first_says f.cues _ cue (λ cs. go cs (is_in f.root (all_defined es)) refl)
    where
      es : List FormLine
      es = form_lines f

      go : AllRight f f.cues → (b : Bool) → is_in f.root (all_defined es) ≡ b
          → Says (λ u. RightIds f) R
          (unless WrongId (elim b [ true ↦ first_wrong (is_wrong es f.root) f.tasks none | false ↦ some f.root_line ]))
      go cs true q =
          first_says f.tasks none (task cs q)
          (λ ts. record { root_there = q; lines = each_line f _ _ (RightLine es f.root) (λ e r. r) (λ e r. r) cs ts })
      go cs false q = lost cs (not_in f.root (all_defined es) q)

pub ids_right_lem : (f : Form) → IfFound (λ u. RightIds f) (ids_right f)
ids_right_lem f = go (ids_right f) (ids_say_in_turn f (λ a. Unit {0}) (λ w. tt) (λ cs n. tt) (λ cs r w. tt))
  where
    go : (o : Result (Unit {0})) → Says (λ u. RightIds f) (λ a. Unit {0}) o → IfFound (λ u. RightIds f) o
    go (found u) s = s
    go (refused r) s = tt
