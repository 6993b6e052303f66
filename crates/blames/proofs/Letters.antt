-- An entry's letter picks its test: of a constraint with the same letter and proposition, at the same start and end, it is the same.
-- Assumes nothing.
use mathlib.Core.Path.{◌≡◌, refl, sym, ap, ap₂, subst, ◌∙◌}
use mathlib.Core.Logic.{◌≢◌}
use mathlib.Core.Bool.{Bool, true, false}
use mathlib.Core.List.{List}
use Prim.Native.Nat.{ℕ, ◌-◌}
use borrow.Author.Tests.{eq-eqb, ne_eqb}
use lib.Dec.{ltb}
use Rattle.rules.specs.declared.Sign.{Sign}
use Rattle.rules.specs.Index.{Span, Part, part_of, only, rounded_up, rounded_down, c, f, is_before}
use Rattle.rules.specs.Case.{Constraint, O, B, F, W, sign_of, is_either, constraint_of}
use Rattle.rules.specs.Constraint.{Holds, holds_from, keeps}
use Rattle.parts.proofs.Letters.{numbered_W, numbered_F, numbered_B, numbered_O}
use Rattle.blames.specs.declared.entry.Entry.{Entry}
use Rattle.blames.specs.Entries.{edges, meant, StartsAt, EndsAt, Names, entry_keeps}

pub silent_keeps : (holds : Holds) (x : Entry) (gs : List ℕ) → x.letter ≡ 0 → entry_keeps holds x gs ≡ true
unfolding entry_keeps
silent_keeps holds x gs e =
    ap (λ (b : Bool). elim b [ true ↦ true | false ↦ keeps holds (λ part. edges x gs) (meant x) ]) (eq-eqb x.letter 0 e)

pub lettered_keeps : (holds : Holds) (x : Entry) (gs : List ℕ) → x.letter ≢ 0
    → entry_keeps holds x gs ≡ keeps holds (λ part. edges x gs) (meant x)
unfolding entry_keeps
lettered_keeps holds x gs n =
    ap (λ (b : Bool). elim b [ true ↦ true | false ↦ keeps holds (λ part. edges x gs) (meant x) ]) (ne_eqb x.letter 0 n)

-- ---- the test of each kind, as the code has it: at its own span, with its own sign

module _ (holds : Holds) (x : Entry) (gs : List ℕ) (n : x.letter ≢ 0) {r : Bool} {s : Span} (at : s ≡ edges x gs) where
  kept : {d : Constraint} → meant x ≡ d → r ≡ keeps holds (λ part. edges x gs) d → r ≡ entry_keeps holds x gs
  kept {d} e b = b ∙ ap (keeps holds (λ part. edges x gs)) (sym e) ∙ sym (lettered_keeps holds x gs n)

  pub order_kept : meant x ≡ O x.p x.p → r ≡ is_before s s → r ≡ entry_keeps holds x gs
  unfolding keeps
  order_kept e b = kept e (b ∙ ap (λ (t : Span). is_before t t) at)

  module _ {g : Sign} (same : g ≡ sign_of x.letter) where
    pub before_kept : meant x ≡ B (sign_of x.letter) x.p x.p → r ≡ holds g x.p (c s - 1) → r ≡ entry_keeps holds x gs
    unfolding keeps
    before_kept e b = kept e (b ∙ ap₂ (λ (z : Sign) (t : Span). holds z x.p (c t - 1)) same at)

    pub after_kept : meant x ≡ F (sign_of x.letter) x.p x.p → r ≡ holds g x.p (f s) → r ≡ entry_keeps holds x gs
    unfolding keeps
    after_kept e b = kept e (b ∙ ap₂ (λ (z : Sign) (t : Span). holds z x.p (f t)) same at)

    pub between_kept : meant x ≡ W (sign_of x.letter) x.p x.p x.p → r ≡ holds_from holds g x.p (f s) (c s)
        → r ≡ entry_keeps holds x gs
    unfolding keeps
    between_kept e b = kept e (b ∙ ap₂ (λ (z : Sign) (t : Span). holds_from holds z x.p (f t) (c t)) same at)

-- ---- the test of a constraint at the parts of a task, by its start and its end

module _ (holds : Holds) (at : Part → Span) (first second third : ℕ) (x : Entry) (gs : List ℕ) (n : x.letter ≢ 0) where
  abbrev itself : Constraint
  itself = constraint_of x.letter first second third

  -- The entry has the constraint's proposition, starts where its start part does and ends where its end part does.
  abbrev Fitting : Constraint → Type 0
  Fitting d = Names d x.p × StartsAt at d (edges x gs).start × EndsAt at d (edges x gs).end

  of_kind : {d e : Constraint} → itself ≡ d → meant x ≡ e → keeps holds (λ part. edges x gs) e ≡ keeps holds at d → entry_keeps holds x gs ≡ keeps holds at itself
  of_kind {d} {e} p q h = lettered_keeps holds x gs n ∙ ap (keeps holds (λ part. edges x gs)) q ∙ h ∙ ap (keeps holds at) (sym p)

  up_at : (part : Part) → (edges x gs).start ≡ (at part).start → c (edges x gs) ≡ c (at part)
  unfolding c
  up_at part e = ap rounded_up e

  down_at : (part : Part) → (edges x gs).end ≡ (at part).end → f (edges x gs) ≡ f (at part)
  unfolding f
  down_at part e = ap rounded_down e

  -- The test at the entry's own span is the constraint's, kind by kind.
  same_W : (s : Sign) → itself ≡ W s first second third → meant x ≡ W s x.p x.p x.p → Fitting (W s first second third)
      → entry_keeps holds x gs ≡ keeps holds at itself
  unfolding keeps
  same_W s d e t =
      of_kind d e (ap (λ (q : ℕ). holds_from holds s q (f (edges x gs)) (c (edges x gs))) t.0
      ∙ ap₂ (holds_from holds s second) (down_at (part_of first) t.2) (up_at (part_of third) t.1))

  same_F : (s : Sign) → itself ≡ F s first second → meant x ≡ F s x.p x.p → Fitting (F s first second)
      → entry_keeps holds x gs ≡ keeps holds at itself
  unfolding keeps
  same_F s d e t = of_kind d e (ap₂ (holds s) t.0 (down_at (part_of second) t.2))

  same_B : (s : Sign) → itself ≡ B s first second → meant x ≡ B s x.p x.p → Fitting (B s first second)
      → entry_keeps holds x gs ≡ keeps holds at itself
  unfolding keeps
  same_B s d e t = of_kind d e (ap₂ (λ (q l : ℕ). holds s q (l - 1)) t.0 (up_at (part_of second) t.1))

  same_O : itself ≡ O first second → meant x ≡ O x.p x.p → Fitting (O first second) → entry_keeps holds x gs ≡ keeps holds at itself
  unfolding keeps is_before
  same_O d e t = of_kind d e (ap₂ ltb (down_at (only first) t.2) (up_at (only second) t.1))

  pub keeps_edges : let d = constraint_of x.letter first second third in
      Names d x.p → StartsAt at d (edges x gs).start → EndsAt at d (edges x gs).end → entry_keeps holds x gs ≡ keeps holds at d
  keeps_edges named starts ends = go (is_either x.letter 87 119) (is_either x.letter 70 102) (is_either x.letter 66 98) refl refl refl
    where
      fitting : {d : Constraint} → itself ≡ d → Fitting d
      fitting e = subst Fitting e (named, starts, ends)

      go : (w a b : Bool) → is_either x.letter 87 119 ≡ w → is_either x.letter 70 102 ≡ a → is_either x.letter 66 98 ≡ b → entry_keeps holds x gs ≡ keeps holds at itself
      go true a b ew ea eb =
          let d = numbered_W x.letter first second third ew in same_W (sign_of x.letter) d (numbered_W x.letter x.p x.p x.p ew) (fitting d)
      go false true b ew ea eb =
          let d = numbered_F x.letter first second third ew ea in same_F (sign_of x.letter) d (numbered_F x.letter x.p x.p x.p ew ea) (fitting d)
      go false false true ew ea eb =
          let d = numbered_B x.letter first second third ew ea eb in same_B (sign_of x.letter) d (numbered_B x.letter x.p x.p x.p ew ea eb) (fitting d)
      go false false false ew ea eb =
          let d = numbered_O x.letter first second third ew ea eb in same_O d (numbered_O x.letter x.p x.p x.p ew ea eb) (fitting d)
