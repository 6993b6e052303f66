-- The numbers of 01's table for the answers, in one place: each answer is found again by its number, so no two answers are reported alike.
-- Assumes nothing.
use mathlib.Core.Path.{◌≡◌, refl, sym, ◌∙◌, ap}
use mathlib.Core.Bool.{true, false}
use mathlib.Core.List.{List, [], ◌∷◌}
use Prim.Native.Nat.{ℕ}
use lib.Dec.{eqb}
use Rattle.rules.specs.declared.Answer.{Answer}
use Rattle.rules.specs.declared.Answer.TheVariants.{Accepted, ShortList, LongText, Unreadable, OutOfRange, Inapplicable, WrongTask, TooDeep, WrongClaim, Unclaimed, OrderBroken, BeforeBroken, AfterBroken, BetweenBroken, ShortOutput, TooManyChoices, NoChoice, WrongShape, WrongName, WrongId, WrongLetter, SurplusNode, MissingNode}
use Rattle.rules.specs.Verdict.{Report, reported}

-- "No.", and the answer that has it.
abbrev numbers : Report → List (ℕ × Answer)
numbers r =
    (0, Accepted r.cues r.nodes)
    ∷ (1, ShortList r.item)
    ∷ (2, LongText)
    ∷ (3, Unreadable r.line r.item)
    ∷ (4, OutOfRange r.line r.item)
    ∷ (5, Inapplicable r.line r.item)
    ∷ (6, WrongTask r.line)
    ∷ (7, TooDeep r.line)
    ∷ (8, WrongClaim r.line r.item)
    ∷ (9, Unclaimed r.line r.item)
    ∷ (10, OrderBroken r.line r.item)
    ∷ (11, BeforeBroken r.line r.item)
    ∷ (12, AfterBroken r.line r.item)
    ∷ (13, BetweenBroken r.line r.item)
    ∷ (14, ShortOutput r.item)
    ∷ (15, TooManyChoices r.item)
    ∷ (16, NoChoice r.item)
    ∷ (17, WrongShape r.line r.item)
    ∷ (18, WrongName r.line r.item)
    ∷ (19, WrongId r.line)
    ∷ (20, WrongLetter r.line)
    ∷ (21, SurplusNode r.line)
    ∷ (22, MissingNode r.line)
    ∷ []

abbrev numbered : ℕ → List (ℕ × Answer) → Answer
numbered n [] = LongText
numbered n (x ∷ xs) = elim (eqb n x.0) [ true ↦ x.1 | false ↦ numbered n xs ]

pub answered : Report → Answer
answered r = numbered r.number (numbers r)

pub answered_reported : (a : Answer) → answered (reported a) ≡ a
unfolding answered reported
answered_reported (Accepted cues nodes) = refl
answered_reported (ShortList i) = refl
answered_reported LongText = refl
answered_reported (Unreadable l i) = refl
answered_reported (OutOfRange l i) = refl
answered_reported (Inapplicable l i) = refl
answered_reported (WrongTask l) = refl
answered_reported (TooDeep l) = refl
answered_reported (WrongClaim l i) = refl
answered_reported (Unclaimed l i) = refl
answered_reported (OrderBroken l i) = refl
answered_reported (BeforeBroken l i) = refl
answered_reported (AfterBroken l i) = refl
answered_reported (BetweenBroken l i) = refl
answered_reported (ShortOutput i) = refl
answered_reported (TooManyChoices i) = refl
answered_reported (NoChoice i) = refl
answered_reported (WrongShape l i) = refl
answered_reported (WrongName l i) = refl
answered_reported (WrongId l) = refl
answered_reported (WrongLetter l) = refl
answered_reported (SurplusNode l) = refl
answered_reported (MissingNode l) = refl

pub reported_one : (a b : Answer) → reported a ≡ reported b → a ≡ b
reported_one a b e = sym (answered_reported a) ∙ ap answered e ∙ answered_reported b
