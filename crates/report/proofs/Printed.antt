-- The line by the number: 0 is acceptance. Assumes nothing.
use mathlib.Core.Path.{◌≡◌, ap}
use mathlib.Core.Bool.{Bool, true, false}
use mathlib.Core.List.{List, [], ◌∷◌}
use Prim.Native.Nat.{ℕ}
use borrow.Author.Tests.{eq-eqb, ne_eqb}
use Rattle.rules.specs.Verdict.{Report}
use Rattle.rules.specs.Text.{decimal}
use Rattle.rules.specs.Line.{fields, printed_report}

module _ (x : Report) where
  abbrev accepted : List ℕ
  accepted = fields ((89 ∷ []) ∷ decimal x.cues ∷ decimal x.nodes ∷ [])

  abbrev refused : List ℕ
  refused = fields ((82 ∷ []) ∷ decimal x.number ∷ decimal x.line ∷ decimal x.item ∷ [])

  -- What the definition picks by the test of the number.
  abbrev picked : Bool → List ℕ
  picked t = elim t [ true ↦ accepted | false ↦ refused ]

  pub printed_accepted : x.number ≡ 0 → printed_report x ≡ accepted
  printed_accepted e = ap picked (eq-eqb x.number 0 e)

  pub printed_refused : (x.number ≡ 0 → ⊥) → printed_report x ≡ refused
  printed_refused e = ap picked (ne_eqb x.number 0 e)
