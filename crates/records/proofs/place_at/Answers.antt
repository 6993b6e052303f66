-- `place_at`: 0 for D, the third field otherwise. Assumes nothing.
use Prim.Native.Nat.{ℕ, ◌+◌}
use Rattle.records.proofs.Turns.{size_placed}
use Rattle.records.specs.Records.{place_at}
use borrow.Author.Tests.{eq-eqb, ne_eqb}
use lib.ListN.{get_or}
use mathlib.Core.Bool.{Bool, true, false}
use mathlib.Core.List.{List}
use mathlib.Core.Path.{sym, ap}
use native.Mathlib.Omega.{arith}
use Rattle.records.proofs.place_at.Goals as goal

-- The place by the test of the letter.
abbrev place_if : List ℕ → ℕ → Bool → ℕ
place_if fields at b = elim b [ true ↦ 0 | false ↦ get_or fields (at + 2) 0 ]

pub bounds-fields-at : goal.bounds-fields-at
bounds-fields-at c = let size = size_placed c.args.letter c.if-letter-eq68.false in omega arith

pub returns-then-letter-eq68 : goal.returns-then-letter-eq68
unfolding place_at
returns-then-letter-eq68 c = let a = c.args in sym (ap (place_if a.fields.now a.at) (eq-eqb a.letter 68 c.if-letter-eq68.true))

pub returns-else-letter-eq68 : goal.returns-else-letter-eq68
unfolding place_at
returns-else-letter-eq68 c = let a = c.args in sym (ap (place_if a.fields.now a.at) (ne_eqb a.letter 68 c.if-letter-eq68.false))
