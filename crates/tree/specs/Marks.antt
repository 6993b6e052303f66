-- The least position whose mark is not set. Assumes nothing.
use Rattle.std.specs.Prelude.{true, false, List, [], ◌∷◌, ℕ, ◌+◌, eqb, Option as Returned, Some, None}
use Rattle.std.proofs.Math.Option.{Option, none, some}

-- Of the marks of the positions from i on, the first that is 0.
abbrev pub least_unmarked : ℕ → List ℕ → Option ℕ
least_unmarked i [] = none
least_unmarked i (mark ∷ marks) = elim (eqb mark 0) [ true ↦ some i | false ↦ least_unmarked (i + 1) marks ]

abbrev pub as_unclaimed : Option ℕ → Returned ℕ
as_unclaimed none = None
as_unclaimed (some i) = Some i
