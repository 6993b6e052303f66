-- `seek`: where the search has come to (Searched), with the columns as they were asked for and as many turns. The measure is how many choices are
-- left. Assumes nothing.
use mathlib.Core.Path.{◌≡◌}
use Prim.Native.Nat.{◌+◌}
use lib.ListN.{length}
use Rattle.rows.specs.Rows.{in_row}
use Rattle.columns.specs.Columns.{Columns}
use Rattle.choices.specs.Searching.{on_from}
use Rattle.seeking.proofs.Searching.{Searched}
use Rattle.seeking.proofs.seek.Given as goal

abbrev pub invariant-loop-set : goal.invariant-loop-set
invariant-loop-set l =
    Searched (in_row l.states) l.k l.spare l.pool l.initial.choice l.initial.why l.choice l.why
    × (length l.order ≡ length l.initial.order)
    × (length l.columns ≡ length l.initial.columns)
    × (length l.built ≡ length l.initial.built)
    × Columns l.states (l.k + 1) l.columns l.built

abbrev pub decreases-loop-set : goal.decreases-loop-set
decreases-loop-set l = length (on_from l.k l.choice)
