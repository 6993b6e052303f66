-- `test`: the columns stay those of the states, and the turns as many. Assumes nothing.
use Prim.Native.Nat.{◌+◌}
use Rattle.columns.specs.Columns.{Columns}
use lib.ListN.{length}
use mathlib.Core.Path.{◌≡◌}
use Rattle.blames.proofs.pool.test.Given as goal

abbrev pub invariant-loop-s : goal.invariant-loop-s
invariant-loop-s l =
    Columns l.states (l.k + 1) l.columns l.built × (length l.order ≡ length l.initial.order) × (length l.columns ≡ length l.initial.columns) × (length l.built ≡ length l.initial.built)
