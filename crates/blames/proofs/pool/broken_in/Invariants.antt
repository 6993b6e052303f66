-- `broken_in`: the columns stay those of the states. Assumes nothing.
use Prim.Native.Nat.{◌+◌}
use Rattle.columns.specs.Columns.{Columns}
use lib.ListN.{length}
use mathlib.Core.Path.{◌≡◌}
use Rattle.blames.proofs.pool.broken_in.Given as goal

abbrev pub invariant-loop-i : goal.invariant-loop-i
invariant-loop-i l =
    Columns l.states (l.k + 1) l.columns l.built × (length l.columns ≡ length l.initial.columns) × (length l.built ≡ length l.initial.built)
