-- `enter_lines`: the constraints that are left stand at a place, and the entries of the others are sound (Entered);
-- the counts are as many. Assumes nothing.
use Prim.Native.Nat.{ℕ, ◌+◌}
use Rattle.blames.specs.Entries.{PoolFits, PoolSound}
use Rattle.columns.specs.Columns.{Columns}
use Rattle.constraints.specs.Methods.{ConstraintsHere}
use Rattle.entering.proofs.Entered.{Entered}
use Rattle.entering.specs.Lines.{EntriesSound}
use Rattle.rules.specs.Case.{Constraint}
use Rattle.rules.specs.Constraint.{Holds}
use lib.ListN.{length}
use mathlib.Core.Bool.{Bool}
use mathlib.Core.List.{List}
use mathlib.Core.Path.{◌≡◌}
use Rattle.entering.proofs.lines.enter_lines.Given as goal

abbrev pub invariant-loop-number : goal.invariant-loop-number
invariant-loop-number l =
    Columns l.states (l.k + 1) l.columns l.built
    × PoolFits l.k (length l.choice) l.pool
    × ((cs : List Constraint) → ConstraintsHere l.fields l.from l.count cs → Entered l.fields l.at l.count l.number cs)
    × ((holds : Holds) (passing : List ℕ → Bool) (cs : List Constraint) → ConstraintsHere l.fields l.from l.count cs → EntriesSound holds passing l.k (length l.choice) l.own l.sums cs
    → PoolSound holds passing l.k (length l.choice) l.initial.pool → PoolSound holds passing l.k (length l.choice) l.pool)
    × (length l.counts ≡ length l.initial.counts)
    × (length l.columns ≡ length l.initial.columns)
    × (length l.built ≡ length l.initial.built)
