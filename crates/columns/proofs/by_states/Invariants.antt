-- `by_states`: the test of all states from the first is that of those from here on. Assumes nothing.
use Prim.Native.Nat.{◌-◌, ◌≤◌}
use Rattle.index.specs.Spans.{state_of}
use Rattle.rows.specs.Rows.{in_row}
use Rattle.rules.specs.Constraint.{holds_from}
use Rattle.rules.specs.State.{every}
use mathlib.Core.Path.{◌≡◌}
use Rattle.columns.proofs.by_states.Given as goal

abbrev pub invariant-loop-sign : goal.invariant-loop-sign
invariant-loop-sign l =
    (state_of l.initial.l ≤ state_of l.l)
    × (holds_from (in_row l.states) l.sign l.p (state_of l.initial.l) (state_of l.past) ≡ every (state_of l.past - state_of l.l) (state_of l.l) (λ i. in_row l.states l.sign l.p i))

abbrev pub decreases-loop-sign : goal.decreases-loop-sign
decreases-loop-sign l = state_of l.past - state_of l.l
