-- `subtask_nodes`: what all the siblings' stores leave is what those from here on leave, after the stores so far (Placing). Assumes nothing.
use Rattle.parts.proofs.Parts.{row_inside, placing_goes_on}
use Rattle.tree.specs.Layout.{subtasks_from, subtasks_past}
use native.Mathlib.Omega.{arith}
use Rattle.parts.proofs.spans.subtask_nodes.Goals as goal

pub bounds-work-i : goal.bounds-work-i
unfolding subtasks_past
bounds-work-i c = omega (arith, c.requires.subtasks_past_in_bounds, c.requires.count_bound, c.loop-i.invariant.size)

pub after_at-at-requires : goal.after_at-at-requires
unfolding subtasks_from
after_at-at-requires c =
    let l = c.loop-i in
    row_inside l.invariant c.loop-i-test.true c.requires.count_bound

pub loop-i-preserved : goal.loop-i-preserved
unfolding subtasks_from
loop-i-preserved c =
    let l = c.loop-i in
    placing_goes_on l.invariant c.loop-i-test.true c.requires.count_bound c.after_at-at.ensures
