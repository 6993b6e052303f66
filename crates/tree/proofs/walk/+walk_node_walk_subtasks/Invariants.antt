-- The cycle of calls {walk_node, walk_subtasks}. "Nodes left and level give the falling number": a node hands its subtasks one node less,
-- and the subtasks hand each node one level less. Assumes nothing.
use Prim.Native.Nat.{◌+◌, ◌-◌}
use Rattle.rules.specs.Case.{Case}
use Rattle.tree.proofs.Siblings.{Begun}
use Rattle.tree.specs.Fits.{Follows}
use Rattle.tree.specs.Standing.{Steady}
use lib.ListN.{length}
use mathlib.Core.Path.{◌≡◌}
use Rattle.tree.proofs.walk.+walk_node_walk_subtasks.Given as goal

-- Nodes left plus levels left.
abbrev pub decreases-walk_node : goal.decreases-walk_node
decreases-walk_node l = (l.g.now.nodes - l.p.node) + (65 - l.level)

abbrev pub decreases-walk_subtasks : goal.decreases-walk_subtasks
decreases-walk_subtasks l = (l.g.now.nodes - l.p.node) + (65 - l.level)

-- So many of the tasks are walked, for whichever case it is; the work space has its length.
abbrev pub invariant-walk_subtasks-loop-i : goal.invariant-walk_subtasks-loop-i
invariant-walk_subtasks-loop-i l =
    (length l.work ≡ length l.initial.work)
    × ((k : Case) → Steady k l.fields l.g l.initial.work → Follows k l.fields l.initial.next → Begun k l.fields l.level l.tasks l.i l.initial.next l.initial.work l.next l.span l.work)
