-- `sum_trees`: the trees that are left stand at a node and a place, and the parts of the others are stored (Summing). Assumes nothing.
use Rattle.entering.proofs.Summing.{Summing}
use Rattle.entering.specs.Trees.{TreesStand}
use Rattle.rules.specs.Tree.{Trees}
use Rattle.entering.proofs.sums.sum_trees.Given as goal

abbrev pub invariant-loop-j : goal.invariant-loop-j
invariant-loop-j l =
    (ts : Trees) → TreesStand l.fields l.work l.node l.at l.first l.count ts → Summing l.fields l.work l.cues l.first l.count ts l.sums l.n l.place l.before l.j
