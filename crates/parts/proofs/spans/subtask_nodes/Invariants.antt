-- `subtask_nodes`: what all the siblings' stores leave is what those from here on leave, after the stores so far (Placing). Assumes nothing.
use Rattle.parts.proofs.Parts.{Placing}
use Rattle.parts.proofs.spans.subtask_nodes.Given as goal

abbrev pub invariant-loop-i : goal.invariant-loop-i
invariant-loop-i l = Placing l.initial.work l.n l.count l.work l.at l.i
