-- `reaching::mark_links` meets its contract: the links passed are marked. Assumes nothing.
use Rattle.reaching.specs.Queued.{Adds, Among}
use Rattle.reaching.proofs.mark_links.Given as goal

abbrev pub invariant-loop-i : goal.invariant-loop-i
invariant-loop-i l = Adds (Among l.links l.from l.i) l.initial.marks l.initial.queue l.tail l.marks l.queue l.end
