-- `reaching::visit` meets its contract: the lines before the head of the queue were taken (Walked). Assumes nothing.
use Prim.Native.Nat.{◌-◌}
use lib.ListN.{length}
use Rattle.reaching.proofs.Walks.{Walked}
use Rattle.reaching.proofs.visit.Given as goal

abbrev pub invariant-loop-head : goal.invariant-loop-head
invariant-loop-head l =
    Walked l.starts l.links l.twin l.root l.head l.marks l.queue l.tail

abbrev pub decreases-loop-head : goal.decreases-loop-head
decreases-loop-head l = length l.queue - l.head
