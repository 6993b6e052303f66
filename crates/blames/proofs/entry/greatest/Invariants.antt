-- `greatest`: the greatest of all is that of the greatest so far and of the gaps at the members that remain (Going). Assumes nothing.
use Rattle.subsets.specs.Members.{members_of}
use Rattle.blames.specs.Entries.{highest}
use Rattle.blames.proofs.Walks.{Going}
use lib.ListN.{length}
use Rattle.blames.proofs.entry.greatest.Given as goal

abbrev pub invariant-loop-s : goal.invariant-loop-s
invariant-loop-s l = Going highest l.v l.set l.choice l.high l.rest

abbrev pub decreases-loop-s : goal.decreases-loop-s
decreases-loop-s l = length (members_of l.rest)
