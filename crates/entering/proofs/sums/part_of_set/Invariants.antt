-- `part_of_set`: the part of all members is that of what is joined so far and of the members that remain (Joining). Assumes nothing.
use Rattle.entering.proofs.Joining.{Joining}
use Rattle.subsets.specs.Members.{members_of}
use lib.ListN.{length}
use Rattle.entering.proofs.sums.part_of_set.Given as goal

abbrev pub invariant-loop-part : goal.invariant-loop-part
invariant-loop-part l = Joining l.sums l.u l.part l.rest

abbrev pub decreases-loop-part : goal.decreases-loop-part
decreases-loop-part l = length (members_of l.rest)
