-- `span_of_set`: the hull of all members is that of what is joined so far and of the members that remain (Joining). Assumes nothing.
use Rattle.index.specs.Spans.{span_of}
use Rattle.parts.proofs.Parts.{Joining}
use Rattle.subsets.specs.Members.{members_of}
use lib.ListN.{length}
use Rattle.parts.proofs.spans.span_of_set.Given as goal

abbrev pub invariant-loop-span : goal.invariant-loop-span
invariant-loop-span l = Joining l.work l.u (span_of l.span) l.rest

abbrev pub decreases-loop-span : goal.decreases-loop-span
decreases-loop-span l = length (members_of l.rest)
