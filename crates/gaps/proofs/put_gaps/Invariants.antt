-- `put_gaps`: the lines passed hold the gaps of the choice, the lines left are as they came. Assumes nothing.
use Rattle.gaps.proofs.Putting.{Puts}
use Rattle.gaps.proofs.put_gaps.Given as goal

abbrev pub invariant-loop : goal.invariant-loop
invariant-loop l = Puts l.initial.fields l.choice l.nodes l.count l.fields l.at l.counter l.a
