-- `put_line`: the fields before i are put (Texts). Assumes nothing.
use Rattle.output.proofs.Texts.{Putting-line}
use Rattle.output.proofs.put_line.Given as goal

abbrev pub invariant-loop-i : goal.invariant-loop-i
invariant-loop-i l = Putting-line l.fields l.at l.end l.to l.initial.out l.past l.i l.out
