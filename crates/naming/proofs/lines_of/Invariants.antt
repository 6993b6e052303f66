-- `lines_of`: the names so far, with those of the lines from here on, are the names of all lines (Progress). Assumes nothing.
use Rattle.naming.proofs.Progress.{Progress}
use Rattle.naming.proofs.lines_of.Given as goal

abbrev pub invariant-loop-i : goal.invariant-loop-i
invariant-loop-i l = Progress l.text l.count l.initial.at l.starts l.ends l.slots l.at l.i
