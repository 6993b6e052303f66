-- `too_long`: the digits and the positions of the gaps below s (Counted). Assumes nothing.
use Rattle.seeking.proofs.Long.{Counted}
use Rattle.seeking.proofs.too_long.Given as goal

abbrev pub invariant-loop-s : goal.invariant-loop-s
invariant-loop-s l = Counted l.choice l.s l.digits l.set
