-- `put_decimal`: the digits passed are put (Digits). Assumes nothing.
use Rattle.report.proofs.Digits.{Digits}
use Rattle.report.proofs.put_decimal.Given as goal

abbrev pub invariant-loop-rest : goal.invariant-loop-rest
invariant-loop-rest l = Digits l.n l.at l.initial.out l.rest l.i l.out

abbrev pub decreases-loop-rest : goal.decreases-loop-rest
decreases-loop-rest l = l.rest
