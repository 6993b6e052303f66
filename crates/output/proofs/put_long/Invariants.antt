-- `put_long`: the digits passed are put (Decimals). Assumes nothing.
use Rattle.output.proofs.Decimals.{Digits}
use Rattle.output.proofs.put_long.Given as goal

abbrev pub invariant-loop-rest : goal.invariant-loop-rest
invariant-loop-rest l = Digits l.n l.at l.initial.out l.rest l.i l.out

abbrev pub decreases-loop-rest : goal.decreases-loop-rest
decreases-loop-rest l = l.rest
