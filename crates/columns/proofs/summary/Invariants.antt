-- `summary`: the digits of the words from w on, turned, are in the sum (Tests): which of them are not as the sign asks. Assumes nothing.
use Rattle.columns.proofs.Filling.{Tests, amiss}
use Rattle.columns.proofs.summary.Given as goal

abbrev pub invariant-loop-w : goal.invariant-loop-w
invariant-loop-w l = Tests (amiss l.sign l.column) l.w l.words l.sum
