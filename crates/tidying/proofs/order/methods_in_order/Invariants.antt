-- `methods_in_order`: all are in order exactly where those left are (Passing). Assumes nothing.
use mathlib.Core.List.{List}
use Rattle.rules.specs.Case.{Method}
use Rattle.tidying.specs.Tidy.{MethodsHere}
use Rattle.tidying.proofs.Passing.{Trying}
use Rattle.tidying.proofs.order.methods_in_order.Given as goal

abbrev pub invariant-loop-i : goal.invariant-loop-i
invariant-loop-i l = (ms : List Method) → MethodsHere l.fields l.from l.count ms → Trying l.fields ms l.at l._i
