-- `in_order`: all are in order exactly where the last one passed and those left are (Passing). Assumes nothing.
use mathlib.Core.List.{List}
use Rattle.rules.specs.Case.{Constraint}
use Rattle.tidying.specs.Tidy.{ConstraintsHere}
use Rattle.tidying.proofs.Passing.{Passing}
use Rattle.tidying.proofs.order.in_order.Given as goal

abbrev pub invariant-loop-i : goal.invariant-loop-i
invariant-loop-i l = (cs : List Constraint) → ConstraintsHere l.fields l.from l.count cs → Passing l.fields l.from cs l.last l.at l._i
