-- `apart`: byte 1 is the goal, 2 the other subtask, and 0 a task. Assumes nothing.
use Rattle.lines.specs.Shapes.{kind_of}
use Rattle.lines.specs.Ranges.{apart_from}
use mathlib.Core.Path.{◌≡◌}
use native.Mathlib.Omega.{arith}
use Rattle.lines.proofs.range.apart.Goals as goal

pub returns-in-1 : goal.returns-in-1
unfolding apart_from kind_of
returns-in-1 c = rw c.in-1.is c.is_compound.ensures

pub returns-in-2 : goal.returns-in-2
unfolding apart_from kind_of
returns-in-2 c = rw c.in-2.is

pub returns-in_default : goal.returns-in_default
unfolding apart_from kind_of
returns-in_default c = let zero : c.args.kind ≡ 0 = omega arith in rw zero
