-- `measure`: the lines before `at` are measured (Lines). Assumes nothing.
use Prim.Native.Nat.{◌-◌}
use mathlib.Core.List.{List}
use Rattle.rules.specs.Case.{Valued}
use Rattle.output.specs.Output.{HasLines}
use Rattle.output.proofs.Lines.{Measured}
use Rattle.output.proofs.measure.Given as goal

abbrev pub invariant-loop-at : goal.invariant-loop-at
invariant-loop-at l = (xs : List Valued) → HasLines l.cues l.fields l.end xs → Measured l.cues l.fields l.end xs l.at l.size

abbrev pub decreases-loop-at : goal.decreases-loop-at
decreases-loop-at l = l.end - l.at
