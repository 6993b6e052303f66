-- `put_lines`: the lines before `at` are put (Lines). Assumes nothing.
use Prim.Native.Nat.{◌-◌}
use mathlib.Core.List.{List}
use Rattle.rules.specs.Case.{Valued}
use Rattle.output.specs.Output.{HasLines}
use Rattle.output.proofs.Lines.{Written}
use Rattle.output.proofs.put_lines.Given as goal

abbrev pub invariant-loop-at : goal.invariant-loop-at
invariant-loop-at l = (xs : List Valued) → HasLines l.cues l.fields l.end xs → Written l.cues l.fields l.end l.initial.out xs l.at l.to l.out

abbrev pub decreases-loop-at : goal.decreases-loop-at
decreases-loop-at l = l.end - l.at
