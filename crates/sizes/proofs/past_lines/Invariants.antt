-- `past_lines`: the lines from here on (Lines). Assumes nothing.
use mathlib.Core.Path.{◌≡◌}
use mathlib.Core.List.{List}
use lib.ListN.{length}
use Rattle.rules.specs.Case.{Valued}
use Rattle.rules.specs.Fields.{lines_fields}
use Rattle.fields.specs.Standing.{Stands}
use Rattle.sizes.specs.Sizes.{AreLines}
use Rattle.sizes.proofs.Lines.{Going}
use Rattle.sizes.proofs.past_lines.Given as goal

abbrev pub invariant-loop-i : goal.invariant-loop-i
invariant-loop-i l =
    (xs : List Valued) → length xs ≡ l.count → AreLines l.cues xs → Stands l.fields l.at (lines_fields xs) → Going l.cues l.fields l.at l.count xs l.past l._i
