-- `line_size`: the items from here on (Items). Assumes nothing.
use Rattle.rules.specs.Case.{Valued}
use Rattle.rules.specs.Fields.{line_fields}
use Rattle.fields.specs.Standing.{Stands}
use Rattle.sizes.specs.Sizes.{IsLine}
use Rattle.sizes.proofs.Items.{Passing}
use Rattle.sizes.proofs.line_size.Given as goal

abbrev pub invariant-loop-rest : goal.invariant-loop-rest
invariant-loop-rest l = (x : Valued) → IsLine l.cues x → Stands l.fields l.at (line_fields x) → Passing l.cues l.fields l.at x l.rest l.size

abbrev pub decreases-loop-rest : goal.decreases-loop-rest
decreases-loop-rest l = l.rest
