-- `is_compound`: from the action count on, what is left over it tells. Assumes nothing.
use mathlib.Core.Path.{◌∙◌}
use borrow.Author.Tests.{lt-leb}
use Rattle.lines.proofs.Ranges.{compound_above, compound_below}
use Rattle.lines.proofs.range.is_compound.Goals as goal

pub returns-then-actions-t : goal.returns-then-actions-t
returns-then-actions-t c = compound_above c.args.actions c.args.compounds c.args.t c.if-actions-t.true

pub returns-else-actions-t : goal.returns-else-actions-t
returns-else-actions-t c =
    lt-leb c.args.actions c.args.t c.if-actions-t.false ∙ compound_below c.args.actions c.args.compounds c.args.t c.if-actions-t.false
