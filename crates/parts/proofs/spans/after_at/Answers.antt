-- The row's third number. Assumes nothing.
use Rattle.parts.specs.Spans.{node_after, RowInside}
use Rattle.tree.specs.Layout.{rows_from}
use mathlib.Core.Path.{refl}
use native.Mathlib.Omega.{arith}
use Rattle.parts.proofs.spans.after_at.Goals as goal

pub bounds-work-at : goal.bounds-work-at
unfolding RowInside rows_from
bounds-work-at c = omega (arith, c.requires)

pub returns : goal.returns
unfolding node_after rows_from
returns c = refl
