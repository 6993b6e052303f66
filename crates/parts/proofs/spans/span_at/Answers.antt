-- The row's first two numbers. Assumes nothing.
use mathlib.Core.Path.{ap₂}
use native.Mathlib.Omega.{arith}
use Rattle.index.specs.declared.Doubled.{Doubled}
use Rattle.index.specs.Spans.{span_of}
use Rattle.tree.specs.Layout.{rows_from}
use Rattle.parts.specs.Spans.{row_span, RowInside}
use Rattle.parts.proofs.spans.span_at.Goals as goal

pub bounds-work-at : goal.bounds-work-at
unfolding RowInside rows_from
bounds-work-at c = omega (arith, c.requires)

pub bounds-work-at-2 : goal.bounds-work-at-2
unfolding RowInside rows_from
bounds-work-at-2 c = omega (arith, c.requires)

pub returns : goal.returns
unfolding row_span rows_from
returns c = ap₂ (λ (x y : Doubled). span_of (record { start = x; end = y })) c.stored.ensures c.stored-2.ensures
