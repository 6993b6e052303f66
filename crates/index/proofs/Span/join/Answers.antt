-- The least start and the greatest end of two are the hull of the two. Assumes nothing.
use mathlib.Core.Path.{sym, ap, ap₂, ◌∙◌}
use Rattle.rules.proofs.Spans.{span_from, hull_two}
use Rattle.index.specs.Spans.{span_of, index_in}
use Rattle.index.proofs.Orders.{lesser, greater}
use Rattle.index.proofs.Span.join.Goals as goal

pub returns : goal.returns
returns c =
    let a = c.args in
    ap₂ span_from (ap index_in c.min.ensures ∙ lesser a.self.start a.other.start) (ap index_in c.max.ensures ∙ greater a.self.end a.other.end)
    ∙ sym (hull_two (span_of a.self) (span_of a.other))
