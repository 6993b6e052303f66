-- `span_of`: the least and the greatest, as a span. Assumes nothing.
use Rattle.index.specs.Spans.{index_in}
use Rattle.blames.specs.Entries.{edges}
use Prim.Native.Nat.{ℕ}
use mathlib.Core.Path.{ap, ap₂, ◌∙◌}
use Rattle.blames.proofs.entry.span_of.Goals as goal

pub returns : goal.returns
unfolding edges
returns c =
    ap₂ (λ (a b : ℕ). record { start = a; end = b }) (ap index_in c.stored.ensures ∙ c.least.ensures)
    (ap index_in c.stored-2.ensures ∙ c.greatest.ensures)
