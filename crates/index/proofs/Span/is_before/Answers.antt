-- The code is the definition, by what `f` and `c` ensure and the order of state numbers. Assumes nothing.
use mathlib.Core.Path.{ap₂, ◌∙◌}
use lib.Dec.{ltb}
use Rattle.rules.specs.Index.{is_before}
use Rattle.index.proofs.Orders.{less}
use Rattle.index.proofs.Span.is_before.Goals as goal

pub returns : goal.returns
unfolding is_before
returns c = c.lt.ensures ∙ (less _ _ ∙ ap₂ ltb c.f.ensures c.c.ensures)
