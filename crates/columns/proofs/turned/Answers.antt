-- `turned`: for Positive the word itself; for Negative the word turned over, whose bits are the others. Assumes nothing.
use Rattle.columns.proofs.Masks.{bit_over}
use Rattle.rules.specs.declared.Sign.{Sign}
use Rattle.rules.specs.State.{bit}
use Rattle.rules.specs.Constraint.{signed}
use mathlib.Core.Bool.{not}
use mathlib.Core.Path.{sym, ap, ◌∙◌}
use Rattle.columns.proofs.turned.Goals as goal

pub returns-in-Positive : goal.returns-in-Positive
unfolding signed
returns-in-Positive c = λ i h. ap (λ (g : Sign). signed g (not (bit c.args.word i))) (sym c.in-Positive.is)

pub returns-in-Negative : goal.returns-in-Negative
unfolding signed
returns-in-Negative c = λ i h.
    let w = c.args.word in
    ap not (bit_over w i h) ∙ ap (λ (g : Sign). signed g (not (bit w i))) (sym c.in-Negative.is)
