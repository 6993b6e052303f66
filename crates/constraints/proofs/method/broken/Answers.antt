-- The letter picks the answer. Assumes nothing.
use Rattle.parts.proofs.Letters.{numbered_O, numbered_B, numbered_F, numbered_W}
use Rattle.rules.specs.Constraint.{broken_at}
use mathlib.Core.Path.{sym, ap, ◌∙◌}
use Rattle.constraints.proofs.method.broken.Goals as goal

pub returns-then-is_either : goal.returns-then-is_either
unfolding broken_at
returns-then-is_either c = λ x y z.
    let a = c.args in
    sym (ap (broken_at a.line a.number) (numbered_W a.letter x y z (sym c.is_either.ensures ∙ c.if-is_either.true)))

pub returns-then-is_either-2 : goal.returns-then-is_either-2
unfolding broken_at
returns-then-is_either-2 c = λ x y z.
    let a = c.args in
    let f = sym c.is_either-2.ensures ∙ c.if-is_either-2.true in
    sym (ap (broken_at a.line a.number) (numbered_F a.letter x y z (sym c.is_either.ensures ∙ c.if-is_either.false) f))

pub returns-then-is_either-3 : goal.returns-then-is_either-3
unfolding broken_at
returns-then-is_either-3 c = λ x y z.
    let a = c.args in
    let b = sym c.is_either-3.ensures ∙ c.if-is_either-3.true in
    sym (ap (broken_at a.line a.number) (numbered_B a.letter x y z (sym c.is_either.ensures ∙ c.if-is_either.false) (sym c.is_either-2.ensures ∙ c.if-is_either-2.false) b))

pub returns : goal.returns
unfolding broken_at
returns c = λ x y z.
    let a = c.args in
    let b = sym c.is_either-3.ensures ∙ c.if-is_either-3.false in
    sym (ap (broken_at a.line a.number) (numbered_O a.letter x y z (sym c.is_either.ensures ∙ c.if-is_either.false) (sym c.is_either-2.ensures ∙ c.if-is_either-2.false) b))
