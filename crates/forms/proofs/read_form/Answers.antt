-- `read_form`: by the opening line, the lines up to the root line, those after it, and what follows them (Whole). Assumes nothing.
use mathlib.Core.Path.{subst}
use native.Mathlib.Omega.{arith}
use Rattle.std.proofs.lemmas.Result.{err_from_is_err_and}
use Rattle.shapes.specs.Shapes.{OpeningIs}
use Rattle.forms.proofs.Answered.{there, missing}
use Rattle.forms.proofs.Whole.{no_opening, front_refusal, back_refusal, backs_few, more_refusal, whole}
use Rattle.forms.proofs.read_form.Goals as goal

pub returns-in_err-second : goal.returns-in_err-second
returns-in_err-second c =
    let a = c.args in
    let m = missing c.past_opening.result _ _ c.in_err-second.ensures.value in
    let p = err_from_is_err_and c.from_residual.result c.from_residual.ensures.1 in
    let o = subst (OpeningIs a.form.now) m.0 c.past_opening.ensures in
    λ k ns t. rw (p.1, p.2, m.1) (no_opening k ns a.form.now o _ _ _)

pub returns-in_err-fronts : goal.returns-in_err-fronts
returns-in_err-fronts c =
    let a = c.args in
    let o = subst (OpeningIs a.form.now) (there c.past_opening.result _ _ c.in_ok-second.ensures.value) c.past_opening.ensures in
    let p = err_from_is_err_and c.from_residual-in_err-fronts.result c.from_residual-in_err-fronts.ensures.1 in
    λ k ns t. rw (p.1, p.2) (front_refusal k ns a.form.now _ o _ _ _ (c.in_err-fronts.ensures k ns t) _)

pub returns-in_err-backs : goal.returns-in_err-backs
returns-in_err-backs c =
    let a = c.args in
    let o = subst (OpeningIs a.form.now) (there c.past_opening.result _ _ c.in_ok-second.ensures.value) c.past_opening.ensures in
    let p = err_from_is_err_and c.from_residual-in_err-backs.result c.from_residual-in_err-backs.ensures.1 in
    λ k ns t. rw (p.1, p.2)
    (back_refusal k ns a.form.now _ o _ _ _ (c.in_ok-fronts.ensures k ns t) _ _ _ _ (c.in_err-backs.ensures k ns t))

pub overflow_cast-result : goal.overflow_cast-result
overflow_cast-result c =
    let a = c.args in
    let r = c.requires.modelled in
    let o = subst (OpeningIs a.form.now) (there c.past_opening.result _ _ c.in_ok-second.ensures.value) c.past_opening.ensures in
    let few = backs_few r.0 r.1 a.form.now _ o _ _ _ (c.in_ok-fronts.ensures r.0 r.1 r.2) _ _ _ _ (c.in_ok-backs.ensures r.0 r.1 r.2) in
    omega arith

pub overflow_add-result : goal.overflow_add-result
overflow_add-result c =
    let a = c.args in
    let r = c.requires.modelled in
    let o = subst (OpeningIs a.form.now) (there c.past_opening.result _ _ c.in_ok-second.ensures.value) c.past_opening.ensures in
    let few = backs_few r.0 r.1 a.form.now _ o _ _ _ (c.in_ok-fronts.ensures r.0 r.1 r.2) _ _ _ _ (c.in_ok-backs.ensures r.0 r.1 r.2) in
    omega arith

pub returns-then-backs-form : goal.returns-then-backs-form
returns-then-backs-form c =
    let a = c.args in
    let o = subst (OpeningIs a.form.now) (there c.past_opening.result _ _ c.in_ok-second.ensures.value) c.past_opening.ensures in
    λ k ns t. more_refusal k ns a.form.now _ o _ _ _ (c.in_ok-fronts.ensures k ns t) _ _ _ _ (c.in_ok-backs.ensures k ns t) c.if-backs-form.true

pub returns : goal.returns
returns c =
    let a = c.args in
    let o = subst (OpeningIs a.form.now) (there c.past_opening.result _ _ c.in_ok-second.ensures.value) c.past_opening.ensures in
    λ k ns t. whole k ns a.form.now _ o _ _ _ (c.in_ok-fronts.ensures k ns t) _ _ _ _ (c.in_ok-backs.ensures k ns t) c.if-backs-form.false
