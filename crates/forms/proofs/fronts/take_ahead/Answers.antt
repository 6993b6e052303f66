-- `take_ahead`: by the line's shape, by how many lines there were, and by its name. Assumes nothing.
use mathlib.Core.Path.{ap, subst, ◌∙◌}
use Prim.Native.Nat.{◌+◌, ◌-◌}
use native.Mathlib.Omega.{arith}
use Rattle.std.specs.Prelude.{Some}
use Rattle.std.proofs.lemmas.Result.{err_from_is_err_and}
use Rattle.shapes.specs.Shapes.{FrontIs}
use Rattle.forms.specs.Held.{named}
use Rattle.forms.proofs.Answered.{there, missing}
use Rattle.forms.proofs.FrontLines.{front_other, front_unnamed}
use Rattle.forms.proofs.fronts.take_ahead.Goals as goal

pub returns-in_err-id : goal.returns-in_err-id
returns-in_err-id c =
    let a = c.args in
    let m = missing c.front_line.result _ _ c.in_err-id.ensures.value in
    let p = err_from_is_err_and c.from_residual.result c.from_residual.ensures.1 in
    let f = subst (FrontIs a.form.now a.at) m.0 c.front_line.ensures in
    λ k ns t. rw (p.1, p.2, m.1) (front_other k ns a.form.now (a.e + 1) (a.e + 2) a.at (3000 - a.e) (f (a.e + 2)))

pub returns-in_err-a-in-Action : goal.returns-in_err-a-in-Action
returns-in_err-a-in-Action c =
    let a = c.args in
    let f = subst (FrontIs a.form.now a.at) (there c.front_line.result _ _ c.in_ok-id.ensures.value ∙ ap (λ x. Some x) c.in-Action.is) c.front_line.ensures in
    let m = missing c.action_named.result _ _ c.in_err-a-in-Action.ensures.value in
    let p = err_from_is_err_and c.from_residual-in_err-a-in-Action.result c.from_residual-in_err-a-in-Action.ensures.1 in
    let few = c.requires.e_bound.0 in
    let fewer = c.if-e-eq-LINES.false in
    λ k ns t. rw (p.1, p.2, m.1)
    (front_unnamed k ns a.form.now (a.e + 1) (a.e + 2) a.at _ _ _ (f.2 (a.e + 2)) (3000 - a.e) _ (omega arith)
    (c.action_named.ensures.to_value k ns t (a.e + 2) ∙ ap (named (a.e + 2)) m.0))
