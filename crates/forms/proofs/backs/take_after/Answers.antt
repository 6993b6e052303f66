-- `take_after`: by the line's shape, by how many lines there were, and by its names. Assumes nothing.
use mathlib.Core.Path.{refl, sym, ap, subst, ◌∙◌}
use Prim.Native.Nat.{◌+◌, ◌-◌, ◌<◌}
use native.Mathlib.Omega.{arith}
use Rattle.std.specs.Prelude.{Some}
use Rattle.std.proofs.lemmas.Result.{err_from_is_err_and}
use Rattle.rules.specs.declared.Header.{Header}
use Rattle.shapes.specs.Shapes.{BackIs}
use Rattle.forms.specs.Held.{named}
use Rattle.forms.proofs.Answered.{there, missing}
use Rattle.forms.proofs.BackLines.{back_other, back_unnamed, back_taken, few_subtasks}
use Rattle.forms.proofs.backs.take_after.Goals as goal

pub returns-in_err-id : goal.returns-in_err-id
returns-in_err-id c =
    let a = c.args in
    let m = missing c.back_line.result _ _ c.in_err-id.ensures.value in
    let p = err_from_is_err_and c.from_residual.result c.from_residual.ensures.1 in
    let f = subst (BackIs a.form.now a.at) m.0 c.back_line.ensures in
    λ k ns t. rw (p.1, p.2, m.1) (back_other k ns a.form.now (a.e + 3) a.at (3000 - a.e) (f (a.e + 3)))

pub returns-in_err-m-in-Compound : goal.returns-in_err-m-in-Compound
returns-in_err-m-in-Compound c =
    let a = c.args in
    let f = subst (BackIs a.form.now a.at) (there c.back_line.result _ _ c.in_ok-id.ensures.value ∙ ap (λ x. Some x) c.in-Compound.is) c.back_line.ensures in
    let n = missing c.both_named.result _ _ c.in_err-m-in-Compound.ensures.value in
    let p = err_from_is_err_and c.from_residual-in_err-m-in-Compound.result c.from_residual-in_err-m-in-Compound.ensures.1 in
    let few = c.requires.e_bound.0 in
    let fewer = c.if-e-eq-LINES.false in
    λ k ns t. rw (p.1, p.2, n.1)
    (back_unnamed k ns a.form.now (a.e + 3) a.at _ _ _ _ f.4.0 (f.4.3 (a.e + 3)) (3000 - a.e) _ (omega arith)
    (c.both_named.ensures.ids_value k ns t (a.e + 3) f.4.0 f.4.2 ∙ ap (named (a.e + 3)) n.0))

pub returns-in_ok-m-in-Compound : goal.returns-in_ok-m-in-Compound
returns-in_ok-m-in-Compound c =
    let a = c.args in
    let f = subst (BackIs a.form.now a.at) (there c.back_line.result _ _ c.in_ok-id.ensures.value ∙ ap (λ x. Some x) c.in-Compound.is) c.back_line.ensures in
    let n = there c.both_named.result c.in_ok-m-in-Compound.m _ c.in_ok-m-in-Compound.ensures.value in
    let few = c.requires.e_bound.0 in
    let fewer = c.if-e-eq-LINES.false in
    λ k ns t.
    let m = c.both_named.ensures.ids_value k ns t (a.e + 3) f.4.0 f.4.2 ∙ ap (named (a.e + 3)) n in
    let low = subst (λ (x : Header). c.in_ok-m-in-Compound.m < x.methods) (sym t.methods.head) (c.both_named.ensures.by_index c.in_ok-m-in-Compound.m n) in (
      _,
      _,
      _,
      f.4.0,
      refl,
      refl,
      refl,
      omega arith,
      f.4.1,
      few_subtasks k ns _ _ t.here (a.e + 3) _ _ _ f.4.0 m low,
      λ left. back_taken k ns a.form.now (a.e + 3) a.at _ _ _ _ f.4.0 (f.4.3 (a.e + 3)) left _ m,
    )
