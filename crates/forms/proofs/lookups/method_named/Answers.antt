-- By what the table of the methods' names answers, and whether that method suits. Assumes nothing.
use mathlib.Core.Path.{sym, ap, ◌∙◌}
use Rattle.rules.specs.Case.{method_at}
use Rattle.rules.specs.Form.{suits}
use Rattle.shapes.specs.Shapes.{bytes}
use Rattle.forms.specs.Held.{named}
use Rattle.forms.proofs.Named.{at_low, method_low, model_low, no_method_lem, a_method}
use Rattle.forms.proofs.lookups.method_named.Goals as goal

pub suits-requires : goal.suits-requires
suits-requires c =
    let a = c.args in
    let e = c.in_ok-m.ensures in
    (c.requires.modelled.0, c.requires.modelled.1, c.requires.modelled.2, model_low _ _ _ _ _ _ _ c.requires.modelled.2.methods (bytes a.form.now a.from a.to) e)

pub returns-then-suits-clause-ids_value : goal.returns-then-suits-clause-ids_value
returns-then-suits-clause-ids_value c =
    let a = c.args in
    let e = c.in_ok-m.ensures in
    let name = bytes a.form.now a.from a.to in
    λ k ns t n ids q.
    a_method k ns _ _ _ _ _ t.methods name n a.task ids _ e _
    (ap (suits (method_at k.methods _) a.task) (sym q) ∙ (sym (c.suits.ensures k ns t (model_low k ns _ _ _ _ _ t.methods name e)) ∙ c.if-suits.true))

pub returns-then-suits-clause-by_index : goal.returns-then-suits-clause-by_index
returns-then-suits-clause-by_index c =
    let a = c.args in
    let e = c.in_ok-m.ensures in
    let name = bytes a.form.now a.from a.to in
    λ i q. at_low _ i _ (method_low _ _ _ _ _ _ _ c.requires.modelled.2.methods name e) q

pub returns-clause-ids_value : goal.returns-clause-ids_value
returns-clause-ids_value c =
    let a = c.args in
    let e = c.in_ok-m.ensures in
    let name = bytes a.form.now a.from a.to in
    λ k ns t n ids q.
    a_method k ns _ _ _ _ _ t.methods name n a.task ids _ e _
    (ap (suits (method_at k.methods _) a.task) (sym q) ∙ (sym (c.suits.ensures k ns t (model_low k ns _ _ _ _ _ t.methods name e)) ∙ c.if-suits.false))

pub returns-in_err-m-clause-ids_value : goal.returns-in_err-m-clause-ids_value
returns-in_err-m-clause-ids_value c =
    let a = c.args in
    λ k ns t n ids q. no_method_lem k ns _ _ _ _ _ t.methods (bytes a.form.now a.from a.to) n a.task ids c.in_err-m.ensures ∙ ap (named n) (sym c.from_residual.ensures)
