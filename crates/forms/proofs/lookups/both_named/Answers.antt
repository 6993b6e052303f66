-- By what the table of the tasks' names answers, whether that is a compound task, and its method. Assumes nothing.
use mathlib.Core.Path.{sym, ap, ◌∙◌}
use Rattle.shapes.specs.Shapes.{bytes}
use Rattle.forms.specs.Held.{named}
use Rattle.forms.proofs.Named.{no_task, an_action_lem, a_compound_lem, both_refused, both_found}
use Rattle.forms.proofs.lookups.both_named.Goals as goal

pub returns-then-t-model-clause-ids_value : goal.returns-then-t-model-clause-ids_value
returns-then-t-model-clause-ids_value c =
    let a = c.args in
    λ k ns t n ids q. both_refused k ns n _ _ ids (an_action_lem k ns _ _ _ _ _ t.tasks (bytes a.form.now a.from a.to) n _ c.in_ok-t.ensures c.if-t-model.true).1

pub returns-clause-ids_value : goal.returns-clause-ids_value
returns-clause-ids_value c =
    let a = c.args in
    λ k ns t n ids q.
    both_found k ns n _ _ _ ids (a_compound_lem k ns _ _ _ _ _ t.tasks (bytes a.form.now a.from a.to) n _ c.in_ok-t.ensures c.if-t-model.false).1
    ∙ c.method_named.ensures.ids_value k ns t n ids q

pub returns-in_err-t-clause-ids_value : goal.returns-in_err-t-clause-ids_value
returns-in_err-t-clause-ids_value c =
    let a = c.args in
    λ k ns t n ids q. both_refused k ns n _ _ ids (no_task k ns _ _ _ _ _ t.tasks (bytes a.form.now a.from a.to) n c.in_err-t.ensures).1
    ∙ ap (named n) (sym c.from_residual.ensures)
