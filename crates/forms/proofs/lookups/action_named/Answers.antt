-- By what the table of the tasks' names answers, and whether that is an action. Assumes nothing.
use mathlib.Core.Path.{sym, ap, ◌∙◌}
use Rattle.shapes.specs.Shapes.{bytes}
use Rattle.forms.specs.Held.{named}
use Rattle.forms.proofs.Named.{no_task, an_action_lem, a_compound_lem}
use Rattle.forms.proofs.lookups.action_named.Goals as goal

pub returns-then-t-model-clause-to_value : goal.returns-then-t-model-clause-to_value
returns-then-t-model-clause-to_value c =
    let a = c.args in
    λ k ns t n. (an_action_lem k ns _ _ _ _ _ t.tasks (bytes a.form.now a.from a.to) n _ c.in_ok-t.ensures c.if-t-model.true).0

pub returns-clause-to_value : goal.returns-clause-to_value
returns-clause-to_value c =
    let a = c.args in
    λ k ns t n. (a_compound_lem k ns _ _ _ _ _ t.tasks (bytes a.form.now a.from a.to) n _ c.in_ok-t.ensures c.if-t-model.false).0

pub returns-in_err-t-clause-to_value : goal.returns-in_err-t-clause-to_value
returns-in_err-t-clause-to_value c =
    let a = c.args in
    λ k ns t n. (no_task k ns _ _ _ _ _ t.tasks (bytes a.form.now a.from a.to) n c.in_err-t.ensures).0 ∙ ap (named n) (sym c.from_residual.ensures)
