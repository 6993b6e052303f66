-- The step's answer as a number, and the trace of the words that were computed. Assumes nothing.
use Rattle.std.proofs.Common.{sym, ◌∙◌}
use Rattle.rules.specs.State.{touched}
use Rattle.rules.proofs.Quiet.{traced_yes, traced_no}
use Rattle.capi.specs.Stepping.{lent_action}
use borrow.Author.Tests.{not-true, not-false}
use Rattle.capi.proofs.cuecheck_step.Goals as goal

pub returns-then-not-r-clause-traced : goal.returns-then-not-r-clause-traced
returns-then-not-r-clause-traced c =
    let r = c.step-r in
    let a = c.args in
    let words = r.result.state.words in
    traced_no a.state.now (lent_action a.needed.now a.forbidden.now a.added.now a.deleted.now) words ((λ j. (sym (not-true r.result.ok c.if-not-r.true) j, words)) ∙ r.ensures)

pub returns-clause-traced : goal.returns-clause-traced
unfolding touched
returns-clause-traced c =
    let r = c.step-r in
    let a = c.args in
    let words = r.result.state.words in
    traced_yes a.state.now (lent_action a.needed.now a.forbidden.now a.added.now a.deleted.now) words ((λ j. (sym (not-false r.result.ok c.if-not-r.false) j, words)) ∙ r.ensures)
    c.computed-computed.result c.computed-computed.ensures
