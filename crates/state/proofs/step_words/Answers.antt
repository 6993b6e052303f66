-- The step goes by the same test as the definition, and gives the same pair, whatever the rest of the state is. Assumes nothing.
use mathlib.Core.List.{◌++◌}
use mathlib.Core.Path.{sym, ◌∙◌}
use Rattle.state.specs.Words.{widened_action}
use Rattle.state.proofs.Tests.{step_yes, step_no}
use Rattle.state.proofs.Words.{applies_front, next_front}
use Rattle.state.proofs.step_words.Goals as goal

pub returns-then-not-applies : goal.returns-then-not-applies
returns-then-not-applies c =
    let a = c.args in
    λ rest whole.
    step_no (a.s.now ++ rest) (widened_action a.needed.now a.forbidden.now a.added.now a.deleted.now)
    (applies_front a.s.now rest a.needed.now a.forbidden.now a.added.now a.deleted.now whole c.requires.tests.0 c.requires.tests.1
    ∙ sym c.applies.ensures ∙ c.if-not-applies.true)

pub returns : goal.returns
returns c =
    let a = c.args in
    let t = c.advance.new.s in
    λ rest whole.
    step_yes (a.s.now ++ rest) (widened_action a.needed.now a.forbidden.now a.added.now a.deleted.now) (t ++ rest)
    (applies_front a.s.now rest a.needed.now a.forbidden.now a.added.now a.deleted.now whole c.requires.tests.0 c.requires.tests.1
    ∙ sym c.applies.ensures ∙ c.if-not-applies.false)
    (next_front a.s.now rest a.needed.now a.forbidden.now a.added.now a.deleted.now whole c.requires.changes.0 c.requires.changes.1 t
    c.advance.ensures)
