-- `keeps`: the letter picks the test, and each test is the definition's. Assumes nothing.
use Rattle.parts.proofs.Letters.{numbered_O, numbered_B, numbered_F, numbered_W, keeps_order, keeps_before, keeps_after, keeps_between}
use Rattle.parts.specs.Tests.{Timed, Tested}
use Rattle.index.specs.Spans.{span_of}
use Rattle.rules.specs.State.{word_count}
use mathlib.Core.Path.{sym, subst, ◌∙◌}
use native.Mathlib.Omega.{arith}
use Rattle.parts.proofs.tests.keeps.Goals as goal

pub span_of_set-u-requires-clause-each : goal.span_of_set-u-requires-clause-each
span_of_set-u-requires-clause-each c =
    let a = c.args in
    let is_W = numbered_W a.letter a.first a.second a.third (sym c.is_either.ensures ∙ c.if-is_either.true) in
    let tested = subst (Tested a.work.now a.n (span_of a.own)) is_W c.requires.tested in
    tested.0.subtasks

pub span_of_set-v-requires-clause-each : goal.span_of_set-v-requires-clause-each
span_of_set-v-requires-clause-each c =
    let a = c.args in
    let is_W = numbered_W a.letter a.first a.second a.third (sym c.is_either.ensures ∙ c.if-is_either.true) in
    let tested = subst (Tested a.work.now a.n (span_of a.own)) is_W c.requires.tested in
    tested.1.subtasks

pub keeps_between-requires-clause-v_bound : goal.keeps_between-requires-clause-v_bound
keeps_between-requires-clause-v_bound c =
    let a = c.args in
    let is_W = numbered_W a.letter a.first a.second a.third (sym c.is_either.ensures ∙ c.if-is_either.true) in
    let tested = subst (Tested a.work.now a.n (span_of a.own)) is_W c.requires.tested in
    let t = subst (Timed a.n) (sym c.span_of_set-v.ensures) tested.1.timed in
    t.before_start

pub returns-then-is_either-clause-value : goal.returns-then-is_either-clause-value
returns-then-is_either-clause-value c =
    let a = c.args in
    let is_W = numbered_W a.letter a.first a.second a.third (sym c.is_either.ensures ∙ c.if-is_either.true) in
    keeps_between a.work.now a.states.now (span_of a.own) c.sign_of-sign.ensures a.first a.second a.third is_W c.span_of_set-u.ensures c.span_of_set-v.ensures c.keeps_between.ensures.value

pub span_of_set-requires-clause-each : goal.span_of_set-requires-clause-each
span_of_set-requires-clause-each c =
    let a = c.args in
    let not_W = sym c.is_either.ensures ∙ c.if-is_either.false in
    let is_F = numbered_F a.letter a.first a.second a.third not_W (sym c.is_either-2.ensures ∙ c.if-is_either-2.true) in
    let tested = subst (Tested a.work.now a.n (span_of a.own)) is_F c.requires.tested in
    tested.subtasks

pub keeps_after-requires : goal.keeps_after-requires
unfolding word_count
keeps_after-requires c =
    let a = c.args in
    let k = c.requires.columns.there in
    let not_W = sym c.is_either.ensures ∙ c.if-is_either.false in
    let is_F = numbered_F a.letter a.first a.second a.third not_W (sym c.is_either-2.ensures ∙ c.if-is_either-2.true) in
    let tested = subst (Tested a.work.now a.n (span_of a.own)) is_F c.requires.tested in
    let t = subst (Timed a.n) (sym c.span_of_set.ensures) tested.timed in
    omega (arith, t.at_end)

pub returns-then-is_either-2-clause-value : goal.returns-then-is_either-2-clause-value
returns-then-is_either-2-clause-value c =
    let a = c.args in
    let not_W = sym c.is_either.ensures ∙ c.if-is_either.false in
    let is_F = numbered_F a.letter a.first a.second a.third not_W (sym c.is_either-2.ensures ∙ c.if-is_either-2.true) in
    keeps_after a.work.now a.states.now (span_of a.own) c.sign_of-sign.ensures a.first a.second is_F c.span_of_set.ensures c.keeps_after.ensures

pub span_of_set-requires-then-is_either-3-clause-each :
    goal.span_of_set-requires-then-is_either-3-clause-each
span_of_set-requires-then-is_either-3-clause-each c =
    let a = c.args in
    let not_W = sym c.is_either.ensures ∙ c.if-is_either.false in
    let not_F = sym c.is_either-2.ensures ∙ c.if-is_either-2.false in
    let is_B = numbered_B a.letter a.first a.second a.third not_W not_F (sym c.is_either-3.ensures ∙ c.if-is_either-3.true) in
    let tested = subst (Tested a.work.now a.n (span_of a.own)) is_B c.requires.tested in
    tested.subtasks

pub keeps_before-requires-clause-bound : goal.keeps_before-requires-clause-bound
keeps_before-requires-clause-bound c =
    let a = c.args in
    let not_W = sym c.is_either.ensures ∙ c.if-is_either.false in
    let not_F = sym c.is_either-2.ensures ∙ c.if-is_either-2.false in
    let is_B = numbered_B a.letter a.first a.second a.third not_W not_F (sym c.is_either-3.ensures ∙ c.if-is_either-3.true) in
    let tested = subst (Tested a.work.now a.n (span_of a.own)) is_B c.requires.tested in
    let t = subst (Timed a.n) (sym c.span_of_set-then-is_either-3.ensures) tested.timed in
    t.past_first

pub keeps_before-requires-clause-u_in_bounds : goal.keeps_before-requires-clause-u_in_bounds
unfolding word_count
keeps_before-requires-clause-u_in_bounds c =
    let a = c.args in
    let k = c.requires.columns.there in
    let not_W = sym c.is_either.ensures ∙ c.if-is_either.false in
    let not_F = sym c.is_either-2.ensures ∙ c.if-is_either-2.false in
    let is_B = numbered_B a.letter a.first a.second a.third not_W not_F (sym c.is_either-3.ensures ∙ c.if-is_either-3.true) in
    let tested = subst (Tested a.work.now a.n (span_of a.own)) is_B c.requires.tested in
    let t = subst (Timed a.n) (sym c.span_of_set-then-is_either-3.ensures) tested.timed in
    omega (arith, t.before_start)

pub returns-then-is_either-3-clause-value : goal.returns-then-is_either-3-clause-value
returns-then-is_either-3-clause-value c =
    let a = c.args in
    let not_W = sym c.is_either.ensures ∙ c.if-is_either.false in
    let not_F = sym c.is_either-2.ensures ∙ c.if-is_either-2.false in
    let is_B = numbered_B a.letter a.first a.second a.third not_W not_F (sym c.is_either-3.ensures ∙ c.if-is_either-3.true) in
    keeps_before a.work.now a.states.now (span_of a.own) c.sign_of-sign.ensures a.first a.second is_B c.span_of_set-then-is_either-3.ensures c.keeps_before.ensures

pub subtask_span-requires-clause-subtask_inside : goal.subtask_span-requires-clause-subtask_inside
subtask_span-requires-clause-subtask_inside c =
    let a = c.args in
    let not_W = sym c.is_either.ensures ∙ c.if-is_either.false in
    let not_F = sym c.is_either-2.ensures ∙ c.if-is_either-2.false in
    let is_O = numbered_O a.letter a.first a.second a.third not_W not_F (sym c.is_either-3.ensures ∙ c.if-is_either-3.false) in
    let tested = subst (Tested a.work.now a.n (span_of a.own)) is_O c.requires.tested in
    tested.0

pub subtask_span-requires-2-clause-subtask_inside :
    goal.subtask_span-requires-2-clause-subtask_inside
subtask_span-requires-2-clause-subtask_inside c =
    let a = c.args in
    let not_W = sym c.is_either.ensures ∙ c.if-is_either.false in
    let not_F = sym c.is_either-2.ensures ∙ c.if-is_either-2.false in
    let is_O = numbered_O a.letter a.first a.second a.third not_W not_F (sym c.is_either-3.ensures ∙ c.if-is_either-3.false) in
    let tested = subst (Tested a.work.now a.n (span_of a.own)) is_O c.requires.tested in
    tested.1

pub returns-clause-value : goal.returns-clause-value
returns-clause-value c =
    let a = c.args in
    let not_W = sym c.is_either.ensures ∙ c.if-is_either.false in
    let not_F = sym c.is_either-2.ensures ∙ c.if-is_either-2.false in
    let is_O = numbered_O a.letter a.first a.second a.third not_W not_F (sym c.is_either-3.ensures ∙ c.if-is_either-3.false) in
    let tested = subst (Tested a.work.now a.n (span_of a.own)) is_O c.requires.tested in
    keeps_order a.work.now a.states.now (span_of a.own) a.first a.second c.requires.subtasks_past_in_bounds is_O tested c.subtask_span.ensures c.subtask_span-2.ensures c.is_before.ensures
