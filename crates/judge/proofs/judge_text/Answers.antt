-- `judge_text`: the rows up to 9 open the case, and the constraints follow; or they refuse it. Assumes nothing.
use Rattle.judge.proofs.Openings.{opening_passes, opening_refuses, passes_check, passes_fields}
use Rattle.judge.proofs.Phases.{refused_all, answers_as}
use Rattle.judge.proofs.Verdicts.{check_goes_on}
use Rattle.judge.specs.Phases.{FieldsHeld}
use Rattle.rules.proofs.Judgement.Rows.{from_constraints}
use Rattle.rules.specs.Tree.{Tree}
use Rattle.rules.specs.Verdict.{Found}
use mathlib.Core.Path.{refl, sym, subst, ◌∙◌}
use Rattle.judge.proofs.judge_text.Goals as goal

pub returns-in-Ok-clause-answers : goal.returns-in-Ok-clause-answers
returns-in-Ok-clause-answers c =
    let b = c.open_text in
    let x = c.in-Ok in
    let (k, p) = opening_passes _ b.new.fields _ b.result b.new.states b.new.work b.ensures x.case x.is in
    answers_as (sym (passes_check p)) b.auto.states (c.judge_constraints.ensures k p.claimed)

pub returns-in-Ok-clause-fields : goal.returns-in-Ok-clause-fields
returns-in-Ok-clause-fields c =
    let b = c.open_text in
    let x = c.in-Ok in
    let (k, p) = opening_passes _ b.new.fields _ b.result b.new.states b.new.work b.ensures x.case x.is in
    passes_fields p

pub returns-in-Err-clause-answers : goal.returns-in-Err-clause-answers
returns-in-Err-clause-answers c =
    let b = c.open_text in
    let x = c.in-Err in
    let (refuses, zeros) = opening_refuses _ b.new.fields _ b.result b.new.states b.new.work b.ensures x.answer x.is in
    refused_all x.answer (check_goes_on c.args.text.now ∙ refuses from_constraints) refl zeros

pub returns-in-Err-clause-fields : goal.returns-in-Err-clause-fields
unfolding FieldsHeld
returns-in-Err-clause-fields c =
    let b = c.open_text in
    let x = c.in-Err in
    let (refuses, zeros) = opening_refuses _ b.new.fields _ b.result b.new.states b.new.work b.ensures x.answer x.is in
    subst (λ (f : Found Tree). FieldsHeld f b.new.fields) (sym (check_goes_on c.args.text.now ∙ refuses from_constraints)) tt
