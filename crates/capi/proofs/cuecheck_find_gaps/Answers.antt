-- The nodes are the records owed, since what `find` finds is what the check accepts of some text; the answers are `find_answers`. Assumes nothing.
use Rattle.std.proofs.Common.{ℕ, length, replicate, sym, ap, subst, ◌∙◌}
use Rattle.rules.specs.Verdict.{check_lists, answer_of, reported, work_after, nodes_after}
use Rattle.rules.specs.Demands.{lent_by}
use Rattle.rules.specs.Gaps.{find_gaps, FindAnswers}
use Rattle.rules.proofs.Gaps.Answers.{find_answers}
use Rattle.verdict.proofs.Records.{records_fit, records_filled, fits_left, filled_left}
use Rattle.verdict.proofs.Finds.{find_comes}
use Rattle.capi.proofs.cuecheck_find_gaps.Goals as goal

pub fill-requires : goal.fill-requires
fill-requires c =
    let s = length c.args.states.now in
    let n = length c.args.nodes.now in
    let w = length c.args.work.now in
    let j = c.find-found in
    let found = find_gaps j.ensures.number (check_lists s n w) c.args.text.now in
    let comes = find_comes s n w j.ensures.number c.args.text.now in
    fits_left n w c.records_found.result j.new.work j.result.answer (answer_of found) c.records_found.ensures j.ensures.answer j.auto.work
    (records_fit s n w comes.0 found comes.1)

pub returns-clause-demand1 : goal.returns-clause-demand1
unfolding lent_by work_after
returns-clause-demand1 c =
    let s = length c.args.states.now in
    let n = length c.args.nodes.now in
    let w = length c.args.work.now in
    let j = c.find-found in
    let found = find_gaps j.ensures.number (check_lists s n w) c.args.text.now in
    let comes = find_comes s n w j.ensures.number c.args.text.now in
    record {
      number = j.ensures.number;
      limited = j.ensures.within;
      answer = c.as_found.ensures.0 ∙ ap reported j.ensures.answer;
      answered = c.as_found.ensures.1 ∙ j.ensures.answered;
      states = j.ensures.states_held;
      nodes =
          filled_left n c.records_found.result j.new.work c.fill.new.nodes (nodes_after n found) j.result.answer (answer_of found) c.fill.ensures
          c.records_found.ensures j.ensures.answer (records_filled s n w comes.0 j.new.work found comes.1 j.ensures.records_held);
      work = c.clear_work.ensures ∙ ap (λ (m : ℕ). replicate {A = ℕ} m 0) j.auto.work;
    }

pub returns-clause-answers : goal.returns-clause-answers
unfolding lent_by
returns-clause-answers c =
    let lists = check_lists (length c.args.states.now) (length c.args.nodes.now) (length c.args.work.now) in
    subst (FindAnswers c.args.text.now lists) (sym (c.as_found.ensures.0 ∙ ap reported c.find-found.ensures.answer))
    (find_answers c.args.text.now lists c.find-found.ensures.number)
