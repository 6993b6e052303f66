-- The nodes are the records owed, since `write` finds only what the check accepts; the answers are `write_answers`, and the laws hold of the definitions.
-- Assumes nothing.
use Rattle.std.proofs.Common.{ℕ, length, replicate, sym, ap, subst, ◌∙◌}
use Rattle.rules.specs.Verdict.{check_lists, answer_of, reported, work_after, nodes_after}
use Rattle.rules.specs.Demands.{lent_by}
use Rattle.rules.specs.Writing.{write, WriteAnswers}
use Rattle.rules.proofs.Writing.{writer_laws}
use Rattle.rules.proofs.Writing.Answers.{write_answers}
use Rattle.verdict.proofs.Records.{records_fit, records_filled, fits_left, filled_left}
use Rattle.capi.proofs.Writes.{write_comes}
use Rattle.capi.proofs.cuecheck_write.Goals as goal

pub fill-requires : goal.fill-requires
fill-requires c =
    let s = length c.args.states.now in
    let n = length c.args.nodes.now in
    let w = length c.args.work.now in
    let size = length c.args.output.now in
    let t = c.args.text.now in
    let found = write (check_lists s n w) size t in
    let j = c.write-wrote in
    fits_left n w c.records_of.result j.new.work j.result.answer (answer_of found) c.records_of.ensures j.ensures.answer j.auto.work
    (records_fit s n w t found (write_comes s n w size t))

pub returns-clause-demand1 : goal.returns-clause-demand1
unfolding lent_by work_after
returns-clause-demand1 c =
    let s = length c.args.states.now in
    let n = length c.args.nodes.now in
    let w = length c.args.work.now in
    let size = length c.args.output.now in
    let t = c.args.text.now in
    let found = write (check_lists s n w) size t in
    let j = c.write-wrote in
    record {
      answer = c.as_written.ensures.0 ∙ ap reported j.ensures.answer;
      answered = c.as_written.ensures.1 ∙ j.ensures.answered;
      states = j.ensures.states_held;
      nodes =
          filled_left n c.records_of.result j.new.work c.fill.new.nodes (nodes_after n found) j.result.answer (answer_of found) c.fill.ensures
          c.records_of.ensures j.ensures.answer (records_filled s n w t j.new.work found (write_comes s n w size t) j.ensures.records_held);
      work = c.clear_work.ensures ∙ ap (λ (m : ℕ). replicate {A = ℕ} m 0) j.auto.work;
      put = j.ensures.put;
    }

pub returns-clause-answers : goal.returns-clause-answers
unfolding lent_by
returns-clause-answers c =
    let lists = check_lists (length c.args.states.now) (length c.args.nodes.now) (length c.args.work.now) in
    let size = length c.args.output.now in
    subst (WriteAnswers c.args.text.now lists size) (sym (c.as_written.ensures.0 ∙ ap reported c.write-wrote.ensures.answer)) (write_answers c.args.text.now lists size)

pub returns-clause-laws : goal.returns-clause-laws
returns-clause-laws c = writer_laws
