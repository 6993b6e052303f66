-- The answer, the states and the work space are the callees' own; that the nodes are the records owed is `records_filled`, and demands 2 and 3 hold of
-- the verdict. Assumes nothing.
use Rattle.std.proofs.Common.{ℕ, length, replicate, sym, ap, subst, ◌∙◌}
use Rattle.rules.specs.declared.Answer.{Answer}
use Rattle.rules.specs.Verdict.{check, check_lists, answer_of, reported, work_after, nodes_after}
use Rattle.rules.specs.Demands.{lent_by, Demand2, Demand3}
use Rattle.rules.proofs.Demands.{demand_2, demand_3}
use Rattle.verdict.proofs.Records.{check_comes, records_fit, records_filled, fits_left, filled_left}
use Rattle.verdict.proofs.check.Goals as goal

pub fill-requires : goal.fill-requires
fill-requires c =
    let s = length c.args.states.now in
    let n = length c.args.nodes.now in
    let w = length c.args.work.now in
    let t = c.args.text.now in
    let found = check (check_lists s n w) t in
    let j = c.judge-answer in
    fits_left n w c.count_of.result j.new.work j.result (answer_of found) c.count_of.ensures j.ensures.value j.auto.work
    (records_fit s n w t found (check_comes s n w t))

pub returns-clause-demand1 : goal.returns-clause-demand1
unfolding lent_by work_after
returns-clause-demand1 c =
    let s = length c.args.states.now in
    let n = length c.args.nodes.now in
    let w = length c.args.work.now in
    let t = c.args.text.now in
    let found = check (check_lists s n w) t in
    let j = c.judge-answer in
    record {
      answer = ap reported j.ensures.value;
      states = j.ensures.states_after;
      nodes =
          filled_left n c.count_of.result j.new.work c.fill.new.nodes (nodes_after n found) j.result (answer_of found) c.fill.ensures c.count_of.ensures
          j.ensures.value (records_filled s n w t j.new.work found (check_comes s n w t) j.ensures.records_held);
      work = c.clear_work.ensures ∙ ap (λ (m : ℕ). replicate {A = ℕ} m 0) j.auto.work;
    }

pub returns-clause-demand2 : goal.returns-clause-demand2
unfolding lent_by
returns-clause-demand2 c =
    let lists = check_lists (length c.args.states.now) (length c.args.nodes.now) (length c.args.work.now) in
    subst (λ (a : Answer). Demand2 c.args.text.now lists (reported a)) (sym c.judge-answer.ensures.value) (demand_2 c.args.text.now lists)

pub returns-clause-demand3 : goal.returns-clause-demand3
unfolding lent_by
returns-clause-demand3 c =
    let lists = check_lists (length c.args.states.now) (length c.args.nodes.now) (length c.args.work.now) in
    subst (λ (a : Answer). Demand3 c.args.text.now lists (reported a)) (sym c.judge-answer.ensures.value) (demand_3 c.args.text.now lists)
