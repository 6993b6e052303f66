-- The nodes are the records owed (`import_filled`), what is found has the form's tree and plan (`has_form`), and what refuses the three texts ahead of the
-- search is `made_shows`. Assumes nothing.
use Rattle.std.proofs.Common.{ℕ, length, replicate, ap, ◌∙◌}
use Rattle.rules.specs.Verdict.{check_lists, answer_of, reported, work_after, nodes_after}
use Rattle.rules.specs.Demands.{lent_by}
use Rattle.rules.specs.Import.{import_form, found_tree}
use Rattle.rules.proofs.Import.{has_form, made_shows}
use Rattle.verdict.proofs.Records.{fits_left, filled_left}
use Rattle.capi.proofs.Imports.{import_fits, import_filled}
use Rattle.capi.proofs.cuecheck_import.Goals as goal

pub fill-requires : goal.fill-requires
fill-requires c =
    let s = length c.args.states.now in
    let n = length c.args.nodes.now in
    let w = length c.args.work.now in
    let size = length c.args.output.now in
    let j = c.import-outcome in
    let outcome = import_form j.ensures.number (check_lists s n w) size c.args.text.now c.args.names.now c.args.form.now in
    fits_left n w c.records_imported.result j.new.work j.result.answer (answer_of outcome) c.records_imported.ensures j.ensures.answer j.auto.work
    (import_fits s n w j.ensures.number size c.args.text.now c.args.names.now c.args.form.now)

pub returns : goal.returns
unfolding lent_by work_after
returns c =
    let s = length c.args.states.now in
    let n = length c.args.nodes.now in
    let w = length c.args.work.now in
    let size = length c.args.output.now in
    let j = c.import-outcome in
    let t = c.args.text.now in
    let u = c.args.names.now in
    let f = c.args.form.now in
    let lists = check_lists s n w in
    let outcome = import_form j.ensures.number lists size t u f in
    record {
      number = j.ensures.number;
      limited = j.ensures.within;
      answer = c.as_imported.ensures.0 ∙ ap reported j.ensures.answer;
      answered = c.as_imported.ensures.1 ∙ j.ensures.answered;
      put = j.ensures.put;
      sized = c.as_imported.ensures.2 ∙ j.ensures.sized;
      states = j.ensures.states_held;
      nodes =
          filled_left n c.records_imported.result j.new.work c.fill.new.nodes (nodes_after n (found_tree outcome)) j.result.answer (answer_of outcome)
          c.fill.ensures c.records_imported.ensures j.ensures.answer (import_filled s n w j.ensures.number size t u f j.new.work j.ensures.records_held);
      work = c.clear_work.ensures ∙ ap (λ (m : ℕ). replicate {A = ℕ} m 0) j.auto.work;
      holds = has_form j.ensures.number lists size t u f;
      shows = made_shows lists t u f;
    }
