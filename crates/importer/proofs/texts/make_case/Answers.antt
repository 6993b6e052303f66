-- `make_case`: a form that is read is made beside the fields of the case, whose P line is found by its node lines (Reading). Assumes nothing.
use lib.ListN.{length}
use Rattle.std.proofs.lemmas.Result.{err_from_is_err_and}
use Rattle.importer.proofs.Reading.{plan_few, plan_room, cues_are, made_read, made_refused}
use Rattle.importer.proofs.texts.make_case.Goals as goal

pub make_from-requires-clause-in_bounds : goal.make_from-requires-clause-in_bounds
make_from-requires-clause-in_bounds c =
    let (k, x, room) = c.requires.case_here in
    let last = c.plan_place-plan.ensures k x.model.read x.last (cues_are x) in (
      c.requires.in_bounds,
      plan_room k _ last (length c.args.fields.now) room,
      plan_few k x.model.read _ last,
    )

pub returns : goal.returns
returns c = λ k x.
    let b = c.read_both in
    let last = c.plan_place-plan.ensures k x.model.read x.last (cues_are x) in
    made_read x c.args.names.now c.args.form.now b.new.ids b.new.labels b.new.places _ _ (c.in_ok-read.ensures k x.model) _ last _ _ c.make_from.ensures

pub returns-in_err-read : goal.returns-in_err-read
returns-in_err-read c =
    let b = c.read_both in
    let p = err_from_is_err_and c.from_residual.result c.from_residual.ensures.1 in
    λ k x. rw (p.1, p.2) (made_refused x c.args.names.now c.args.form.now b.new.ids b.new.labels b.new.places _ _ (c.in_err-read.ensures k x.model) _)
