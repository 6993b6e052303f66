-- `make_with`: the ids are linked; if no line is wrong, the fields of the made case are stored and its text is put. Assumes nothing.
use lib.ListN.{length}
use Rattle.rules.specs.Fields.{lines_of}
use Rattle.rules.specs.Form.{form_lines}
use Rattle.rules.specs.Import.{made_case}
use Rattle.importer.proofs.Putting.{held_makes, held_wrong, held_right}
use Rattle.importer.proofs.made.make_with.Goals as goal

pub returns-in-Some : goal.returns-in-Some
returns-in-Some c = λ k f h.
    let t = c.tie-tied in
    let joined = t.ensures.joined (form_lines f) c.args.labels.now h.lines h.spelled h.counted in
    held_wrong h t.result t.new.starts t.new.links joined (length c.args.output.now) c.args.output.now c.in-Some.line c.in-Some.is

pub make-end-requires-clause-by_index : goal.make-end-requires-clause-by_index
make-end-requires-clause-by_index c =
    let t = c.tie-tied in
    let (k, f, h) = c.requires.form_held in
    let joined = t.ensures.joined (form_lines f) c.args.labels.now h.lines h.spelled h.counted in
    (k, f, form_lines f, c.args.ids.now, held_makes h t.result t.new.starts t.new.links joined)

pub put_made-requires-clause-has_lines : goal.put_made-requires-clause-has_lines
put_made-requires-clause-has_lines c =
    let t = c.tie-tied in
    let (k, f, h) = c.requires.form_held in
    let joined = t.ensures.joined (form_lines f) c.args.labels.now h.lines h.spelled h.counted in
    let makes = held_makes h t.result t.new.starts t.new.links joined in
    (lines_of (made_case k f), c.make-end.ensures.has_lines k f (form_lines f) c.args.ids.now makes)

pub returns : goal.returns
returns c = λ k f h.
    let t = c.tie-tied in
    let p = c.put_made in
    let joined = t.ensures.joined (form_lines f) c.args.labels.now h.lines h.spelled h.counted in
    let makes = held_makes h t.result t.new.starts t.new.links joined in
    held_right h t.result t.new.starts t.new.links joined (length c.args.output.now) p.result p.new.output
    c.in_default.is
    (p.ensures (lines_of (made_case k f)) (c.make-end.ensures.has_lines k f (form_lines f) c.args.ids.now makes))
