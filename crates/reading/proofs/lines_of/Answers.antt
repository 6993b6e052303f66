-- `lines_of`: what the lines from here on leave is what all leave (Progress). Assumes nothing.
use lib.ListN.{get_or}
use Rattle.std.proofs.lemmas.Result.{err_from_is_err_and}
use Rattle.rules.specs.Case.{header_in}
use Rattle.lines.specs.Reading.{role_of}
use Rattle.reading.proofs.Progress.{goes_on_lem, stops}
use Rattle.reading.proofs.Turns.{line_goes}
use Rattle.reading.specs.Groups.{valued_line}
use Rattle.rules.specs.Fields.{line_fields}
use Rattle.reading.proofs.lines_of.Goals as goal

pub loop-i-preserved : goal.loop-i-preserved
loop-i-preserved c =
    let a = c.args in
    let one = valued_line a.text.now (header_in a.x.now.numbers) (role_of a.due) (get_or a.x.now.numbers 7 0) in
    let l = c.loop-i in
    let r = c.next_line in
    let n = c.in_ok-at in
    goes_on_lem a.text.now a.past line_fields one a.count a.from a.fields.now (line_goes a.text.now (header_in a.x.now.numbers) (role_of a.due) (get_or a.x.now.numbers 7 0)) l.at l.fields l._i l.invariant c.loop-i-test.true r.result _ r.ensures n.at n.was

pub returns-in_err-at : goal.returns-in_err-at
returns-in_err-at c =
    let a = c.args in
    let one = valued_line a.text.now (header_in a.x.now.numbers) (role_of a.due) (get_or a.x.now.numbers 7 0) in
    let l = c.loop-i in
    let r = c.next_line in
    let e = c.in_err-at in
    let p = err_from_is_err_and c.from_residual.result c.from_residual.ensures.1 in
    rw (p.1, p.2)
    (stops a.text.now a.past line_fields one a.count a.from a.fields.now (line_goes a.text.now (header_in a.x.now.numbers) (role_of a.due) (get_or a.x.now.numbers 7 0)) l.at l.fields l._i l.invariant c.loop-i-test.true r.result _ r.ensures e.field-0.0 e.was _)
