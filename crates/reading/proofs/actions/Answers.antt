-- `actions`: the A lines, with the places listed from the directory's start on (Progress). Assumes nothing.
use Rattle.std.proofs.lemmas.Result.{err_from_is_err_and}
use lib.ListN.{get_or}
use Rattle.rules.specs.Case.{header_in}
use Rattle.reading.proofs.Progress.{list_goes_on, list_stops, stops}
use Rattle.reading.proofs.Turns.{line_goes}
use Rattle.reading.specs.Groups.{valued_line}
use Rattle.rules.specs.Fields.{line_fields}
use Rattle.rules.specs.Table as T
use Rattle.fields.specs.Directory.{directory_size}
use native.Mathlib.Omega.{arith}
use Rattle.reading.proofs.actions.Goals as goal

pub bounds-directory-i : goal.bounds-directory-i
unfolding directory_size
bounds-directory-i c =
    let k = c.loop-i.invariant.size in
    let p = c.requires.x_bound in
    let t = c.loop-i-test.true in
    omega (arith, p.0, p.1)

pub loop-i-preserved : goal.loop-i-preserved
loop-i-preserved c =
    let a = c.args in
    let one = valued_line a.text.now (header_in a.x.now.numbers) T.action (get_or a.x.now.numbers 7 0) in
    let l = c.loop-i in
    let r = c.one_line in
    let n = c.in_ok-at in
    list_goes_on a.text.now a.past line_fields one (get_or a.x.now.numbers 1 0) a.from a.fields.now (line_goes a.text.now (header_in a.x.now.numbers) T.action (get_or a.x.now.numbers 7 0)) l.at l.fields l.i l.invariant.progress c.loop-i-test.true r.result _ r.ensures 0 a.directory.now l.directory l.invariant.size l.invariant.placed n.at l.i n.was (omega arith)

pub returns-in_err-at-clause-left : goal.returns-in_err-at-clause-left
returns-in_err-at-clause-left c =
    let a = c.args in
    let one = valued_line a.text.now (header_in a.x.now.numbers) T.action (get_or a.x.now.numbers 7 0) in
    let l = c.loop-i in
    let r = c.one_line in
    let e = c.in_err-at in
    let p = err_from_is_err_and c.from_residual.result c.from_residual.ensures.1 in
    rw (p.1, p.2)
    (stops a.text.now a.past line_fields one (get_or a.x.now.numbers 1 0) a.from a.fields.now (line_goes a.text.now (header_in a.x.now.numbers) T.action (get_or a.x.now.numbers 7 0)) l.at l.fields l.i l.invariant.progress c.loop-i-test.true r.result _ r.ensures e.field-0.0 e.was _)

pub returns-in_err-at-clause-placed : goal.returns-in_err-at-clause-placed
returns-in_err-at-clause-placed c =
    let a = c.args in
    let one = valued_line a.text.now (header_in a.x.now.numbers) T.action (get_or a.x.now.numbers 7 0) in
    let l = c.loop-i in
    let r = c.one_line in
    let e = c.in_err-at in
    list_stops a.text.now a.past line_fields one (get_or a.x.now.numbers 1 0) a.from a.fields.now (line_goes a.text.now (header_in a.x.now.numbers) T.action (get_or a.x.now.numbers 7 0)) l.at l.fields l.i l.invariant.progress c.loop-i-test.true r.result _ r.ensures 0 a.directory.now l.directory l.invariant.size l.invariant.placed e.field-0.0 e.was _
