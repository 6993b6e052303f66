-- `items`: what the items from here on leave, after those read so far, is what the line leaves (Progress). Assumes nothing.
use Rattle.std.proofs.lemmas.Result.{err_from_is_err_and}
use Rattle.lines.proofs.Progress.{begins, progress, refused, ends}
use Rattle.lines.proofs.line.items.Goals as goal

pub loop-rest-init : goal.loop-rest-init
loop-rest-init c = let a = c.args in begins a.text.now a.x.now.numbers a.letter a.shape a.from a.c a.fields.now c.requires.room c.requires.shape_bound

pub loop-rest-preserved : goal.loop-rest-preserved
loop-rest-preserved c =
    let a = c.args in
    let l = c.loop-rest in
    progress a.text.now a.x.now.numbers a.letter a.shape a.from a.c a.fields.now l.at l.values l.field l.rest l.i l.fields l.invariant c.loop-rest-test.true
    c.in_ok-read.read _ (rw c.in_ok-read.was at c.read_item.ensures)

pub returns-in_err-read : goal.returns-in_err-read
returns-in_err-read c =
    let a = c.args in
    let l = c.loop-rest in
    let p = err_from_is_err_and c.from_residual.result c.from_residual.ensures.1 in
    rw (p.1, p.2)
    (refused a.text.now a.x.now.numbers a.letter a.shape a.from a.c a.fields.now l.at l.values l.field l.rest l.i l.fields l.invariant c.loop-rest-test.true _ _ _
    (rw c.in_err-read.was at c.read_item.ensures))

pub returns : goal.returns
returns c =
    let a = c.args in
    let l = c.loop-rest in
    ends a.text.now a.x.now.numbers a.letter a.shape a.from a.c a.fields.now l.at l.values l.field l.rest l.i l.fields l.invariant c.loop-rest-test.false _ c.finished.ensures
