-- `lines_of`: the names so far, with those of the lines from here on, are the names of all lines (Progress). Assumes nothing.
use native.Mathlib.Omega.{arith}
use Rattle.naming.proofs.Turns.{passed_on}
use Rattle.naming.proofs.Progress.{begins, goes_on_lem, stops, ends_here}
use Rattle.naming.proofs.lines_of.Goals as goal

pub loop-i-init : goal.loop-i-init
loop-i-init c =
    let a = c.args in
    let z = c.clear in
    begins a.text.now a.count a.from a.starts.now a.ends.now a.slots.now _ c.requires.blank z.auto.slots z.ensures

pub loop-i-preserved : goal.loop-i-preserved
loop-i-preserved c =
    let a = c.args in
    let l = c.loop-i in
    let r = c.next_name in
    goes_on_lem a.text.now a.count a.from l.starts l.ends l.slots l.at l.i l.invariant c.loop-i-test.true r.result _ _ _ r.ensures c.in_ok-at.at c.in_ok-at.was

pub returns-in_err-at : goal.returns-in_err-at
returns-in_err-at c =
    let a = c.args in
    let l = c.loop-i in
    let r = c.next_name in
    let q = c.from_residual in
    stops a.text.now a.count a.from l.starts l.ends l.slots l.at l.i l.invariant c.loop-i-test.true r.result _ _ _ r.ensures _ c.in_err-at.was q.result (passed_on q.result q.ensures) _ _ _

pub returns : goal.returns
returns c =
    let a = c.args in
    let l = c.loop-i in
    let most = l.invariant.most in
    ends_here a.text.now a.count a.from l.starts l.ends l.slots l.at l.i l.invariant c.loop-i-test.false (omega (arith, c.requires.line_bound.1))
