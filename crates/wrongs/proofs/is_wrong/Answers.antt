-- `wrongs::is_wrong` meets its contract. Assumes nothing.
use native.Mathlib.Omega.{arith}
use borrow.Author.Tests.{ltb-true, ltb-false}
use Rattle.wrongs.proofs.Fails.{fails_twin, fails_used, fails_parent, fails_marks, no_parent, fails_last}
use Rattle.wrongs.proofs.is_wrong.Goals as goal

pub returns-then-twin-e-gt0 : goal.returns-then-twin-e-gt0
returns-then-twin-e-gt0 c =
    let a = c.args in
    fails_twin a.twin.now a.used.now a.marks.now a.lost a.root a.e (omega (arith, c.if-twin-e-gt0.true))

pub returns-then-used-e-gt1 : goal.returns-then-used-e-gt1
returns-then-used-e-gt1 c =
    let a = c.args in
    fails_used a.twin.now a.used.now a.marks.now a.lost a.root a.e (omega (arith, c.if-used-e-gt1.true))

pub returns-then-used-e-gt0 : goal.returns-then-used-e-gt0
returns-then-used-e-gt0 c =
    let a = c.args in
    fails_parent a.twin.now a.used.now a.marks.now a.lost a.root a.e c.if-root-e.true
    (omega (arith, ltb-true))

pub returns-then-marks-e-eq0 : goal.returns-then-marks-e-eq0
returns-then-marks-e-eq0 c =
    let a = c.args in
    fails_marks a.twin.now a.used.now a.marks.now a.lost a.root a.e c.if-marks-e-eq0.true

pub returns-else-marks-e-eq0 : goal.returns-else-marks-e-eq0
returns-else-marks-e-eq0 c =
    let a = c.args in
    fails_last a.twin.now a.used.now a.marks.now a.lost a.root a.e (omega (arith, c.if-twin-e-gt0.false))
    (omega (arith, c.if-used-e-gt1.false))
    (no_parent a.twin.now a.used.now a.marks.now a.lost a.root a.e (grind (arith, ltb-false)))
    c.if-marks-e-eq0.false
