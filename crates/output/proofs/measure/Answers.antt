-- `measure`: the lines before `at` are measured (Lines). Assumes nothing.
use Rattle.output.proofs.Lines.{measured_due, measured_sum, measured_next, measured_ends, lines_most}
use native.Mathlib.Omega.{arith}
use Rattle.output.proofs.measure.Goals as goal

pub line_size-requires : goal.line_size-requires
line_size-requires c =
    let a = c.args in
    let l = c.loop-at in
    let x = c.requires.has_lines in
    let d = measured_due a.cues a.fields.now a.end x.0 l.at l.size (l.invariant x.0 x.1) c.loop-at-test.true in
    (d.line, d.is, d.here)

pub overflow_add-next : goal.overflow_add-next
overflow_add-next c =
    let a = c.args in
    let l = c.loop-at in
    let x = c.requires.has_lines in
    let d = measured_due a.cues a.fields.now a.end x.0 l.at l.size (l.invariant x.0 x.1) c.loop-at-test.true in
    let e = c.line_size.ensures d.line d.is d.here in
    let inside = d.inside in
    omega arith

pub measure_line-size-requires : goal.measure_line-size-requires
measure_line-size-requires c =
    let a = c.args in
    let l = c.loop-at in
    let x = c.requires.has_lines in
    let d = measured_due a.cues a.fields.now a.end x.0 l.at l.size (l.invariant x.0 x.1) c.loop-at-test.true in
    let e = c.line_size.ensures d.line d.is d.here in
    let some = d.some in
    let inside = d.inside in
    let most = d.most in
    (omega arith, omega arith, omega arith)

pub overflow_add-size : goal.overflow_add-size
overflow_add-size c =
    let a = c.args in
    let l = c.loop-at in
    let x = c.requires.has_lines in
    let more = c.loop-at-test.true in
    let m = l.invariant x.0 x.1 in
    let d = measured_due a.cues a.fields.now a.end x.0 l.at l.size m more in
    let e = c.line_size.ensures d.line d.is d.here in
    let sum = measured_sum a.cues a.fields.now a.end x.0 l.at l.size m more c.line_size.result c.measure_line-size.result e c.measure_line-size.ensures in
    let most = lines_most a.cues a.fields.now a.end x.0 x.1 in
    omega arith

pub loop-at-smaller : goal.loop-at-smaller
loop-at-smaller c =
    let a = c.args in
    let l = c.loop-at in
    let x = c.requires.has_lines in
    let d = measured_due a.cues a.fields.now a.end x.0 l.at l.size (l.invariant x.0 x.1) c.loop-at-test.true in
    let e = c.line_size.ensures d.line d.is d.here in
    let some = d.some in
    omega arith

pub loop-at-preserved : goal.loop-at-preserved
loop-at-preserved c =
    let a = c.args in
    let l = c.loop-at in
    let more = c.loop-at-test.true in
    λ xs h.
    let m = l.invariant xs h in
    let d = measured_due a.cues a.fields.now a.end xs l.at l.size m more in
    measured_next a.cues a.fields.now a.end xs l.at l.size m more c.line_size.result c.measure_line-size.result
    (c.line_size.ensures d.line d.is d.here) c.measure_line-size.ensures

pub returns-clause-value : goal.returns-clause-value
returns-clause-value c =
    let a = c.args in
    let l = c.loop-at in
    λ xs h. measured_ends a.cues a.fields.now a.end xs l.at l.size (l.invariant xs h) c.loop-at-test.false

pub returns-clause-upper_bound : goal.returns-clause-upper_bound
returns-clause-upper_bound c =
    let a = c.args in
    let l = c.loop-at in
    let x = c.requires.has_lines in
    let all = measured_ends a.cues a.fields.now a.end x.0 l.at l.size (l.invariant x.0 x.1) c.loop-at-test.false in
    let most = lines_most a.cues a.fields.now a.end x.0 x.1 in
    omega arith
