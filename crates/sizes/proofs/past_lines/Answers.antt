-- `past_lines`: the lines from here on (Lines). Assumes nothing.
use Rattle.sizes.proofs.Lines.{line_due}
use native.Mathlib.Omega.{arith}
use Rattle.sizes.proofs.past_lines.Goals as goal

pub line_size-past-requires : goal.line_size-past-requires
line_size-past-requires c =
    let a = c.args in
    let l = c.loop-i in
    let d = line_due a.cues a.fields.now a.at a.count c.requires.0 l.past l._i (l.invariant c.requires.0 c.requires.1 c.requires.2 c.requires.3) c.loop-i-test.true in
    (d.line, d.is, d.here)

pub overflow_add-past : goal.overflow_add-past
overflow_add-past c =
    let a = c.args in
    let l = c.loop-i in
    let d = line_due a.cues a.fields.now a.at a.count c.requires.0 l.past l._i (l.invariant c.requires.0 c.requires.1 c.requires.2 c.requires.3) c.loop-i-test.true in
    let e = c.line_size-past.ensures d.line d.is d.here in
    let inside = d.inside in
    omega arith

pub loop-i-preserved : goal.loop-i-preserved
loop-i-preserved c =
    let a = c.args in
    let l = c.loop-i in
    λ xs e is s.
    let d = line_due a.cues a.fields.now a.at a.count xs l.past l._i (l.invariant xs e is s) c.loop-i-test.true in
    d.next c.line_size-past.result (c.line_size-past.ensures d.line d.is d.here)
