-- `put_lines`: the lines before `at` are put (Lines). Assumes nothing.
use Rattle.output.proofs.Lines.{written_due, written_room, written_next, written_ends}
use native.Mathlib.Omega.{arith}
use Rattle.output.proofs.put_lines.Goals as goal

pub line_size-requires : goal.line_size-requires
line_size-requires c =
    let a = c.args in
    let l = c.loop-at in
    let x = c.requires in
    let d = written_due a.cues a.fields.now a.end a.out.now x.0 l.at l.to l.out (l.invariant x.0 x.1) c.loop-at-test.true in
    (d.line, d.is, d.here)

pub overflow_add-next : goal.overflow_add-next
overflow_add-next c =
    let a = c.args in
    let l = c.loop-at in
    let x = c.requires in
    let d = written_due a.cues a.fields.now a.end a.out.now x.0 l.at l.to l.out (l.invariant x.0 x.1) c.loop-at-test.true in
    let e = c.line_size.ensures d.line d.is d.here in
    let inside = d.inside in
    omega arith

pub put_line-to-requires-clause-at_lt_end : goal.put_line-to-requires-clause-at_lt_end
put_line-to-requires-clause-at_lt_end c =
    let a = c.args in
    let l = c.loop-at in
    let x = c.requires in
    let d = written_due a.cues a.fields.now a.end a.out.now x.0 l.at l.to l.out (l.invariant x.0 x.1) c.loop-at-test.true in
    let e = c.line_size.ensures d.line d.is d.here in
    let some = d.some in
    let inside = d.inside in
    (omega arith, omega arith, d.letter)

pub put_line-to-requires-clause-fields_in_bounds : goal.put_line-to-requires-clause-fields_in_bounds
put_line-to-requires-clause-fields_in_bounds c =
    let a = c.args in
    let l = c.loop-at in
    let x = c.requires in
    let w = l.invariant x.0 x.1 in
    let more = c.loop-at-test.true in
    let d = written_due a.cues a.fields.now a.end a.out.now x.0 l.at l.to l.out w more in
    let e = c.line_size.ensures d.line d.is d.here in
    written_room a.cues a.fields.now a.end a.out.now x.0 l.at l.to l.out w more c.line_size.result e x.2

pub loop-at-smaller : goal.loop-at-smaller
loop-at-smaller c =
    let a = c.args in
    let l = c.loop-at in
    let x = c.requires in
    let d = written_due a.cues a.fields.now a.end a.out.now x.0 l.at l.to l.out (l.invariant x.0 x.1) c.loop-at-test.true in
    let e = c.line_size.ensures d.line d.is d.here in
    let some = d.some in
    omega arith

pub loop-at-preserved : goal.loop-at-preserved
loop-at-preserved c =
    let a = c.args in
    let l = c.loop-at in
    let more = c.loop-at-test.true in
    λ xs h.
    let w = l.invariant xs h in
    let d = written_due a.cues a.fields.now a.end a.out.now xs l.at l.to l.out w more in
    written_next a.cues a.fields.now a.end a.out.now xs l.at l.to l.out w more c.line_size.result _ _
    (c.line_size.ensures d.line d.is d.here) c.put_line-to.ensures.0 c.put_line-to.ensures.1

pub returns : goal.returns
returns c =
    let a = c.args in
    let l = c.loop-at in
    λ xs h. written_ends a.cues a.fields.now a.end a.out.now xs l.at l.to l.out (l.invariant xs h) c.loop-at-test.false
