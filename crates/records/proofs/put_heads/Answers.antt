-- `put_heads`: the records up to node i stand in the columns, and the lines left have the others (Going). Assumes nothing.
use native.Mathlib.Omega.{arith}
use Rattle.records.proofs.Columns.{heads_on}
use Rattle.records.proofs.Turns.{line_inside, going_on}
use Rattle.records.proofs.put_heads.Goals as goal

pub offset_bounds-fields-at : goal.offset_bounds-fields-at
offset_bounds-fields-at c =
    let a = c.args in
    let l = c.loop-i in
    let more = c.loop-i-test.true in
    let d = line_inside a.fields.now a.nodes a.count a.work.now l.at l.work l.i l.invariant.1 c.requires.nodes_stand more in
    omega arith

pub bounds-fields-at : goal.bounds-fields-at
bounds-fields-at c =
    let a = c.args in
    let l = c.loop-i in
    let more = c.loop-i-test.true in
    let d = line_inside a.fields.now a.nodes a.count a.work.now l.at l.work l.i l.invariant.1 c.requires.nodes_stand more in
    omega arith

pub overflow_add-label : goal.overflow_add-label
overflow_add-label c =
    let a = c.args in
    let l = c.loop-i in
    let more = c.loop-i-test.true in
    let d = line_inside a.fields.now a.nodes a.count a.work.now l.at l.work l.i l.invariant.1 c.requires.nodes_stand more in
    omega arith

pub offset_bounds-fields-at-in-loop-i : goal.offset_bounds-fields-at-in-loop-i
offset_bounds-fields-at-in-loop-i c =
    let a = c.args in
    let l = c.loop-i in
    let more = c.loop-i-test.true in
    let d = line_inside a.fields.now a.nodes a.count a.work.now l.at l.work l.i l.invariant.1 c.requires.nodes_stand more in
    omega arith

pub bounds-fields-at-in-loop-i : goal.bounds-fields-at-in-loop-i
bounds-fields-at-in-loop-i c =
    let a = c.args in
    let l = c.loop-i in
    let more = c.loop-i-test.true in
    let d = line_inside a.fields.now a.nodes a.count a.work.now l.at l.work l.i l.invariant.1 c.requires.nodes_stand more in
    omega arith

pub place_at-place-requires : goal.place_at-place-requires
place_at-place-requires c =
    let a = c.args in
    let l = c.loop-i in
    let more = c.loop-i-test.true in
    let d = line_inside a.fields.now a.nodes a.count a.work.now l.at l.work l.i l.invariant.1 c.requires.nodes_stand more in
    d.1

pub overflow_add-at : goal.overflow_add-at
overflow_add-at c =
    let a = c.args in
    let l = c.loop-i in
    let more = c.loop-i-test.true in
    let d = line_inside a.fields.now a.nodes a.count a.work.now l.at l.work l.i l.invariant.1 c.requires.nodes_stand more in
    let size = c.node_size-at.ensures in
    omega arith

pub loop-i-preserved : goal.loop-i-preserved
loop-i-preserved c =
    let a = c.args in
    let l = c.loop-i in
    let more = c.loop-i-test.true in
    let code = c.letter_code in
    let place = c.place_at-place in (
      heads_on l.work l.i _ _ _ a.work.now l.invariant.0,
      λ ns w.
          going_on a.fields.now a.work.now ns l.at l.work l.i (l.invariant.1 ns w) (omega (arith, w.counted)) l.invariant.0 (omega (arith, c.requires.count_bound.0)) c.requires.count_bound.1
          code.result place.result c.node_size-at.result code.ensures place.ensures c.node_size-at.ensures,
    )
