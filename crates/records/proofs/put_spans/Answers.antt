-- `put_spans`: the spans below node i are out of their rows, and the rows stand (SpansOut). Assumes nothing.
use Prim.Native.Nat.{◌<◌}
use native.Mathlib.Omega.{arith}
use Rattle.records.proofs.Columns.{spans_on}
use Rattle.tree.specs.Layout.{rows_from}
use Rattle.records.proofs.put_spans.Goals as goal

pub loop-i-preserved : goal.loop-i-preserved
unfolding rows_from
loop-i-preserved c =
    let l = c.loop-i in
    let small : l.i < c.args.count = c.loop-i-test.true in
    spans_on c.args.work.now l.work l.i l.invariant (omega arith) c.requires.1
