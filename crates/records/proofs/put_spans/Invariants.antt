-- `put_spans`: the spans below node i are out of their rows, and the rows stand (SpansOut). Assumes nothing.
use Rattle.records.proofs.Columns.{SpansOut}
use Rattle.records.proofs.put_spans.Given as goal

abbrev pub invariant-loop-i : goal.invariant-loop-i
invariant-loop-i l = SpansOut l.initial.work l.work l.i
