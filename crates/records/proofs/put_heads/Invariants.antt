-- `put_heads`: the records up to node i stand in the columns, and the lines left have the others (Going). Assumes nothing.
use Rattle.records.proofs.Columns.{HeadsOnly}
use Rattle.records.proofs.Turns.{Turn}
use Rattle.records.proofs.put_heads.Given as goal

abbrev pub invariant-loop-i : goal.invariant-loop-i
invariant-loop-i l = HeadsOnly l.initial.work l.work × Turn l.fields l.nodes l.count l.initial.work l.at l.work l.i
