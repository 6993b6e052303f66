-- `write_records`: the spans out of the rows, then the heads; the records' spans are those of the rows. Assumes nothing.
use Rattle.records.proofs.Turns.{records_agree}
use Rattle.parts.specs.Spans.{row_span}
use Rattle.records.specs.Records.{column_span}
use mathlib.Core.Path.{◌∙◌}
use native.Mathlib.Omega.{arith}
use Rattle.records.proofs.write_records.Goals as goal

pub returns : goal.returns
returns c =
    let a = c.args in
    let z = c.put_spans in
    λ ns w.
    c.put_heads.ensures ns w
    ∙ records_agree (column_span z.new.work) (row_span a.work.now) a.header.nodes 0 ns z.ensures (omega (arith, w.counted))
