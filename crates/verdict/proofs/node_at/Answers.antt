-- The record of the definition, field by field.
use Rattle.std.proofs.Common.{refl}
use Rattle.records.specs.Records.{record_at}
use Rattle.verdict.proofs.node_at.Goals as goal

pub returns : goal.returns
unfolding record_at
returns c = refl
