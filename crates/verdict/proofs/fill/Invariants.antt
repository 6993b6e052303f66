-- So many turns have stored the records from the first on.
use Rattle.std.proofs.Common.{◌≡◌}
use Rattle.records.specs.Records.{record_at}
use Rattle.verdict.proofs.Written.{written}
use Rattle.verdict.proofs.fill.Given as goal

abbrev pub invariant-loop-i : goal.invariant-loop-i
invariant-loop-i l = l.nodes ≡ written (record_at l.work) l.initial.nodes 0 l.i
