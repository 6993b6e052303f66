-- `links::pair` meets its contract: line by line the table and the twins stay right. Assumes nothing.
use Rattle.probing.specs.Probing.{Kept}
use Rattle.ids.specs.Ids.{same_id, hash_id}
use Rattle.links.specs.Steps.{Paired}
use Rattle.links.proofs.pair.Given as goal

abbrev pub invariant-loop-e : goal.invariant-loop-e
invariant-loop-e l = record {
  table : Kept (same_id l.ids) hash_id l.slots l.e;
  paired : Paired l.ids l.e l.twin l.last;
}
