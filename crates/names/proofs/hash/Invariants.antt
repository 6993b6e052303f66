-- `names::hash` meets its contract. The invariant: the bits of the name are those of what is left, from here. Assumes nothing.
use Rattle.std.proofs.Common.{◌≡◌, ◌<◌, drop}
use Rattle.names.specs.Names.{hash_from}
use Rattle.names.proofs.hash.Given as goal

abbrev pub invariant-loop-b : goal.invariant-loop-b
invariant-loop-b l = (l.h < 4294967296) × (hash_from 0 l.name ≡ hash_from l.h (drop l.b-index l.name))
