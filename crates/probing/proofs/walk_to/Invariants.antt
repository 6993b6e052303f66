-- `probing::walk_to` meets its contract. The invariant: whatever the key, the whole walk is what is left of it from here. Assumes nothing.
use Rattle.std.proofs.Common.{Bool, ℕ}
use Rattle.probing.specs.Probing.{Tells}
use Rattle.probing.proofs.Walks.{Walking}
use Rattle.probing.proofs.walk_to.Given as goal

abbrev pub invariant-loop-d : goal.invariant-loop-d
invariant-loop-d g l = (same : ℕ → Bool) → Tells (goal.F-post g l.has) l.slots same → Walking same l.slots l.h l.h l.d
