-- `count_of`: n is the power of the gaps passed, at most 1,000,000. Assumes nothing.
use mathlib.Core.Path.{◌≡◌}
use Prim.Native.Nat.{◌≤◌}
use Rattle.rules.specs.Gaps.{power}
use Rattle.choices.proofs.count_of.Given as goal

abbrev pub invariant-loop : goal.invariant-loop
invariant-loop l = (l.n ≡ power l.k l.counter) × (l.n ≤ 1000000)
