-- `surplus_of`: the digits past the first ones so far, and those of the gaps left, are all of them. Assumes nothing.
use mathlib.Core.Path.{◌≡◌}
use Prim.Native.Nat.{◌+◌, ◌*◌, ◌≤◌}
use lib.ListN.{drop}
use Rattle.rules.proofs.Gaps.Lengths.{surplus}
use Rattle.finder.proofs.surplus_of.Given as goal

abbrev pub invariant-loop-gap : goal.invariant-loop-gap
invariant-loop-gap l = (l.digits ≤ 3 * l.gap-index) × (l.digits + surplus (drop l.gap-index l.choice) ≡ surplus l.choice)
