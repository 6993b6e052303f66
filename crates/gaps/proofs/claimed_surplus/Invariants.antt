-- `claimed_surplus`: the digits past the first ones so far, and those of the lines left, are all of them. Assumes nothing.
use Prim.Native.Nat.{◌*◌, ◌≤◌}
use Rattle.gaps.proofs.Lines.{surplus_of, Counted}
use Rattle.gaps.proofs.claimed_surplus.Given as goal

abbrev pub invariant-loop : goal.invariant-loop
invariant-loop l = (l.digits ≤ 3 * l.counter) × Counted surplus_of l.fields l.nodes l.count l.at l.counter l.digits
