-- `count_empties`: the E lines so far, and those of the lines left, are all of them. Assumes nothing.
use Prim.Native.Nat.{◌≤◌}
use Rattle.rules.specs.Gaps.{empty_count}
use Rattle.gaps.proofs.Lines.{Counted}
use Rattle.gaps.proofs.count_empties.Given as goal

abbrev pub invariant-loop : goal.invariant-loop
invariant-loop l = (l.empties ≤ l.counter) × Counted empty_count l.fields l.nodes l.count l.at l.counter l.empties
