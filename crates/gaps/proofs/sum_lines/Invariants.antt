-- `sum_lines`: the sums so far, joined to those of the lines left, are those of all. Assumes nothing.
use Prim.Native.Nat.{◌+◌, ◌*◌, ◌≤◌}
use Rattle.gaps.proofs.Summing.{Sums}
use Rattle.gaps.proofs.sum_lines.Given as goal

abbrev pub invariant-loop : goal.invariant-loop
invariant-loop l =
    (l.empties ≤ l.counter) × (l.low ≤ 2 * l.cues + 1) × Sums l.cues l.fields l.from l.count l.at l.counter l.low l.high l.empties
