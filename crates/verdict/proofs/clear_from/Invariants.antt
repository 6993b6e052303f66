-- So many turns have stored the zero record from the count on.
use Rattle.std.proofs.Common.{◌≡◌, ◌-◌, ◌≤◌, length}
use Rattle.rules.specs.Verdict.{no_node}
use Rattle.verdict.proofs.Written.{written}
use Rattle.verdict.proofs.clear_from.Given as goal

abbrev pub invariant-loop-i : goal.invariant-loop-i
invariant-loop-i l =
    (l.i - l.count ≤ length l.initial.nodes - l.count) × (l.nodes ≡ written (λ _. no_node) l.initial.nodes l.count (l.i - l.count))
