-- `advance`: the next choice within b gaps is the next within i. Assumes nothing.
use mathlib.Core.Path.{◌≡◌}
use Rattle.choices.specs.Searching.{next_of}
use Rattle.choices.proofs.advance.Given as goal

abbrev pub invariant-loop-i : goal.invariant-loop-i
invariant-loop-i l = next_of l.k l.b l.initial.choice ≡ next_of l.k l.i l.choice
