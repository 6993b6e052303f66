-- `put_members`: the set of all members is what the members left make of the set so far. Assumes nothing.
use Rattle.rules.specs.State.{insert_all}
use lib.ListN.{length, drop}
use mathlib.Core.Path.{◌≡◌}
use Rattle.running.proofs.sets.put_members.Given as goal

abbrev pub invariant-loop-member : goal.invariant-loop-member
invariant-loop-member l =
    (length l.words ≡ length l.initial.words) × (insert_all l.initial.words l.member-items ≡ insert_all l.words (drop l.member-index l.member-items))
