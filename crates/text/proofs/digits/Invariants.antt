-- The number from the start is the number from here, with the digits passed in `value`; a byte that is no digit closes it, and one comes
-- before the text is over. Assumes nothing.
use mathlib.Core.Path.{◌≡◌}
use mathlib.Core.Bool.{true}
use Prim.Native.Nat.{◌-◌, ◌≤◌}
use lib.ListN.{length, drop}
use Rattle.rules.specs.Text.{field_of, feed_follows}
use Rattle.text.specs.Scan.{continued}
use Rattle.text.proofs.digits.Given as goal

abbrev pub invariant-loop-value : goal.invariant-loop-value
invariant-loop-value l =
    (l.value ≤ 4294967295)
    × (feed_follows l.text l.at ≡ true)
    × (continued l.first l.from (field_of (drop l.from l.text)) ≡ continued l.value l.at (field_of (drop l.at l.text)))

abbrev pub decreases-loop-value : goal.decreases-loop-value
decreases-loop-value l = length l.text - l.at
