-- The number from the start is the number from here, with the digits passed in `value`; a byte that is no digit closes it, and one comes
-- before the text is over. Assumes nothing.
use mathlib.Core.Path.{◌≡◌}
use mathlib.Core.Bool.{true}
use Prim.Native.Nat.{◌-◌, ◌≤◌}
use lib.ListN.{length}
use Rattle.rules.specs.Text.{feed_follows}
use Rattle.text.specs.Scan.{continued}
use Rattle.tokens.specs.Pieces.{piece_from}
use Rattle.tokens.proofs.digits.Given as goal

abbrev pub invariant-loop-value : goal.invariant-loop-value
invariant-loop-value l =
    (l.value ≤ 4294967295)
    × (feed_follows l.text l.at ≡ true)
    × (continued 0 l.from (piece_from l.separator l.text l.from) ≡ continued l.value l.at (piece_from l.separator l.text l.at))

abbrev pub decreases-loop-value : goal.decreases-loop-value
decreases-loop-value l = length l.text - l.at
