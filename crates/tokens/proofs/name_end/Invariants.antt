-- All bytes passed are a name's, so from here on it is as from the start whether all bytes are, and where the piece ends. Assumes nothing.
use mathlib.Core.Path.{◌≡◌}
use mathlib.Core.Bool.{true}
use Prim.Native.Nat.{◌+◌, ◌-◌, ◌≤◌}
use lib.ListN.{length}
use Rattle.rules.specs.Text.{feed_follows}
use Rattle.rules.specs.Tokens.{all_in_name}
use Rattle.tokens.specs.Pieces.{piece_from}
use Rattle.tokens.proofs.name_end.Given as goal

abbrev pub invariant-loop-at : goal.invariant-loop-at
invariant-loop-at l =
    (feed_follows l.text l.at ≡ true)
    × (l.from ≤ l.at)
    × (all_in_name (piece_from l.separator l.text l.from) ≡ all_in_name (piece_from l.separator l.text l.at))
    × (l.from + length (piece_from l.separator l.text l.from) ≡ l.at + length (piece_from l.separator l.text l.at))

abbrev pub decreases-loop-at : goal.decreases-loop-at
decreases-loop-at l = length l.text - l.at
