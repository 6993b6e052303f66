-- No line feed follows place i; the loop stops where one stands before it, or where nothing does. Assumes nothing.
use mathlib.Core.Path.{◌≡◌}
use mathlib.Core.Bool.{false}
use Rattle.rules.specs.Text.{feed_follows}
use Rattle.text.proofs.past_last_feed.Given as goal

abbrev pub invariant-loop-i : goal.invariant-loop-i
invariant-loop-i l = feed_follows l.text l.i ≡ false
