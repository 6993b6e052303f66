-- `wrongs::first_wrong` meets its contract: the lines before `e` pass the test. Assumes nothing.
use mathlib.Core.Path.{◌≡◌}
use mathlib.Core.Bool.{false}
use Prim.Native.Nat.{ℕ, ◌<◌}
use Rattle.wrongs.specs.Wrongs.{fails}
use Rattle.wrongs.proofs.first_wrong.Given as goal

abbrev pub invariant-loop-e : goal.invariant-loop-e
invariant-loop-e l = (d : ℕ) → d < l.e → fails l.twin l.used l.marks l.lost l.root d ≡ false
