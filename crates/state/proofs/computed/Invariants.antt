-- The loop's invariant: the number has the bits of the words below w that are not quiet. A turn tries one more. Assumes nothing.
use mathlib.Core.Path.{◌≡◌}
use mathlib.Core.Bool.{Bool, not}
use mathlib.Core.List.{List}
use Prim.Native.Nat.{ℕ}
use Rattle.rules.specs.State.{word, quiet, bits_below}
use Rattle.state.proofs.computed.Given as goal

-- whether word w is computed
abbrev pub touches : List ℕ → List ℕ → ℕ → Bool
touches added deleted w = not (quiet (word added w) (word deleted w))

abbrev pub invariant-loop-w : goal.invariant-loop-w
invariant-loop-w l = l.bits ≡ bits_below l.w (touches l.added.words l.deleted.words)
