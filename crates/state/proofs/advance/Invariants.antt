-- The loop's invariant: the words below i are those of the next state, the others as they came. A turn stores one more. Assumes nothing.
use mathlib.Core.Path.{◌≡◌}
use mathlib.Core.List.{List}
use Prim.Native.Nat.{ℕ, ◌≤◌, ◌<◌}
use lib.ListN.{length, get_or}
use Rattle.rules.specs.State.{word, next_word}
use Rattle.state.proofs.advance.Given as goal

-- word i of the next state
abbrev pub made : List ℕ → List ℕ → List ℕ → ℕ → ℕ
made s added deleted i = next_word (word s i) (word added i) (word deleted i)

abbrev pub invariant-loop-i : goal.invariant-loop-i
invariant-loop-i l =
    (length l.s ≡ length l.initial.s) × ((k : ℕ) → k < l.i → get_or l.s k 0 ≡ made l.initial.s l.added l.deleted k) × ((k : ℕ) → l.i ≤ k → get_or l.s k 0 ≡ get_or l.initial.s k 0)
