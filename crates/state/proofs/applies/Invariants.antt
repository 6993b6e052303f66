-- The loop's invariant: nothing is found so far exactly if each word below i passes its test. Assumes nothing.
use mathlib.Core.Path.{◌≡◌}
use mathlib.Core.Bool.{Bool}
use mathlib.Core.List.{List}
use Prim.Native.Nat.{ℕ}
use lib.Dec.{eqb}
use Rattle.rules.specs.State.{word, every, applies_word}
use Rattle.state.proofs.applies.Given as goal

-- the test of word i
abbrev pub part : List ℕ → List ℕ → List ℕ → ℕ → Bool
part s needed forbidden i = applies_word (word s i) (word needed i) (word forbidden i)

abbrev pub invariant-loop-i : goal.invariant-loop-i
invariant-loop-i l = eqb l.found 0 ≡ every l.i 0 (part l.s l.needed l.forbidden)
