-- The loop's invariant: the number has the bits of the words below w that are not quiet. A turn tries one more. Assumes nothing.
use mathlib.Core.Path.{◌≡◌, sym, ap, ◌∙◌}
use mathlib.Core.Bool.{true, false, not}
use mathlib.Core.List.{List}
use Prim.Native.Nat.{ℕ, ◌+◌, ◌*◌, ◌%◌, ◌^◌, ◌<◌}
use native.Mathlib.Omega.{arith}
use lib.Bits.{bit_or}
use Rattle.rules.specs.State.{word_count, word, quiet, bits_below}
use Rattle.rules.proofs.Bits.{shifted_one}
use Rattle.rules.proofs.Quiet.{bits_set, bits_unset}
use Rattle.state.proofs.computed.Invariants.{touches}
use Rattle.state.proofs.computed.Goals as goal

-- One word more, which is computed or not.
module _ (added deleted : List ℕ) (w : ℕ) {bits : ℕ} (e : bits ≡ bits_below w (touches added deleted)) where
  more : w < 32 → quiet (word added w) (word deleted w) ≡ false → bit_or bits (1 * 2 ^ w % 2 ^ 32) ≡ bits_below (w + 1) (touches added deleted)
  more h q = (λ j. bit_or (e j) (shifted_one 32 w h j)) ∙ sym (bits_set (touches added deleted) w (ap not q))

  same : quiet (word added w) (word deleted w) ≡ true → bits ≡ bits_below (w + 1) (touches added deleted)
  same q = e ∙ sym (bits_unset (touches added deleted) w (ap not q))

pub returns : goal.returns
unfolding word_count
returns c =
    let a = c.args in
    let l = c.loop-w in
    let all : l.w ≡ 8 = omega arith in
    l.invariant ∙ ap (λ (n : ℕ). bits_below n (touches a.added.words a.deleted.words)) all
