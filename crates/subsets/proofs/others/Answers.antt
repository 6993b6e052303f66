-- The empty set has no rest; of another set the bit of the lowest member is set, and the code clears it. Assumes nothing.
use mathlib.Core.Path.{◌≡◌, sym, ap, subst, ◌∙◌}
use mathlib.Core.List.{head_d, tail}
use mathlib.Core.Logic.{◌≢◌}
use Prim.Native.Nat.{ℕ, ◌^◌, ◌<◌}
use native.Mathlib.Nat.{le_refl}
use lib.Bits.{bit_xor}
use Rattle.rules.proofs.Bits.{shifted_one}
use Rattle.subsets.specs.Members.{members_of}
use Rattle.subsets.proofs.Members.{members_zero, lowest_below, members_others}
use Rattle.subsets.proofs.others.Goals as goal

-- a set that is not 0 has a member, and it is below 32
below : (u t : ℕ) → u ≢ 0 → u < 2 ^ 32 → t ≡ head_d (members_of u) 32 → t < 32
below u t some fits is = subst (λ (n : ℕ). n < 32) (sym is) (lowest_below u 32 some fits (le_refl 32))

pub returns-then-u-eq0 : goal.returns-then-u-eq0
returns-then-u-eq0 c = members_zero ∙ sym (ap (λ (x : ℕ). tail (members_of x)) c.if-u-eq0.true ∙ ap tail members_zero)

pub overflow_shl-result : goal.overflow_shl-result
overflow_shl-result c = below c.args.u c.lowest.result c.if-u-eq0.false c.ranges.u.fits c.lowest.ensures

pub returns : goal.returns
returns c =
    let t = c.lowest.result in
    ap (λ (n : ℕ). members_of (bit_xor c.args.u n))
    (shifted_one 32 t (below c.args.u t c.if-u-eq0.false c.ranges.u.fits c.lowest.ensures) ∙ ap (λ (n : ℕ). 2 ^ n) c.lowest.ensures)
    ∙ members_others c.args.u c.if-u-eq0.false c.ranges.u.fits
