-- An entry that gets past the tests fits. Assumes nothing.
use Prim.Native.Nat.{ℕ, ◌^◌, ◌≤◌, ◌<◌}
use lib.Bits.{bit_or, or_add_and, and_le_l, and_le_r}
use lib.Dec.{lit<}
use native.Mathlib.Nat.{one-le-pow}
use native.Mathlib.Omega.{arith}
use Rattle.blames.proofs.pool.fits.Goals as goal

or_above : (a b : ℕ) → (a ≤ bit_or a b) × (b ≤ bit_or a b)
or_above a b = (omega (arith, or_add_and a b, and_le_r a b), omega (arith, or_add_and a b, and_le_l a b))

pub returns : goal.returns
returns c =
    λ e.
    let a = c.args in
    let most = c.if-all-set.false in
    let whole = c.all.ensures in
    let more = one-le-pow a.positions 2 (lit< tt) in
    let up = or_above a.x.ends a.x.starts in
    let inside : bit_or a.x.ends a.x.starts < 2 ^ a.positions = omega arith in
    record {
      start_least = c.if-x-lt1.false;
      start_most = c.if-k-x.false;
      end_most = c.if-k-x-2.false;
      starts_below = omega (arith, up.1);
      ends_below = omega (arith, up.0);
    }
