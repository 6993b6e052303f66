-- A run of positions as a set: the bits from one position up to another. By recursion on how many there are. Assumes nothing.
use mathlib.Core.Path.{◌≡◌, sym, ap, ap₂, ◌∙◌}
use mathlib.Core.Bool.{false, ◌&&◌, ◌||◌}
use Prim.Native.Nat.{ℕ, zero, suc, ◌+◌, ◌-◌, ◌*◌, ◌^◌, ◌≤◌, ◌<◌}
use native.Mathlib.Nat.{one-mul, pow-suc, add-zero, add-suc}
use native.Mathlib.Decide.{dec_lt}
use native.Mathlib.Omega.{arith}
use lib.Bits.{or_shifted}
use lib.Dec.{eqb, leb, ltb}
use lib.Pow.{pow_pos, pow_mono}
use borrow.Author.Tests.{lt-ltb, le-ltb, le-leb, lt-leb, eq-eqb, ne_eqb}
use Rattle.rules.specs.State.{bit}
use Rattle.rules.proofs.Bits.{bit_or_lem, bit_zero, bit_pow}
use Rattle.gaps.specs.Sums.{in_run}

-- One position more.
run_more : (a n s : ℕ) → (eqb (a + n) s || in_run a n s) ≡ in_run a (suc n) s
run_more a n s = go (dec_lt s a) (dec_lt s (a + n)) (dec_lt (a + n) s)
  where
    go : Dec (s < a) → Dec (s < a + n) → Dec (a + n < s) → (eqb (a + n) s || (leb a s && ltb s (a + n))) ≡ (leb a s && ltb s (a + suc n))
    go (yes h) x y = rw (lt-leb a s h, ne_eqb (a + n) s (λ e. omega arith))
    go (no h) (yes l) y = rw (le-leb a s (omega arith), lt-ltb s (a + n) l, lt-ltb s (a + suc n) (omega arith), ne_eqb (a + n) s (λ e. omega arith))
    go (no h) (no l) (yes m) = rw (le-leb a s (omega arith), le-ltb s (a + n) (omega arith), le-ltb s (a + suc n) (omega arith), ne_eqb (a + n) s (λ e. omega arith))
    go (no h) (no l) (no m) = rw (lt-ltb s (a + suc n) (omega arith), le-leb a s (omega arith), eq-eqb (a + n) s (omega arith))

run_none : (a s : ℕ) → in_run a 0 s ≡ false
run_none a s = go (dec_lt s a)
  where
    go : Dec (s < a) → (leb a s && ltb s (a + 0)) ≡ false
    go (yes h) = rw (lt-leb a s h)
    go (no h) = rw (le-leb a s (omega arith), le-ltb s (a + 0) (omega arith))

pub run_bits : (a n s : ℕ) → bit (2 ^ (a + n) - 2 ^ a) s ≡ in_run a n s
run_bits a zero s =
    let e : 2 ^ (a + 0) - 2 ^ a ≡ 0 = omega (arith, ap (λ (k : ℕ). 2 ^ k) (add-zero a)) in
    ap (λ (w : ℕ). bit w s) e ∙ bit_zero s ∙ sym (run_none a s)
run_bits a (suc n) s =
    let low = 2 ^ (a + n) - 2 ^ a in
    let power : 2 ^ (a + suc n) ≡ 2 ^ (a + n) * 2 = ap (λ (k : ℕ). 2 ^ k) (add-suc a n) ∙ pow-suc 2 (a + n) in
    let least : 2 ^ a ≤ 2 ^ (a + n) = pow_mono (omega arith) in
    let some = pow_pos a in
    let sum : 2 ^ (a + suc n) - 2 ^ a ≡ 1 * 2 ^ (a + n) + low = omega arith in
    ap (λ (w : ℕ). bit w s) (sum ∙ sym (or_shifted 1 (a + n) low (omega arith)))
    ∙ bit_or_lem (1 * 2 ^ (a + n)) low s
    ∙ ap₂ ◌||◌ (ap (λ (w : ℕ). bit w s) (one-mul (2 ^ (a + n))) ∙ bit_pow (a + n) s) (run_bits a n s)
    ∙ run_more a n s
