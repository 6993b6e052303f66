-- The bits of one word under two masks: none exactly if each bit of the range is clear; a word turned over, and as a sign asks. Assumes
-- nothing.
use mathlib.Core.Path.{◌≡◌, refl, sym, ap, ap₂, ◌∙◌, subst}
use mathlib.Core.Bool.{Bool, true, false, ◌&&◌, not, xor}
use mathlib.Core.List.{List}
use Prim.Native.Nat.{ℕ, zero, suc, ◌+◌, ◌-◌, ◌*◌, ◌/◌, ◌%◌, ◌^◌, ◌≤◌, ◌<◌}
use native.Mathlib.Nat.{mod-lt, mod-eq_of_lt, zero-lt-suc, pow-suc, add_comm, add-zero, zero-mul, one-mul, mul-mod_left, mul-le-mul_right}
use native.Mathlib.Numerals.{add-one}
use native.Mathlib.Decide.{ℕ_discrete}
use native.Mathlib.Omega.{arith}
use lib.Dec.{eqb}
use lib.Pow.{pow_pos, shr-shr, shl-shr, mod-pow-add, mod-mod-pow, ones_lt, ones_split, high, low, high_ones}
use lib.Bits.{bit_and, bit_xor, and_mask, and_high}
use borrow.Author.Tests.{eq-eqb, ne_eqb}
use Rattle.rules.specs.declared.Sign.{Sign}
use Rattle.rules.specs.State.{word, bit, member, every}
use Rattle.rules.specs.Constraint.{signed}
use Rattle.rules.proofs.Bits.{bit_xor_lem}
use Rattle.rules.proofs.Members.{member_at}
use Rattle.rules.proofs.Tables.{every_same, every_moved}
use Rattle.columns.specs.Columns.{asked}

-- ---- numbers that are all ones

ones_shr : (j k : ℕ) → (2 ^ (j + k) - 1) / 2 ^ k ≡ 2 ^ j - 1
ones_shr j k = ap (λ (n : ℕ). n / 2 ^ k) (ones_split j k) ∙ high (2 ^ j - 1) k (ones_lt k)

ones_odd : (k : ℕ) → (2 ^ suc k - 1) % 2 ≡ 1
ones_odd k = let e : 2 ^ suc k ≡ 2 ^ k * 2 = pow-suc 2 k in let p : 0 < 2 ^ k = pow_pos k in omega arith

bit_ones : (n i : ℕ) → i < n → bit (2 ^ n - 1) i ≡ true
unfolding bit
bit_ones n i h =
    let e : n ≡ suc (n - i - 1) + i = omega arith in
    ap (λ (x : ℕ). eqb (x % 2) 1) (ap (λ (m : ℕ). (2 ^ m - 1) / 2 ^ i) e ∙ ones_shr (suc (n - i - 1)) i)
    ∙ ap (λ (x : ℕ). eqb x 1) (ones_odd (n - i - 1))

-- A word turned over has the bits that it had not.
pub bit_over : (w i : ℕ) → i < 64 → bit (bit_xor w (2 ^ 64 - 1)) i ≡ not (bit w i)
unfolding xor
bit_over w i h = bit_xor_lem w (2 ^ 64 - 1) i ∙ ap (xor (bit w i)) (bit_ones 64 i h) ∙ xor_true (bit w i)
  where
    xor_true : (b : Bool) → xor b true ≡ not b
    xor_true true = refl
    xor_true false = refl

-- ---- the lowest bits

zero_digits : (a d : ℕ) → d < 2 → eqb (a * 2 + d) 0 ≡ (not (eqb d 1) && eqb a 0)
zero_digits a zero h = go (ℕ_discrete a 0)
  where
    go : Dec (a ≡ 0) → eqb (a * 2 + 0) 0 ≡ eqb a 0
    go (yes e) = eq-eqb (a * 2 + 0) 0 (omega arith) ∙ sym (eq-eqb a 0 e)
    go (no n) = ne_eqb (a * 2 + 0) 0 (λ q. n (omega arith)) ∙ sym (ne_eqb a 0 n)
zero_digits a (suc zero) h = ne_eqb (a * 2 + 1) 0 (λ q. omega arith)
zero_digits a (suc (suc d)) h = absurd (omega arith)

-- The n bits from lo on are clear exactly if the number moved down by lo is 0 below 2 ^ n.
low_clear : (x n lo : ℕ) → eqb (x / 2 ^ lo % 2 ^ n) 0 ≡ every n lo (λ i. not (bit x i))
unfolding bit
low_clear x zero lo = eq-eqb (x / 2 ^ lo % 2 ^ zero) 0 (omega arith)
low_clear x (suc n) lo =
    ap (λ (m : ℕ). eqb m 0)
    (ap (λ (k : ℕ). x / 2 ^ lo % 2 ^ k) (sym (add-one n)) ∙ mod-pow-add (x / 2 ^ lo) n 1
    ∙ ap (λ (y : ℕ). y % 2 ^ n * 2 + x / 2 ^ lo % 2) (shr-shr x lo 1 ∙ ap (λ (k : ℕ). x / 2 ^ k) (add-one lo)))
    ∙ zero_digits (x / 2 ^ suc lo % 2 ^ n) (x / 2 ^ lo % 2) (mod-lt (x / 2 ^ lo) (zero-lt-suc 1))
    ∙ ap (λ (b : Bool). not (eqb (x / 2 ^ lo % 2) 1) && b) (low_clear x n (suc lo))

-- ---- masks

-- A multiple of a power of two is 0 exactly if the factor is.
scaled_zero : (m k : ℕ) → eqb (m * 2 ^ k) 0 ≡ eqb m 0
scaled_zero m k = go (ℕ_discrete m 0)
  where
    go : Dec (m ≡ 0) → eqb (m * 2 ^ k) 0 ≡ eqb m 0
    go (yes e) = eq-eqb (m * 2 ^ k) 0 (ap (λ (x : ℕ). x * 2 ^ k) e ∙ zero-mul (2 ^ k)) ∙ sym (eq-eqb m 0 e)
    go (no n) =
        let p : 0 < 2 ^ k = pow_pos k in
        let l : 1 * 2 ^ k ≤ m * 2 ^ k = mul-le-mul_right (2 ^ k) (omega arith) in
        ne_eqb (m * 2 ^ k) 0 (λ q. omega (arith, one-mul (2 ^ k))) ∙ sym (ne_eqb m 0 n)

-- Ones from bit lo up to the word's width, as code makes them: a word of ones moved up.
ones_up : (width lo : ℕ) → lo ≤ width → (2 ^ width - 1) * 2 ^ lo % 2 ^ width ≡ 2 ^ width - 2 ^ lo
ones_up width lo h =
    subst (λ (w : ℕ). (2 ^ w - 1) * 2 ^ lo % 2 ^ w ≡ 2 ^ w - 2 ^ lo) whole (moved (width - lo))
  where
    whole : width - lo + lo ≡ width
    whole = omega arith

    moved : (j : ℕ) → (2 ^ (j + lo) - 1) * 2 ^ lo % 2 ^ (j + lo) ≡ 2 ^ (j + lo) - 2 ^ lo
    moved j =
        mod-pow-add ((2 ^ (j + lo) - 1) * 2 ^ lo) j lo
        ∙ ap₂ (λ (x y : ℕ). x % 2 ^ j * 2 ^ lo + y) (shl-shr (2 ^ (j + lo) - 1) lo) (mul-mod_left (2 ^ (j + lo) - 1) (2 ^ lo))
        ∙ ap (λ (x : ℕ). x * 2 ^ lo + 0) (ap (λ (m : ℕ). (2 ^ m - 1) % 2 ^ j) (add_comm j lo) ∙ ap (λ (x : ℕ). x % 2 ^ j) (ones_split lo j) ∙ low (2 ^ lo - 1) j (ones_lt j))
        ∙ add-zero ((2 ^ j - 1) * 2 ^ lo) ∙ sym (high_ones j lo)

-- Under ones from bit lo up, the bits below lo are gone.
under_up : (width x lo : ℕ) → lo ≤ width → bit_and x (2 ^ width - 2 ^ lo) ≡ x / 2 ^ lo % 2 ^ (width - lo) * 2 ^ lo
under_up width x lo h =
    let whole : width ≡ width - lo + lo = omega arith in
    ap (λ (w : ℕ). bit_and x (2 ^ w - 2 ^ lo)) whole ∙ and_high x (width - lo) lo

-- Under the n ones from bit lo on, made of two masks, the others are gone.
under_both : (width x lo n : ℕ) → lo + n ≤ width
    → bit_and (bit_and x (2 ^ width - 2 ^ lo)) (2 ^ (lo + n) - 1) ≡ x / 2 ^ lo % 2 ^ n * 2 ^ lo
under_both width x lo n h =
    let part : width - lo ≡ width - lo - n + n = omega arith in
    and_mask (bit_and x (2 ^ width - 2 ^ lo)) (lo + n)
    ∙ ap₂ (λ (a m : ℕ). a % 2 ^ m) (under_up width x lo (omega arith)) (add_comm lo n)
    ∙ mod-pow-add (x / 2 ^ lo % 2 ^ (width - lo) * 2 ^ lo) n lo
    ∙ ap₂ (λ (a b : ℕ). a % 2 ^ n * 2 ^ lo + b) (shl-shr (x / 2 ^ lo % 2 ^ (width - lo)) lo) (mul-mod_left (x / 2 ^ lo % 2 ^ (width - lo)) (2 ^ lo))
    ∙ add-zero (x / 2 ^ lo % 2 ^ (width - lo) % 2 ^ n * 2 ^ lo)
    ∙ ap (λ (a : ℕ). a * 2 ^ lo) (ap (λ (m : ℕ). x / 2 ^ lo % 2 ^ m % 2 ^ n) part ∙ mod-mod-pow (x / 2 ^ lo) (width - lo - n) n)

-- ---- one word

-- The bits of a word from a on, below b, as code tests them: under two masks.
pub within : (w a b : ℕ) → a ≤ b → b ≤ 64
    → eqb (bit_and (bit_and w ((2 ^ 64 - 1) * 2 ^ a % 2 ^ 64)) ((2 ^ 64 - 1) / 2 ^ (64 - b))) 0 ≡ every (b - a) a (λ i. not (bit w i))
within w a b h k =
    let up : b + (64 - b) ≡ 64 = omega arith in
    let whole : b ≡ a + (b - a) = omega arith in
    ap₂ (λ (x y : ℕ). eqb (bit_and (bit_and w x) y) 0) (ones_up 64 a (omega arith))
    (ap (λ (m : ℕ). (2 ^ m - 1) / 2 ^ (64 - b)) (sym up) ∙ ones_shr b (64 - b) ∙ ap (λ (m : ℕ). 2 ^ m - 1) whole)
    ∙ ap (λ (x : ℕ). eqb x 0) (under_both 64 w a (b - a) (omega arith))
    ∙ scaled_zero (w / 2 ^ a % 2 ^ (b - a)) a ∙ low_clear w (b - a) a

-- All bits of a word.
pub none_set : (w : ℕ) → w < 2 ^ 64 → eqb w 0 ≡ every 64 0 (λ i. not (bit w i))
none_set w h =
    let all : w / 2 ^ 0 ≡ w = omega arith in
    ap (λ (x : ℕ). eqb x 0) (sym (ap (λ (x : ℕ). x % 2 ^ 64) all ∙ mod-eq_of_lt h)) ∙ low_clear w 64 0

-- Bits in a word of a set, and the same bits as members, under any test.
pub in_word : (f : Bool → Bool) (s : List ℕ) (i lo n : ℕ) → lo + n ≤ 64
    → every n lo (λ k. f (bit (word s i) k)) ≡ every n (i * 64 + lo) (λ l. f (member s l))
in_word f s i lo n h =
    sym (every_moved n (i * 64) lo (λ l. f (member s l))
    ∙ every_same n lo (λ k. f (member s (i * 64 + k))) (λ k. f (bit (word s i) k)) (λ k a b. ap f (member_at s i k (omega arith))))

-- A word turned as a sign asks: its clear bits are those that the sign asks for, and so are these bits of the set.
abbrev pub Turned : Sign → ℕ → ℕ → Type 0
Turned g w x = (i : ℕ) → i < 64 → not (bit x i) ≡ signed g (not (bit w i))

pub in_turned : (g : Sign) (s : List ℕ) (i x lo n : ℕ) → Turned g (word s i) x → lo + n ≤ 64
    → every n lo (λ k. not (bit x k)) ≡ every n (i * 64 + lo) (asked g s)
in_turned g s i x lo n t h =
    every_same n lo (λ k. not (bit x k)) (λ k. signed g (not (bit (word s i) k))) (λ k a b. t k (omega arith))
    ∙ in_word (λ b. signed g (not b)) s i lo n h
