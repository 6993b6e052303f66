-- One law for each turn and each way out of the loops of `count_of`, `place_of`, `clear_from` and `advance`. Assumes nothing.
use mathlib.Core.Path.{◌≡◌, refl, sym, ap, ◌∙◌}
use mathlib.Core.List.{List, [], ◌∷◌, ◌++◌, append-nil, append_assoc}
use Prim.Native.Nat.{ℕ, zero, suc, ◌+◌, ◌*◌, ◌-◌, ◌≤◌, ◌<◌, min}
use native.Mathlib.Omega.{arith}
use native.Mathlib.Nat.{pow-suc, pow-le-pow_right, min-eq_left, min-eq_right, mul_assoc, add-mul, zero-mul, mul-one, mul-suc, mul-le-mul}
use native.Mathlib.Numerals.{add-one}
use borrow.Author.Tests.{lt-ltb, le-ltb}
use lib.ListN.{length, take, drop, set, get_or, replicate, length-append, length-set, length-replicate}
use lib.ListN.{replicate-append-replicate, take-append-drop, drop_of_length-le}
use lib.Seq.{length-take-le, take-suc, drop-cons, set_at}
use Rattle.rules.specs.Gaps.{power, Within}
use Rattle.choices.specs.Searching.{place, next, carried, next_of}
use Rattle.choices.proofs.Count.{power_zero, place_below}

-- ---- `count_of`

power_more : (k i : ℕ) → power k (suc i) ≡ power k i * suc k
unfolding power
power_more k i = pow-suc (suc k) i

pub power_next : (k i : ℕ) → power k i * (k + 1) ≡ power k (i + 1)
power_next k i = rw (add-one k, add-one i) (sym (power_more k i))

power_mono : (k i j : ℕ) → i ≤ j → power k i ≤ power k j
unfolding power
power_mono k i j h = pow-le-pow_right (omega arith) h

pub counted_over : (k i e n : ℕ) → n ≡ power k (i + 1) → i < e → 1000000 < n → 1000001 ≡ min (power k e) 1000001
counted_over k i e n p h o = sym (min-eq_right (omega (arith, power_mono k (i + 1) e (omega arith))))

pub counted : (k i e n : ℕ) → n ≡ power k i → i ≡ e → n ≤ 1000000 → n ≡ min (power k e) 1000001
counted k i e n p h o = let q : n ≡ power k e = p ∙ ap (power k) h in q ∙ sym (min-eq_left (omega arith))

pub product_small : (n k : ℕ) → n ≤ 1000000 → k ≤ 1000 → n * (k + 1) ≤ 1000000 * 1001
product_small n k a b = let c : k + 1 ≤ 1001 = omega arith in mul-le-mul a c

-- ---- `place_of`

place_snoc : (k : ℕ) (xs : List ℕ) (g : ℕ) → place k (xs ++ (g ∷ [])) ≡ place k xs * suc k + g
place_snoc k [] g =
    let a : g * power k 0 ≡ g = ap (λ (n : ℕ). g * n) (power_zero k) ∙ mul-one g in
    omega (arith, zero-mul (suc k))
place_snoc k (x ∷ xs) g =
    let n : length (xs ++ (g ∷ [])) ≡ suc (length xs) = length-append xs (g ∷ []) ∙ add-one (length xs) in
    let a : x * power k (length (xs ++ (g ∷ []))) ≡ x * power k (length xs) * suc k =
    ap (λ (m : ℕ). x * m) (ap (power k) n ∙ power_more k (length xs)) ∙ sym (mul_assoc x (power k (length xs)) (suc k)) in
    let b : (x * power k (length xs) + place k xs) * suc k ≡ x * power k (length xs) * suc k + place k xs * suc k =
    add-mul (x * power k (length xs)) (place k xs) (suc k) in
    omega (arith, place_snoc k xs g)

within_take : (k i : ℕ) (c : List ℕ) → Within k c → Within k (take i c)
within_take k zero c w = tt
within_take k (suc i) [] w = tt
within_take k (suc i) (g ∷ gs) w = (w.0, within_take k i gs w.1)

pub place_next : (k i n : ℕ) (c : List ℕ) → i < length c → n ≡ place k (take i c) → n * k + n + get_or c i 0 ≡ place k (take (i + 1) c)
place_next k i n c h e =
    let g = get_or c i 0 in
    let a : place k (take (suc i) c) ≡ place k (take i c) * suc k + g = ap (place k) (take-suc c i 0 h) ∙ place_snoc k (take i c) g in
    let b : n * suc k ≡ place k (take i c) * suc k = ap (λ (m : ℕ). m * suc k) e in
    omega (arith, mul-suc n k, ap (λ (m : ℕ). place k (take m c)) (add-one i))

pub place_fits : (k i n : ℕ) (c : List ℕ) → Within k c → power k (length c) ≤ 1000000 → i < length c → n ≡ place k (take i c)
    → n * k + n + get_or c i 0 < 1000000
place_fits k i n c w h l e =
    let m : length (take (i + 1) c) ≡ i + 1 = length-take-le (i + 1) c (omega arith) in
    omega (
      arith,
      place_next k i n c l e,
      place_below k (take (i + 1) c) (within_take k (i + 1) c w),
      ap (power k) m,
      power_mono k (i + 1) (length c) (omega arith),
    )

-- ---- `clear_from`

-- Zeros from `from` to i.
abbrev pub zeroed : List ℕ → ℕ → ℕ → List ℕ
zeroed d from i = (take from d ++ replicate (i - from) 0) ++ drop i d

pub zeroed_start : (d : List ℕ) (from : ℕ) → d ≡ zeroed d from from
zeroed_start d from =
    let z : from - from ≡ 0 = omega arith in
    rw (z, append-nil (take from d)) (sym (take-append-drop from d))

set_past : (p d : List ℕ) (i : ℕ) → length p ≡ i → i < length d → set (p ++ drop i d) i 0 ≡ (p ++ (0 ∷ [])) ++ drop (i + 1) d
set_past p d i n h =
    ap (λ (l : List ℕ). set (p ++ l) i 0) (drop-cons d i 0 h)
    ∙ set_at p (get_or d i 0) (drop (suc i) d) 0 i n
    ∙ sym (append_assoc p (0 ∷ []) (drop (suc i) d))
    ∙ ap (λ (m : ℕ). (p ++ (0 ∷ [])) ++ drop m d) (sym (add-one i))

zeros_more : (p : List ℕ) (n : ℕ) → (p ++ replicate n 0) ++ (0 ∷ []) ≡ p ++ replicate (n + 1) 0
zeros_more p n = append_assoc p (replicate n 0) (0 ∷ []) ∙ ap (λ (l : List ℕ). p ++ l) (replicate-append-replicate n 1 0)

pub zeroed_next : (d : List ℕ) (from i : ℕ) → from ≤ i → i < length d → set (zeroed d from i) i 0 ≡ zeroed d from (i + 1)
zeroed_next d from i f h =
    let n : length (take from d ++ replicate (i - from) 0) ≡ i = omega (
      arith,
      length-append (take from d) (replicate (i - from) 0),
      length-take-le from d (omega arith),
      length-replicate {A = ℕ} (i - from) 0,
    ) in
    let s : i - from + 1 ≡ i + 1 - from = omega arith in
    set_past (take from d ++ replicate (i - from) 0) d i n h
    ∙ ap (λ (l : List ℕ). l ++ drop (i + 1) d) (zeros_more (take from d) (i - from) ∙ ap (λ (m : ℕ). take from d ++ replicate m 0) s)

pub zeroed_all : (d : List ℕ) (from i : ℕ) → i ≡ length d → zeroed d from i ≡ take from d ++ replicate (length d - from) 0
zeroed_all d from i h =
    ap (λ (l : List ℕ). (take from d ++ replicate (i - from) 0) ++ l) (drop_of_length-le d {i = i} (omega arith))
    ∙ append-nil (take from d ++ replicate (i - from) 0)
    ∙ ap (λ (m : ℕ). take from d ++ replicate (m - from) 0) h

-- ---- `advance`

-- A gap that is k passes the carry on.
pass_on : (k i : ℕ) (c : List ℕ) → k ≤ get_or c i 0 → next_of k (suc i) c ≡ next_of k i c
pass_on k zero [] h = refl
pass_on k zero (g ∷ gs) h = rw (le-ltb g k h)
pass_on k (suc i) [] h = refl
pass_on k (suc i) (g ∷ gs) h = ap (carried k g (length gs)) (pass_on k i gs h)

-- One that is less goes up, and 0 after it.
pub goes_up : (k i : ℕ) (c : List ℕ) → i < length c → get_or c i 0 < k
    → next_of k (suc i) c ≡ next (take (suc i) (set c i (suc (get_or c i 0))) ++ replicate (length c - suc i) 0)
goes_up k i [] h l = absurd (omega arith)
goes_up k zero (g ∷ gs) h l = let z : suc (length gs) - 1 ≡ length gs = omega arith in rw (lt-ltb g k l, z)
goes_up k (suc i) (g ∷ gs) h l =
    let z : suc (length gs) - suc (suc i) ≡ length gs - suc i = omega arith in
    rw (goes_up k i gs (omega arith) l, z)

pub carry_on : (k i j : ℕ) (c : List ℕ) → 0 < i → j ≡ i - 1 → k ≤ get_or c j 0 → next_of k i c ≡ next_of k j c
carry_on k i j c p e h = let s : i ≡ suc j = omega arith in ap (λ (n : ℕ). next_of k n c) s ∙ pass_on k j c h

pub carry_ends : (k i j : ℕ) (c : List ℕ) → 0 < i → j ≡ i - 1 → j < length c → get_or c j 0 < k
    → next_of k i c ≡ next (take (j + 1) (set c j (get_or c j 0 + 1)) ++ replicate (length (set c j (get_or c j 0 + 1)) - (j + 1)) 0)
carry_ends k i j c p e h l =
    let s : i ≡ suc j = omega arith in
    ap (λ (n : ℕ). next_of k n c) s
    ∙ goes_up k j c h l
    ∙ rw (add-one j, add-one (get_or c j 0), length-set c j (suc (get_or c j 0)))
