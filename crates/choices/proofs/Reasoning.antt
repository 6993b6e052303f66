-- A reason narrowed, widened and kept for the next choice; one law for each turn of `learn`. Assumes nothing.
use mathlib.Core.Path.{◌≡◌, refl, sym, ap, subst, ◌∙◌}
use mathlib.Core.Bool.{Bool, true, false, ◌||◌, or-true}
use mathlib.Core.List.{List, [], ◌∷◌, ◌++◌}
use Prim.Native.Nat.{ℕ, zero, suc, ◌+◌, ◌-◌, ◌/◌, ◌%◌, ◌^◌, ◌≤◌, ◌<◌}
use native.Mathlib.Omega.{arith}
use native.Mathlib.Numerals.{add-one}
use borrow.Author.Tests.{ltb-true, ltb-false, eqb-true, eq-eqb}
use lib.Dec.{ltb}
use lib.Bits.{bit_or}
use lib.ListN.{length, take, set, get_or, replicate, length-set, get_or-append}
use lib.Seq.{get_or-take, get_or-set_same, get_or-set_other, get_or-append-add, length-take-le}
use Rattle.rules.specs.State.{bit}
use Rattle.rules.specs.Gaps.{Within, Choice}
use Rattle.rules.proofs.Bits.{bit_or_lem}
use Rattle.choices.specs.Searching.{next, next_of, Blames}
use Rattle.choices.specs.Reasons.{Has, AgreeBelow, Reason, Known, Learns}
use Rattle.choices.proofs.Order.{Sized, sized}
use Rattle.choices.proofs.Turns.{goes_up}

-- ---- Sets

pub has_bit : (m i : ℕ) → Has m i → bit m i ≡ true
unfolding bit
has_bit m i h = eq-eqb (m / 2 ^ i % 2) 1 h

pub bit_has : (m i : ℕ) → bit m i ≡ true → Has m i
unfolding bit
bit_has m i h = eqb-true (m / 2 ^ i % 2) 1 h

pub has_left : (m w i : ℕ) → Has m i → Has (bit_or m w) i
has_left m w i h = bit_has (bit_or m w) i (bit_or_lem m w i ∙ ap (λ (b : Bool). b || bit w i) (has_bit m i h))

pub has_right : (m w i : ℕ) → Has w i → Has (bit_or m w) i
has_right m w i h = bit_has (bit_or m w) i (bit_or_lem m w i ∙ ap (λ (b : Bool). bit m i || b) (has_bit w i h) ∙ or-true (bit m i))

-- ---- Positions

-- Below suc s is below s, or s.
below_cases : (P : ℕ → Type 0) (s : ℕ) → ((i : ℕ) → i < s → P i) → P s → (i : ℕ) → i < suc s → P i
below_cases P s low at i h = go (ltb i s) refl
  where
    go : (t : Bool) → ltb i s ≡ t → P i
    go true e = low i (ltb-true i s e)
    go false e = let same : s ≡ i = omega (arith, ltb-false i s e) in subst P same at

all_zero : (n i : ℕ) → ◌≡◌ {A = ℕ} (get_or (replicate n 0) i 0) 0
all_zero zero i = refl
all_zero (suc n) zero = refl
all_zero (suc n) (suc i) = all_zero n i

within_at : (k i : ℕ) (c : List ℕ) → Within k c → get_or c i 0 ≤ k
within_at k i [] w = omega arith
within_at k zero (g ∷ gs) w = w.0
within_at k (suc i) (g ∷ gs) w = within_at k i gs w.1

-- A list with v at s and zeros after it.
pub record Stepped (l : List ℕ) (s v : ℕ) (to : List ℕ) : Type 0 where
  pub below : (i : ℕ) → i < s → get_or to i 0 ≡ get_or l i 0
  pub self : get_or to s 0 ≡ v
  pub after : (i : ℕ) → s < i → get_or to i 0 ≡ 0

module _ (l : List ℕ) (s v n : ℕ) (h : s < length l) where
  front : length (take (suc s) (set l s v)) ≡ suc s
  front = length-take-le (suc s) (set l s v) (simp length-set h)

  at_front : (i : ℕ) → i < suc s → get_or (take (suc s) (set l s v) ++ replicate n 0) i 0 ≡ get_or (set l s v) i 0
  at_front i lt = get_or-append (take (suc s) (set l s v)) (replicate n 0) 0 i (omega (arith, front)) ∙ get_or-take (suc s) (set l s v) i 0 lt

  past_front : (i : ℕ) → s < i → get_or (take (suc s) (set l s v) ++ replicate n 0) i 0 ≡ 0
  past_front i lt =
      let e : i ≡ length (take (suc s) (set l s v)) + (i - suc s) = omega (arith, front) in
      ap (λ (j : ℕ). get_or (take (suc s) (set l s v) ++ replicate n 0) j 0) e
      ∙ get_or-append-add (take (suc s) (set l s v)) (replicate n 0) (i - suc s) 0
      ∙ all_zero n (i - suc s)

  stepped : Stepped l s v (take (suc s) (set l s v) ++ replicate n 0)
  stepped = record {
    below = λ i lt. at_front i (omega arith) ∙ get_or-set_other l s i v 0 (λ e. absurd (omega arith));
    self = at_front s (omega arith) ∙ get_or-set_same l s v 0 h;
    after = past_front;
  }

-- ---- Reasons

module _ (passing : List ℕ → Bool) (k : ℕ) where
  -- A gap that is not in the set.
  pub narrows : (s m : ℕ) (c : List ℕ) → (Has m s → ⊥) → Reason passing k (suc s) m c → Reason passing k s m c
  narrows s m c out r d h a = r d h (below_cases (λ i. Has m i → get_or d i 0 ≡ get_or c i 0) s a (λ x. absurd (out x)))

  -- A reason blames the gaps below its bound.
  pub blames : (b m : ℕ) (c : List ℕ) → b ≤ length c → Reason passing k b m c → Blames passing k c b
  blames b m c l r =
      (l, λ d h t. r d h (λ i lt x. sym (get_or-take b d i 0 lt) ∙ ap (λ (y : List ℕ). get_or y i 0) t ∙ get_or-take b c i 0 lt))

  -- A choice that agrees on the reason below s and on what is known of s: a lower number at s fails by that, the same number by the reason.
  either : (s m : ℕ) (c why d : List ℕ) → s < length c → Reason passing k (suc s) m c → Known passing k why c → Choice k (length c) d
      → AgreeBelow s (bit_or m (get_or why s 0)) c d → get_or d s 0 ≤ get_or c s 0 → passing d ≡ false
  either s m c why d l r known h a le = go (ltb (get_or d s 0) (get_or c s 0)) refl
    where
      go : (t : Bool) → ltb (get_or d s 0) (get_or c s 0) ≡ t → passing d ≡ false
      go true e = known s l d h (λ i lt x. a i lt (has_right m (get_or why s 0) i x)) (ltb-true (get_or d s 0) (get_or c s 0) e)
      go false e =
          let same : get_or d s 0 ≡ get_or c s 0 = omega (arith, ltb-false (get_or d s 0) (get_or c s 0) e) in
          r d h (below_cases (λ i. Has m i → get_or d i 0 ≡ get_or c i 0) s (λ i lt x. a i lt (has_left m (get_or why s 0) i x)) (λ x. same))

  -- A gap that is k: what is known of it takes its place.
  pub widens : (s m : ℕ) (c why : List ℕ) → s < length c → k ≤ get_or c s 0 → Reason passing k (suc s) m c → Known passing k why c
      → Reason passing k s (bit_or m (get_or why s 0)) c
  widens s m c why l full r known d h a = either s m c why d l r known h a (omega (arith, within_at k s d h.1))

  -- A gap that can go up: what is known of the choice after that.
  goes_known : (s m : ℕ) (c why on after : List ℕ) → s < length c → length on ≡ length c → Stepped c s (suc (get_or c s 0)) on
      → Stepped why s (bit_or m (get_or why s 0)) after → Reason passing k (suc s) m c → Known passing k why c → Known passing k after on
  goes_known s m c why on after l len x y r known j lt d h a less = go (ltb j s) refl
    where
      here : j ≡ s → passing d ≡ false
      here e =
          let b : AgreeBelow s (get_or after s 0) on d = subst (λ (i : ℕ). AgreeBelow i (get_or after i 0) on d) e a in
          let low : get_or d s 0 < get_or on s 0 = subst (λ (i : ℕ). get_or d i 0 < get_or on i 0) e less in
          either s m c why d l r known (h.0 ∙ len, h.1)
          (λ i li u. b i li (subst (λ (z : ℕ). Has z i) (sym y.self) u) ∙ x.below i li) (omega (arith, x.self, low))

      high : (t : Bool) → s ≤ j → ltb s j ≡ t → passing d ≡ false
      high true le e = let z = x.after j (ltb-true s j e) in absurd (omega (arith, z))
      high false le e = here (omega (arith, ltb-false s j e))

      go : (t : Bool) → ltb j s ≡ t → passing d ≡ false
      go true e =
          let js : j < s = ltb-true j s e in
          known j (omega arith) d (h.0 ∙ len, h.1)
          (λ i li u. a i li (subst (λ (z : ℕ). Has z i) (sym (y.below j js)) u) ∙ x.below i (omega arith)) (omega (arith, x.below j js, less))
      go false e = high (ltb s j) (ltb-false j s e) refl

  pub keeps : (s m : ℕ) (c why after d : List ℕ) → s < length c → get_or c s 0 < k → Stepped why s (bit_or m (get_or why s 0)) after
      → Reason passing k (suc s) m c → Known passing k why c → next_of k (suc s) c ≡ next d → Known passing k after d
  keeps s m c why after d l up y r known e =
      let v = suc (get_or c s 0) in
      let f = goes_up k s c l up in
      let same : take (suc s) (set c s v) ++ replicate (length c - suc s) 0 ≡ d = cc in
      goes_known s m c why d after l (subst (Sized (length c)) e (sized k (suc s) c))
      (subst (Stepped c s v) same (stepped c s v (length c - suc s) l)) y r known

  -- At first nothing is known, and nothing needs to be.
  pub knows_none : (e : ℕ) (why : List ℕ) → Known passing k why (replicate e 0)
  knows_none e why s l d h a less = absurd (omega (arith, all_zero e s))

-- ---- The turns of `learn`

-- Of a reason m and known reasons why₀: at s the set n is a reason, and the reasons why are known.
abbrev pub Stands : ℕ → ℕ → List ℕ → List ℕ → ℕ → ℕ → List ℕ → Type 0
Stands k m c why₀ s n why =
    (passing : List ℕ → Bool) → Reason passing k (length c) m c → Known passing k why₀ c → Reason passing k s n c × Known passing k why c

pub passed : (k m s t n : ℕ) (c why₀ why : List ℕ) → 0 < s → t ≡ s - 1 → (Has n t → ⊥) → Stands k m c why₀ s n why → Stands k m c why₀ t n why
passed k m s t n c why₀ why p e out h passing r known =
    let q : s ≡ suc t = omega arith in
    let x = h passing r known in
    (narrows passing k t n c out (subst (λ (i : ℕ). Reason passing k i n c) q x.0), x.1)

pub widened : (k m s t n : ℕ) (c why₀ why : List ℕ) → 0 < s → t ≡ s - 1 → t < length c → k ≤ get_or c t 0 → Stands k m c why₀ s n why
    → Stands k m c why₀ t (bit_or n (get_or why t 0)) why
widened k m s t n c why₀ why p e l full h passing r known =
    let q : s ≡ suc t = omega arith in
    let x = h passing r known in
    (widens passing k t n c why l full (subst (λ (i : ℕ). Reason passing k i n c) q x.0) x.1, x.1)

-- What `learn` leaves where a gap can go up: the reason there, and zeros after it.
left_stepped : (t w : ℕ) (why after : List ℕ) → t < length why → after ≡ take (t + 1) (set why t w) ++ replicate (length (set why t w) - (t + 1)) 0
    → Stepped why t w after
left_stepped t w why after l e =
    let o = length (set why t w) - (t + 1) in
    subst (Stepped why t w) (ap (λ (i : ℕ). take i (set why t w) ++ replicate o 0) (sym (add-one t)) ∙ sym e) (stepped why t w o l)

pub learnt : (k m s t n : ℕ) (c why₀ why after : List ℕ) → 0 < s → t ≡ s - 1 → t < length c → length why ≡ length c → get_or c t 0 < k
    → Stands k m c why₀ s n why
    → after ≡ take (t + 1) (set why t (bit_or n (get_or why t 0))) ++ replicate (length (set why t (bit_or n (get_or why t 0))) - (t + 1)) 0
    → Learns k m c why₀ (t + 1) after
learnt k m s t n c why₀ why after p e l q up h same passing r known =
    let z : s ≡ suc t = omega arith in
    let x = h passing r known in
    let at : Reason passing k (suc t) n c = subst (λ (i : ℕ). Reason passing k i n c) z x.0 in
    let y = left_stepped t (bit_or n (get_or why t 0)) why after (omega arith) same in (
      subst (Blames passing k c) (sym (add-one t)) (blames passing k (suc t) n c (omega arith) at),
      λ d f. keeps passing k t n c why after d l up y at x.1 (subst (λ (i : ℕ). next_of k i c ≡ next d) (add-one t) f),
    )

pub learnt_none : (k m s n : ℕ) (c why₀ why : List ℕ) → s ≡ 0 → Stands k m c why₀ s n why → Learns k m c why₀ 0 why
learnt_none k m s n c why₀ why e h passing r known =
    let x = h passing r known in (
      blames passing k 0 n c (omega arith) (subst (λ (i : ℕ). Reason passing k i n c) e x.0),
      λ d f. let z : ◌≡◌ {A = ℕ} 0 1 = cc in absurd (omega arith),
    )
