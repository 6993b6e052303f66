-- How many choices there are, where the search starts, and what is known of it there; the one choice where there is no other. Assumes nothing.
use mathlib.Core.Path.{◌≡◌, refl, sym, ap, ◌∙◌, subst}
use mathlib.Core.Bool.{Bool, false}
use mathlib.Core.List.{List, [], ◌∷◌}
use Prim.Native.Nat.{ℕ, zero, suc, ◌+◌, ◌-◌, ◌^◌, ◌≤◌, ◌<◌, min}
use native.Mathlib.Nat.{pow-zero, pow-suc, mul-one, pow-le-pow_left, min-eq_left}
use native.Mathlib.Decide.{dec_lt}
use native.Mathlib.Omega.{arith}
use lib.ListN.{length, take, replicate, length-replicate, get_or-replicate}
use lib.Pow.{pow_mono}
use lib.Seq.{ext_get_or}
use borrow.Author.Tests.{lt-ltb, le-leb}
use Rattle.rules.specs.State.{bit}
use Rattle.rules.specs.Case.{Case}
use Rattle.rules.specs.Gaps.{empty_count, power, ChoiceOf, choice_count, choice_most}
use Rattle.choices.specs.Searching.{place, on_from, AllFail}
use Rattle.choices.specs.Reasons.{Has, Reason, Known}
use Rattle.choices.proofs.Order.{starts, zeros_within, later, from_head}
use Rattle.choices.proofs.Count.{length_choices, place_below}
use Rattle.choices.proofs.Reasoning.{bit_has}
use Rattle.gaps.proofs.Runs.{run_bits}
use Rattle.finder.specs.Finding.{Tried}

-- ---- The power

pub power_some : (k e : ℕ) → 1 ≤ power k e
power_some k e =
    omega (arith, place_below k (replicate e 0) (zeros_within k e), ap (power k) (length-replicate {A = ℕ} e 0))

power_none : (e : ℕ) → power 0 e ≡ 1
unfolding power
power_none zero = pow-zero 1
power_none (suc e) = pow-suc 1 e ∙ mul-one (1 ^ e) ∙ power_none e

power_two : (k e : ℕ) → 2 ^ e ≤ power (suc k) e
unfolding power
power_two k e = pow-le-pow_left (omega arith) e

-- With a cue, more than 19 empty tasks have more than 1,000,000 choices.
pub empties_most : (k e : ℕ) → power k e ≤ 1000000 → (power k e ≡ 1 → ⊥) → e ≤ 19
empties_most zero e h n = absurd (n (power_none e))
empties_most (suc k) e h n = go (dec_lt 19 e)
  where
    go : Dec (19 < e) → e ≤ 19
    go (yes l) = let most : 20 ≤ e = omega arith in let more : 2 ^ 20 ≤ 2 ^ e = pow_mono {i = 20} {j = e} most in absurd (omega (arith, power_two k e))
    go (no l) = omega arith

-- ---- The number tried

module _ (k : Case) where
  pub tried_one : Tried k 1
  unfolding choice_count
  tried_one = (omega arith, power_some k.head.cues (empty_count k.nodes))

  pub tried_all : (n : ℕ) → n ≡ choice_count k → Tried k n
  tried_all n e = let h = tried_one.1 in (omega arith, omega arith)

  pub tried_place : (d : List ℕ) → ChoiceOf k d → Tried k (place k.head.cues d + 1)
  unfolding choice_count
  tried_place d h =
      let cues = k.head.cues in
      let below = place_below cues d h.1 in
      let same = ap (power cues) h.0 in
      (omega arith, omega arith)

  -- Where they are few, all of them were counted.
  pub counted_all : (cues e : ℕ) → cues ≡ k.head.cues → empty_count k.nodes ≡ e → choice_count k ≤ choice_most → min (power cues e) 1000001 ≡ choice_count k
  unfolding choice_count choice_most
  counted_all cues e c n h =
      let same : power cues e ≡ power k.head.cues (empty_count k.nodes) = ap (λ (x : ℕ). power x e) c ∙ ap (power k.head.cues) (sym n) in
      min-eq_left (omega arith) ∙ same

-- ---- One choice

pub zeros_taken : (e n : ℕ) → e ≤ n → take e (replicate {A = ℕ} n 0) ≡ replicate e 0
zeros_taken zero n h = refl
zeros_taken (suc e) zero h = absurd (omega arith)
zeros_taken (suc e) (suc n) h = ap {B = List ℕ} (λ r. 0 ∷ r) (zeros_taken e n (omega arith))

pub zeros_choice : (k : Case) (e : ℕ) (c : List ℕ) → empty_count k.nodes ≡ e → c ≡ replicate e 0 → ChoiceOf k c
zeros_choice k e c n z =
    subst (ChoiceOf k) (sym z) (length-replicate {A = ℕ} e 0 ∙ sym n, zeros_within k.head.cues e)

pub only_one : (k : Case) (e : ℕ) → empty_count k.nodes ≡ e → choice_count k ≡ 1 → power k.head.cues e ≡ 1
unfolding choice_count
only_one k e n one = ap (power k.head.cues) (sym n) ∙ one

none_left_lem : (l : List (List ℕ)) → length l ≡ 0 → l ≡ []
none_left_lem [] e = refl
none_left_lem (x ∷ xs) e = absurd (omega arith)

-- Every gap 0 is the only choice, so if it fails all do.
pub only_fails : (passing : List ℕ → Bool) (k e : ℕ) → power k e ≡ 1 → passing (replicate e 0) ≡ false → AllFail passing (on_from k (replicate e 0))
only_fails passing k e one fails =
    let zeros = replicate {A = ℕ} e 0 in
    let size : length (on_from k zeros) ≡ 1 = ap length (starts k e) ∙ length_choices k e ∙ one in
    let none : later k zeros ≡ [] = none_left_lem (later k zeros) (omega (arith, ap length (from_head k zeros))) in
    subst (AllFail passing) (sym (from_head k zeros)) (fails, subst (AllFail passing) (sym none) tt)

-- ---- What is known

-- At every gap 0 nothing is lower.
pub known_zeros : (passing : List ℕ → Bool) (k e : ℕ) (why : List ℕ) → Known passing k why (replicate e 0)
known_zeros passing k e why s h d c a l =
    absurd (omega (arith, get_or-replicate {A = ℕ} e s 0 0 (omega (arith, length-replicate {A = ℕ} e 0))))

all_has : (n i : ℕ) → i < n → Has (2 ^ n - 1) i
all_has n i h =
    let z : 0 + n ≡ n = omega arith in
    bit_has (2 ^ n - 1) i
    (ap (λ (m : ℕ). bit (2 ^ m - 1) i) (sym z) ∙ run_bits 0 n i ∙ rw (z, le-leb 0 i (omega arith), lt-ltb i n h))

-- A choice that fails does so because of all its gaps: another that agrees everywhere is the same.
pub all_reason : (passing : List ℕ → Bool) (k m : ℕ) (c : List ℕ) → m ≡ 2 ^ length c - 1 → passing c ≡ false → Reason passing k (length c) m c
all_reason passing k m c e fails d h a =
    let same : d ≡ c = ext_get_or 0 d c h.0
    (λ i l. let inside : i < length c = omega (arith, h.0) in a i inside (subst (λ (x : ℕ). Has x i) (sym e) (all_has (length c) i inside))) in
    ap passing same ∙ fails
