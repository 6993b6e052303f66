-- `too_long`: the digits past the first ones, of the gaps passed, and the positions that have some. Where another choice agrees on those
-- positions, it has as many at least. Assumes nothing.
use mathlib.Core.Path.{◌≡◌, refl, sym, ap, subst, ◌∙◌}
use mathlib.Core.Bool.{Bool, true, false}
use mathlib.Core.List.{List, [], ◌∷◌}
use Prim.Native.Nat.{ℕ, zero, suc, ◌+◌, ◌*◌, ◌-◌, ◌%◌, ◌^◌, ◌≤◌, ◌<◌}
use native.Mathlib.Numerals.{add-one}
use native.Mathlib.Omega.{arith}
use borrow.Author.Count.{below_more}
use borrow.Author.Tests.{ltb-true, ltb-false, eq-eqb}
use lib.Dec.{ltb}
use lib.Bits.{bit_or}
use lib.ListN.{length, take, get_or}
use lib.Seq.{take-length}
use Rattle.rules.specs.Text.{decimal}
use Rattle.rules.proofs.Bits.{bit_pow, shifted_one}
use Rattle.rules.proofs.Gaps.Lengths.{surplus}
use Rattle.choices.specs.Reasons.{Has, Reason}
use Rattle.choices.proofs.Reasoning.{bit_has, has_left, has_right}
use Rattle.seeking.specs.Seeking.{LongFails}
use Rattle.gaps.proofs.Digits.{digits_one, digits_two, digits_three, digits_four}

-- The digits of a gap past its first: three at most.
abbrev pub more_of : ℕ → ℕ
more_of g = length (decimal g) - 1

pub more_few : (g : ℕ) → g ≤ 1000 → more_of g ≤ 3
more_few g h = one (ltb g 10) refl
  where
    three : (t : Bool) → 100 ≤ g → ltb g 1000 ≡ t → more_of g ≤ 3
    three true l e = omega (arith, digits_three g l (ltb-true g 1000 e))
    three false l e = omega (arith, digits_four g (ltb-false g 1000 e) (omega arith))

    two : (t : Bool) → 10 ≤ g → ltb g 100 ≡ t → more_of g ≤ 3
    two true l e = omega (arith, digits_two g l (ltb-true g 100 e))
    two false l e = three (ltb g 1000) (ltb-false g 100 e) refl

    one : (t : Bool) → ltb g 10 ≡ t → more_of g ≤ 3
    one true e = omega (arith, digits_one g (ltb-true g 10 e))
    one false e = two (ltb g 100) (ltb-false g 10 e) refl

-- Each position below s that has more than one digit is in the set.
abbrev Named : List ℕ → ℕ → ℕ → Type 0
Named c s set = (i : ℕ) → i < s → 0 < more_of (get_or c i 0) → Has set i

-- ---- The turns

pub record Counted (c : List ℕ) (s digits set : ℕ) : Type 0 where
  pub counted : digits ≡ surplus (take s c)
  pub few : digits ≤ 3 * s
  pub named : Named c s set

pub none_counted : (c : List ℕ) → Counted c 0 0 0
none_counted c = record { counted = refl; few = omega arith; named = λ i l m. absurd (omega arith) }

surplus_next : (c : List ℕ) (s : ℕ) → s < length c → surplus (take (suc s) c) ≡ surplus (take s c) + more_of (get_or c s 0)
surplus_next [] s h = absurd (omega arith)
surplus_next (g ∷ gs) zero h = omega arith
surplus_next (g ∷ gs) (suc s) h = let x = surplus_next gs s (omega arith) in omega arith

has_own : (set s : ℕ) → s < 32 → Has (bit_or set (1 * 2 ^ s % 2 ^ 32)) s
has_own set s l =
    let own : Has (2 ^ s) s = bit_has (2 ^ s) s (bit_pow s s ∙ eq-eqb s s refl) in
    has_right set (1 * 2 ^ s % 2 ^ 32) s (subst (λ (n : ℕ). Has n s) (sym (shifted_one 32 s l)) own)

module _ (c : List ℕ) (s digits set : ℕ) (h : s < length c) (x : Counted c s digits set) where
  next_counted : surplus (take (s + 1) c) ≡ surplus (take s c) + more_of (get_or c s 0)
  next_counted = ap (λ (i : ℕ). surplus (take i c)) (add-one s) ∙ surplus_next c s h

  -- A gap of one digit.
  pub passed : more_of (get_or c s 0) ≡ 0 → Counted c (s + 1) digits set
  passed e = record {
    counted = omega (arith, x.counted, next_counted);
    few = omega (arith, x.few);
    named = below_more (λ (i : ℕ). 0 < more_of (get_or c i 0) → Has set i) s x.named (λ m. absurd (omega arith));
  }

  -- A gap of several.
  pub named_too : (m : ℕ) → m ≡ more_of (get_or c s 0) → m ≤ 3 → s < 32 → Counted c (s + 1) (digits + m) (bit_or set (1 * 2 ^ s % 2 ^ 32))
  named_too m e l w = record {
    counted = omega (arith, x.counted, next_counted);
    few = omega (arith, x.few);
    named =
        below_more (λ (i : ℕ). 0 < more_of (get_or c i 0) → Has (bit_or set (1 * 2 ^ s % 2 ^ 32)) i) s
        (λ i b p. has_left set (1 * 2 ^ s % 2 ^ 32) i (x.named i b p)) (λ p. has_own set s w);
  }

pub counted_as : (c : List ℕ) (s digits set d t : ℕ) → d ≡ digits → t ≡ set → Counted c s digits set → Counted c s d t
counted_as c s digits set d t e f x = rw (e, f) x

-- ---- The reason

-- A choice that agrees on the positions of several digits has as many: elsewhere it has one at least.
surplus_most : (gs ds : List ℕ) → length ds ≡ length gs
    → ((i : ℕ) → i < length gs → 0 < more_of (get_or gs i 0) → get_or ds i 0 ≡ get_or gs i 0) → surplus gs ≤ surplus ds
surplus_most [] ds e f = omega arith
surplus_most (g ∷ gs) [] e f = absurd (omega arith)
surplus_most (g ∷ gs) (d ∷ ds) e f = omega (arith, first (ltb 0 (more_of g)) refl, surplus_most gs ds (omega arith) (λ i l m. f (suc i) (omega arith) m))
  where
    first : (t : Bool) → ltb 0 (more_of g) ≡ t → more_of g ≤ more_of d
    first true x = omega (arith, ap more_of (f 0 (omega arith) (ltb-true 0 (more_of g) x)))
    first false x = omega (arith, ltb-false 0 (more_of g) x)

pub long_reason : (k spare : ℕ) (c : List ℕ) (s digits set : ℕ) → s ≡ length c → Counted c s digits set → spare < digits
    → (passing : List ℕ → Bool) → LongFails passing k (length c) spare → Reason passing k (length c) set c
long_reason k spare c s digits set e x over passing long d h a =
    let all : surplus (take s c) ≡ surplus c = ap surplus (ap (λ (i : ℕ). take i c) e ∙ take-length c) in
    let most = surplus_most c d h.0 (λ i l m. a i l (x.named i (omega arith) m)) in
    long d h (omega (arith, x.counted))
