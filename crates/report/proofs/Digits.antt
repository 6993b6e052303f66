-- The digits of a number, put from the last. Assumes nothing.
use mathlib.Core.Path.{◌≡◌, refl, sym, ap, ◌∙◌}
use mathlib.Core.Bool.{Bool, true, false}
use mathlib.Core.List.{List, [], ◌∷◌, ◌++◌}
use Prim.Native.Nat.{ℕ, zero, suc, ◌+◌, ◌/◌, ◌%◌, ◌^◌, ◌≤◌, ◌<◌}
use native.Mathlib.Nat.{div-lt_iff_lt-mul, pow-suc}
use native.Mathlib.Omega.{arith}
use borrow.Author.Tests.{lt-ltb, le-ltb}
use lib.Dec.{ltb}
use lib.ListN.{length, drop}
use Rattle.rules.specs.Text.{decimal_in, decimal}
use Rattle.report.specs.Put.{Put}

-- The digits come before what they are put in front of.
decimal_before : (digits n : ℕ) (a b : List ℕ) → decimal_in digits n (a ++ b) ≡ decimal_in digits n a ++ b
decimal_before zero n a b = refl
decimal_before (suc digits) n a b = go (ltb n 10) (decimal_before digits (n / 10) ((48 + n % 10) ∷ a) b)
  where
    go : (t : Bool) → decimal_in digits (n / 10) ((48 + n % 10) ∷ (a ++ b)) ≡ decimal_in digits (n / 10) ((48 + n % 10) ∷ a) ++ b
        → elim t [ true ↦ (48 + n) ∷ (a ++ b) | false ↦ decimal_in digits (n / 10) ((48 + n % 10) ∷ (a ++ b)) ]
        ≡ elim t [ true ↦ (48 + n) ∷ a | false ↦ decimal_in digits (n / 10) ((48 + n % 10) ∷ a) ] ++ b
    go true e = refl
    go false e = e

-- Before each turn: the last digits of n stand from place i on, and `rest`, what is left of n, has at most `more` digits besides its last.
pub record Digits (n at : ℕ) (before : List ℕ) (rest i : ℕ) (now : List ℕ) : Type 0 where
  pub size : length now ≡ length before
  pub more : ℕ
  pub few : more ≤ 9
  pub place : more + at ≡ i + 9
  pub fits : rest < 10 ^ suc more
  pub is : decimal_in (suc more) rest (drop i now) ≡ decimal_in 10 n (drop at before)

-- No digit is put yet.
pub none_put : (n at : ℕ) (before : List ℕ) → n ≤ 4294967295 → Digits n at before n at before
none_put n at before h = record { size = refl; more = 9; few = omega arith; place = omega arith; fits = omega arith; is = refl }

module _ {n at rest i r : ℕ} {before now after : List ℕ} (d : Digits n at before rest i now) where
  -- One more, and `rest` has others.
  pub digit_put : 10 ≤ rest → Put ((48 + rest % 10) ∷ []) 1 i now r after → length after ≡ length now → Digits n at before (rest / 10) r after
  digit_put h p kept = go d.more d.few d.place d.fits d.is
    where
      go : (more : ℕ) → more ≤ 9 → more + at ≡ i + 9 → rest < 10 ^ suc more → decimal_in (suc more) rest (drop i now) ≡ decimal_in 10 n (drop at before)
          → Digits n at before (rest / 10) r after
      go zero few place fits is = absurd (omega arith)
      go (suc more) few place fits is =
          record {
            size = kept ∙ d.size;
            more = more;
            few = omega arith;
            place = omega (arith, p.low, p.high);
            fits = (div-lt_iff_lt-mul {k = 10} {x = rest} {y = 10 ^ suc more} (omega arith)).1 (rw pow-suc at fits);
            is =
                ap (decimal_in (suc more) (rest / 10)) p.is
                ∙ ap (λ (t : Bool). elim t [ true ↦ (48 + rest) ∷ drop i now | false ↦ decimal_in (suc more) (rest / 10) ((48 + rest % 10) ∷ drop i now) ])
                (sym (le-ltb rest 10 h))
                ∙ is;
          }

  -- The first digit, and with it all.
  pub digits_put : rest < 10 → Put ((48 + rest) ∷ []) 1 i now r after → Put (decimal n) 10 at before r after
  unfolding decimal
  digits_put h p =
      record {
        is =
            p.is
            ∙ ap (λ (t : Bool). elim t [ true ↦ (48 + rest) ∷ drop i now | false ↦ decimal_in d.more (rest / 10) ((48 + rest % 10) ∷ drop i now) ])
            (sym (lt-ltb rest 10 h))
            ∙ d.is ∙ decimal_before 10 n [] (drop at before);
        low = omega (arith, d.few, d.place, p.low);
        high = omega (arith, d.few, d.place, p.high);
      }
