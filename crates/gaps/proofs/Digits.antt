-- How many digits a number up to 1000 has. Assumes nothing.
use mathlib.Core.Path.{◌≡◌, ◌∙◌}
use mathlib.Core.Logic.{by_cases}
use mathlib.Core.List.{List, [], ◌∷◌}
use Prim.Native.Nat.{ℕ, suc, ◌+◌, ◌/◌, ◌%◌, ◌≤◌, ◌<◌}
use Prim.Native.Char.{code}
use native.Mathlib.Decide.{dec_lt}
use native.Mathlib.Omega.{arith}
use lib.ListN.{length}
use borrow.Author.Tests.{lt-ltb, le-ltb}
use Rattle.rules.specs.Text.{decimal_in, decimal}

-- The last digit, and one with more before it.
last_digit : (d n : ℕ) (rest : List ℕ) → n < 10 → length (decimal_in (suc d) n rest) ≡ suc (length rest)
last_digit d n rest h = rw (lt-ltb n 10 h, decimal_in)

more_digit : (d n : ℕ) (rest : List ℕ) → 10 ≤ n → length (decimal_in (suc d) n rest) ≡ length (decimal_in d (n / 10) ((code "0" + n % 10) ∷ rest))
more_digit d n rest h = rw (le-ltb n 10 h, decimal_in)

pub digits_one : (n : ℕ) → n < 10 → length (decimal n) ≡ 1
unfolding decimal
digits_one n h = last_digit 9 n [] h

pub digits_two : (n : ℕ) → 10 ≤ n → n < 100 → length (decimal n) ≡ 2
unfolding decimal
digits_two n l h = more_digit 9 n [] l ∙ last_digit 8 (n / 10) _ (omega arith)

pub digits_three : (n : ℕ) → 100 ≤ n → n < 1000 → length (decimal n) ≡ 3
unfolding decimal
digits_three n l h = more_digit 9 n [] (omega arith) ∙ more_digit 8 (n / 10) _ (omega arith) ∙ last_digit 7 (n / 10 / 10) _ (omega arith)

pub digits_four : (n : ℕ) → 1000 ≤ n → n < 10000 → length (decimal n) ≡ 4
unfolding decimal
digits_four n l h =
    more_digit 9 n [] (omega arith) ∙ more_digit 8 (n / 10) _ (omega arith) ∙ more_digit 7 (n / 10 / 10) _ (omega arith)
    ∙ last_digit 6 (n / 10 / 10 / 10) _ (omega arith)

pub digits_few : (n : ℕ) → n ≤ 1000 → length (decimal n) ≤ 4
digits_few n h =
    by_cases (dec_lt n 10) (λ l. omega (arith, digits_one n l))
    (λ l. by_cases (dec_lt n 100) (λ m. omega (arith, digits_two n (omega arith) m))
    (λ m. by_cases (dec_lt n 1000) (λ s. omega (arith, digits_three n (omega arith) s)) (λ s. omega (arith, digits_four n (omega arith) (omega arith)))))
