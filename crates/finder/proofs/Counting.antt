-- The choices of a case counted, by its header and its empty tasks; and the length of its text without the digits of its gaps. Assumes nothing.
use mathlib.Core.Path.{◌≡◌, sym, ap, ◌∙◌, subst}
use mathlib.Core.List.{List}
use Prim.Native.Nat.{ℕ, ◌-◌, ◌≤◌, ◌<◌, min}
use native.Mathlib.Nat.{min-le_left, min-eq_left, min-eq_right}
use native.Mathlib.Decide.{dec_lt}
use native.Mathlib.Omega.{arith}
use lib.ListN.{length, take, replicate, length-replicate}
use lib.Seq.{length-take-le}
use Rattle.rules.specs.declared.Header.{Header}
use Rattle.rules.specs.Result.{found}
use Rattle.rules.specs.Case.{Case, read_case}
use Rattle.rules.specs.Print.{printed}
use Rattle.rules.specs.Gaps.{empty_count, power, gaps_of, choice_count, choice_most}
use Rattle.rules.proofs.Printing.{canonical}
use Rattle.rules.proofs.Gaps.Lengths.{surplus}
use Rattle.finder.specs.Finding.{Tried, LimitedBy, BaseOf}
use Rattle.finder.proofs.Counts.{empties_most, tried_one, zeros_taken}
use Rattle.finder.proofs.Prints.{surplus_inside}

module _ (k : Case) (header : Header) (head : header ≡ k.head) (e : ℕ) (counted : e ≡ empty_count k.nodes) (n : ℕ) (is : n ≡ min (power header.cues e) 1000001)
  where
    same : power header.cues e ≡ choice_count k
    unfolding choice_count
    same = ap (λ (x : Header). power x.cues e) head ∙ ap (power k.head.cues) counted

    pub counted_many : 1000000 < n → choice_most < choice_count k
    unfolding choice_most
    counted_many h = omega (arith, same, min-le_left (power header.cues e) 1000001)

    module _ (h : n ≤ 1000000) where
      below : power header.cues e ≤ 1000000
      below = go (dec_lt 1000000 (power header.cues e))
        where
          go : Dec (1000000 < power header.cues e) → power header.cues e ≤ 1000000
          go (yes l) = let over : min (power header.cues e) 1000001 ≡ 1000001 = min-eq_right (omega arith) in absurd (omega arith)
          go (no l) = omega arith

      pub counted_few : choice_count k ≤ choice_most
      unfolding choice_most
      counted_few = omega (arith, same, below)

      pub counted_is : choice_count k ≡ n
      counted_is = sym (is ∙ min-eq_left below' ∙ same)
        where
          below' : power header.cues e ≤ 1000001
          below' = omega (arith, below)

      -- With more than one choice the positions are few.
      pub counted_positions : (n ≡ 1 → ⊥) → e ≤ 19
      counted_positions more = empties_most header.cues e below (λ one. more (sym counted_is ∙ sym same ∙ one))

-- ---- The text

module _ (text : List ℕ) (k : Case) (reads : read_case text ≡ found k) (digits : ℕ) (is : digits ≡ surplus (gaps_of k.nodes)) where
  size : length text ≡ length (printed k)
  size = ap length (canonical text k reads)

  pub digits_inside : digits ≤ length text
  digits_inside = omega (arith, size, surplus_inside k)

  pub base_of : BaseOf k (length text - digits)
  base_of = omega (arith, size, surplus_inside k)

-- ---- Zeros to start from

module _ (e most : ℕ) (h : e ≤ most) where
  pub start_size : length (take e (replicate {A = ℕ} most 0)) ≡ e
  start_size = length-take-le e (replicate most 0) (omega (arith, length-replicate {A = ℕ} most 0))

  pub start_zeros : take e (replicate {A = ℕ} most 0) ≡ replicate (length (take e (replicate {A = ℕ} most 0))) 0
  start_zeros = zeros_taken e most h ∙ ap (λ (n : ℕ). replicate n 0) (sym start_size)

-- ---- The limits of the number tried, of a text

module _ (text : List ℕ) where
  pub limited_by : (k : Case) → read_case text ≡ found k → (n : ℕ) → Tried k n → LimitedBy text n
  limited_by k e n t l q = let same : k ≡ l = cc in subst (λ (x : Case). Tried x n) same t

  pub limited_one : LimitedBy text 1
  limited_one k e = tried_one k
