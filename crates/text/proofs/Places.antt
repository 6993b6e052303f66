-- What the definitions say at a place of the text, by the tests of the code: past the text's end nothing is left, and before it the
-- rest is the byte there and what follows. Assumes nothing.
use mathlib.Core.Path.{◌≡◌, sym, ap, ◌∙◌}
use mathlib.Core.List.{List, [], ◌∷◌}
use mathlib.Core.Bool.{Bool, true, false}
use Prim.Native.Nat.{ℕ, ◌+◌, ◌-◌, ◌*◌, ◌≤◌, ◌<◌}
use native.Mathlib.Numerals.{add-one}
use native.Mathlib.Decide.{dec_lt}
use native.Mathlib.Omega.{arith}
use lib.ListN.{length, get_or, drop, drop_of_length-le}
use lib.Seq.{drop-cons}
use borrow.Author.Tests.{eq-eqb, ne_eqb}
use Rattle.rules.specs.Text.{is_feed, is_comma, is_digit, ends_field, field_of, not_plain, missing, number_in, number_after, number_at, letter, no_letter, letter_of, letter_at, ended, surplus, ending_of, ending_at}
use Rattle.text.specs.Scan.{is_over, closed, continued}
use Rattle.text.proofs.Scan.{digit_range, digit_inside, field_over, field_on, over_here, closed_on, letter_alone, letter_crowded, step_digit, step_other, begin_zero, begin_digit, begin_other}

module _ (t : List ℕ) (i : ℕ) where
  pub drop_out : length t ≤ i → drop i t ≡ []
  drop_out h = drop_of_length-le t h

  pub drop_in : i < length t → drop i t ≡ get_or t i 0 ∷ drop (i + 1) t
  drop_in h = drop-cons t i 0 h ∙ ap (λ (n : ℕ). get_or t i 0 ∷ drop n t) (sym (add-one i))

module _ (t : List ℕ) (i : ℕ) where
  -- ---- the text is over

  module _ (h : length t ≤ i) where
    pub number_out : number_at t i ≡ missing
    unfolding number_at
    number_out = ap (number_after i) (drop_out t i h)

    pub letter_out : letter_at t i ≡ no_letter
    unfolding letter_at
    letter_out = ap (λ (l : List ℕ). letter_of i (field_of l)) (drop_out t i h)

    pub ending_out : ending_at t i ≡ surplus
    unfolding ending_at
    ending_out = ap (ending_of i) (drop_out t i h)

  -- ---- a byte stands here

  module _ (h : i < length t) where
    pub over_in : is_over (field_of (drop i t)) ≡ ends_field (get_or t i 0)
    over_in = ap (λ (l : List ℕ). is_over (field_of l)) (drop_in t i h) ∙ over_here (get_or t i 0) (drop (i + 1) t)

    pub digits_on : (v : ℕ) → is_digit (get_or t i 0) ≡ true
        → continued v i (field_of (drop i t)) ≡ continued (v * 10 + (get_or t i 0 - 48)) (i + 1) (field_of (drop (i + 1) t))
    digits_on v d = ap (λ (l : List ℕ). continued v i (field_of l)) (drop_in t i h) ∙ step_digit v i (get_or t i 0) (drop (i + 1) t) d

    pub digits_stop : (v : ℕ) → is_digit (get_or t i 0) ≡ false → v ≤ 4294967295
        → continued v i (field_of (drop i t)) ≡ closed v i (field_of (drop i t))
    digits_stop v d small =
        ap (λ (l : List ℕ). continued v i (field_of l)) (drop_in t i h)
        ∙ (step_other v i (get_or t i 0) (drop (i + 1) t) d small ∙ ap (λ (l : List ℕ). closed v i (field_of l)) (sym (drop_in t i h)))

    plain_from : number_in i (field_of (drop i t)) ≡ number_in i (field_of (get_or t i 0 ∷ drop (i + 1) t))
    plain_from = ap (λ (l : List ℕ). number_in i (field_of l)) (drop_in t i h)

    pub plain_zero : is_digit (get_or t i 0) ≡ true → get_or t i 0 ≡ 48 → number_in i (field_of (drop i t)) ≡ closed 0 (i + 1) (field_of (drop (i + 1) t))
    plain_zero d e = plain_from ∙ begin_zero i (get_or t i 0) (drop (i + 1) t) d e

    pub plain_digit : is_digit (get_or t i 0) ≡ true → (get_or t i 0 ≡ 48 → ⊥)
        → number_in i (field_of (drop i t)) ≡ continued (get_or t i 0 - 48) (i + 1) (field_of (drop (i + 1) t))
    plain_digit d n = plain_from ∙ begin_digit i (get_or t i 0) (drop (i + 1) t) d n

    pub plain_other : is_digit (get_or t i 0) ≡ false → number_in i (field_of (drop i t)) ≡ not_plain
    plain_other d = plain_from ∙ begin_other i (get_or t i 0) (drop (i + 1) t) d

    number_by : (x : Bool) → is_comma (get_or t i 0) ≡ x
        → number_at t i ≡ elim x [ true ↦ number_in (i + 1) (field_of (drop (i + 1) t)) | false ↦ missing ]
    unfolding number_at
    number_by x e =
        ap (number_after i) (drop_in t i h)
        ∙ ap (λ (y : Bool). elim y [ true ↦ number_in (i + 1) (field_of (drop (i + 1) t)) | false ↦ missing ]) e

    pub number_in_lem : get_or t i 0 ≡ 44 → number_at t i ≡ number_in (i + 1) (field_of (drop (i + 1) t))
    unfolding is_comma
    number_in_lem e = number_by true (eq-eqb (get_or t i 0) 44 e)

    pub number_none : (get_or t i 0 ≡ 44 → ⊥) → number_at t i ≡ missing
    unfolding is_comma
    number_none n = number_by false (ne_eqb (get_or t i 0) 44 n)

    ending_by : (x : Bool) → is_feed (get_or t i 0) ≡ x → ending_at t i ≡ elim x [ true ↦ ended (i + 1) | false ↦ surplus ]
    unfolding ending_at
    ending_by x e = ap (ending_of i) (drop_in t i h) ∙ ap (λ (y : Bool). elim y [ true ↦ ended (i + 1) | false ↦ surplus ]) e

    pub ending_in : get_or t i 0 ≡ 10 → ending_at t i ≡ ended (i + 1)
    unfolding is_feed
    ending_in e = ending_by true (eq-eqb (get_or t i 0) 10 e)

    pub ending_none : (get_or t i 0 ≡ 10 → ⊥) → ending_at t i ≡ surplus
    unfolding is_feed
    ending_none n = ending_by false (ne_eqb (get_or t i 0) 10 n)

    letter_from : letter_at t i ≡ letter_of i (field_of (get_or t i 0 ∷ drop (i + 1) t))
    unfolding letter_at
    letter_from = ap (λ (l : List ℕ). letter_of i (field_of l)) (drop_in t i h)

    pub letter_none : ends_field (get_or t i 0) ≡ true → letter_at t i ≡ no_letter
    letter_none e = letter_from ∙ ap (letter_of i) (field_over (get_or t i 0) (drop (i + 1) t) e)

    module _ (e : ends_field (get_or t i 0) ≡ false) where
      letter_on : letter_at t i ≡ letter_of i (get_or t i 0 ∷ field_of (drop (i + 1) t))
      letter_on = letter_from ∙ ap (letter_of i) (field_on (get_or t i 0) (drop (i + 1) t) e)

      pub letter_one : is_over (field_of (drop (i + 1) t)) ≡ true → letter_at t i ≡ letter (get_or t i 0) (i + 1)
      letter_one o = letter_on ∙ letter_alone i (get_or t i 0) (field_of (drop (i + 1) t)) o

      pub letter_more : is_over (field_of (drop (i + 1) t)) ≡ false → letter_at t i ≡ no_letter
      letter_more o = letter_on ∙ letter_crowded i (get_or t i 0) (field_of (drop (i + 1) t)) o

-- By the byte after the first digit: none, or another one.
module _ (t : List ℕ) (i : ℕ) (h : i < length t) (further : i + 1 < length t) (d : is_digit (get_or t i 0) ≡ true) where
  pub plain_one : is_digit (get_or t (i + 1) 0) ≡ false → number_in i (field_of (drop i t)) ≡ closed (get_or t i 0 - 48) (i + 1) (field_of (drop (i + 1) t))
  plain_one e = go (digit_range (get_or t i 0) d) (dec_lt 48 (get_or t i 0))
    where
      go : (48 ≤ get_or t i 0) × (get_or t i 0 ≤ 57) → Dec (48 < get_or t i 0)
          → number_in i (field_of (drop i t)) ≡ closed (get_or t i 0 - 48) (i + 1) (field_of (drop (i + 1) t))
      go r (yes n) = plain_digit t i h d (λ z. omega arith) ∙ digits_stop t (i + 1) further (get_or t i 0 - 48) e (omega (arith, r.1))
      go r (no n) =
          let v : 0 ≡ get_or t i 0 - 48 = omega arith in
          plain_zero t i h d (omega (arith, r.0)) ∙ ap (λ (k : ℕ). closed k (i + 1) (field_of (drop (i + 1) t))) v

  pub plain_led : get_or t i 0 ≡ 48 → is_digit (get_or t (i + 1) 0) ≡ true → number_in i (field_of (drop i t)) ≡ not_plain
  plain_led z e =
      plain_zero t i h d z
      ∙ closed_on 0 (i + 1) (field_of (drop (i + 1) t)) (over_in t (i + 1) further ∙ digit_inside (get_or t (i + 1) 0) e)

  pub plain_two : (get_or t i 0 ≡ 48 → ⊥) → is_digit (get_or t (i + 1) 0) ≡ true
      → number_in i (field_of (drop i t)) ≡ continued ((get_or t i 0 - 48) * 10 + (get_or t (i + 1) 0 - 48)) (i + 2) (field_of (drop (i + 2) t))
  plain_two n e =
      let v = (get_or t i 0 - 48) * 10 + (get_or t (i + 1) 0 - 48) in
      let two : i + 1 + 1 ≡ i + 2 = omega arith in
      plain_digit t i h d n ∙ (digits_on t (i + 1) further (get_or t i 0 - 48) e ∙ ap (λ (k : ℕ). continued v k (field_of (drop k t))) two)
