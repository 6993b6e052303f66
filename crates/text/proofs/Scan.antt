-- A number that is read digit by digit is the number of the whole field: each step says how the field goes on from the byte there,
-- and once the value is past the limit no further digit makes it smaller. Assumes nothing.
use mathlib.Core.Path.{◌≡◌, refl, sym, ap, ap₂, ◌∙◌}
use mathlib.Core.List.{List, [], ◌∷◌}
use mathlib.Core.Bool.{Bool, true, false, ◌&&◌, and-false}
use Prim.Native.Nat.{ℕ, suc, ◌+◌, ◌-◌, ◌*◌, ◌≤◌, ◌<◌}
use native.Mathlib.Nat.{add-zero, le_trans}
use native.Mathlib.Omega.{arith}
use lib.Dec.{leb}
use lib.ListN.{length}
use borrow.Author.Tests.{eq-eqb, ne_eqb, le-leb, lt-leb, leb-true}
use Rattle.rules.specs.Text.{is_feed, is_comma, is_digit, ends_field, field_of, value_of, is_plain, Number, number, not_plain, number_in, letter, no_letter, letter_of}
use Rattle.text.specs.Scan.{is_over, closed, accepted, continued}

pub and_left : (a b : Bool) → (a && b) ≡ true → a ≡ true
and_left true b e = refl
and_left false b e = e

pub and_right : (a b : Bool) → (a && b) ≡ true → b ≡ true
and_right true b e = e
and_right false true e = refl
and_right false false e = e

pub digit_range : (b : ℕ) → is_digit b ≡ true → (48 ≤ b) × (b ≤ 57)
unfolding is_digit
digit_range b d = (leb-true 48 b (and_left (leb 48 b) (leb b 57) d), leb-true b 57 (and_right (leb 48 b) (leb b 57) d))

-- A digit ends no field.
pub digit_inside : (b : ℕ) → is_digit b ≡ true → ends_field b ≡ false
unfolding ends_field is_comma is_feed
digit_inside b d =
    let r = digit_range b d in
    rw (ne_eqb b 44 (λ e. omega arith), ne_eqb b 10 (λ e. omega arith))

-- ---- a field goes on, or is over, by the byte that stands there

module _ (b : ℕ) (bs : List ℕ) where
  pub field_over : ends_field b ≡ true → field_of (b ∷ bs) ≡ []
  field_over e = ap (λ (x : Bool). elim x [ true ↦ [] | false ↦ b ∷ field_of bs ]) e

  pub field_on : ends_field b ≡ false → field_of (b ∷ bs) ≡ b ∷ field_of bs
  field_on e = ap (λ (x : Bool). elim x [ true ↦ [] | false ↦ b ∷ field_of bs ]) e

  pub over_here : is_over (field_of (b ∷ bs)) ≡ ends_field b
  over_here = go (ends_field b) refl
    where
      go : (x : Bool) → ends_field b ≡ x → is_over (field_of (b ∷ bs)) ≡ x
      go true e = ap is_over (field_over e)
      go false e = ap is_over (field_on e)

pub closed_over : (v here : ℕ) (f : List ℕ) → is_over f ≡ true → closed v here f ≡ number v here
closed_over v here [] e = refl
closed_over v here (b ∷ f) e = let z : ◌≡◌ {A = ℕ} 0 1 = cc in absurd (omega arith)

pub closed_on : (v here : ℕ) (f : List ℕ) → is_over f ≡ false → closed v here f ≡ not_plain
closed_on v here [] e = let z : ◌≡◌ {A = ℕ} 0 1 = cc in absurd (omega arith)
closed_on v here (b ∷ f) e = refl

pub letter_alone : (place b : ℕ) (f : List ℕ) → is_over f ≡ true → letter_of place (b ∷ f) ≡ letter b (place + 1)
letter_alone place b [] e = refl
letter_alone place b (c ∷ f) e = let z : ◌≡◌ {A = ℕ} 0 1 = cc in absurd (omega arith)

pub letter_crowded : (place b : ℕ) (f : List ℕ) → is_over f ≡ false → letter_of place (b ∷ f) ≡ no_letter
letter_crowded place b [] e = let z : ◌≡◌ {A = ℕ} 0 1 = cc in absurd (omega arith)
letter_crowded place b (c ∷ f) e = refl

-- ---- digits that make v, and the bytes that follow

-- More digits make no smaller number.
value_grows : (f : List ℕ) (v : ℕ) → v ≤ value_of v f
value_grows [] v = omega arith
value_grows (b ∷ bs) v = le_trans {m = v * 10 + (b - 48)} (omega arith) (value_grows bs (v * 10 + (b - 48)))

pub continued_large : (v here : ℕ) (f : List ℕ) → 4294967295 < v → continued v here f ≡ not_plain
continued_large v here f h =
    let g = value_grows f v in
    rw (lt-leb (value_of v f) 4294967295 (omega arith), and-false)

pub continued_over : (v here : ℕ) → v ≤ 4294967295 → continued v here [] ≡ number v here
continued_over v here h = rw (le-leb v 4294967295 h, add-zero here)

pub continued_digit : (v here b : ℕ) (f : List ℕ) → is_digit b ≡ true → continued v here (b ∷ f) ≡ continued (v * 10 + (b - 48)) (here + 1) f
continued_digit v here b f d = let same : here + suc (length f) ≡ here + 1 + length f = omega arith in rw (d, same)

pub continued_other : (v here b : ℕ) (f : List ℕ) → is_digit b ≡ false → continued v here (b ∷ f) ≡ not_plain
continued_other v here b f d = rw d

module _ (v here b : ℕ) (bs : List ℕ) where
  pub step_digit : is_digit b ≡ true → continued v here (field_of (b ∷ bs)) ≡ continued (v * 10 + (b - 48)) (here + 1) (field_of bs)
  step_digit d = ap (continued v here) (field_on b bs (digit_inside b d)) ∙ continued_digit v here b (field_of bs) d

  -- A byte that is no digit ends the field, or the number is none.
  pub step_other : is_digit b ≡ false → v ≤ 4294967295 → continued v here (field_of (b ∷ bs)) ≡ closed v here (field_of (b ∷ bs))
  step_other d h = go (ends_field b) refl
    where
      go : (x : Bool) → ends_field b ≡ x → continued v here (field_of (b ∷ bs)) ≡ closed v here (field_of (b ∷ bs))
      go true e = rw (field_over b bs e) (continued_over v here h)
      go false e = rw (field_on b bs e) (continued_other v here b (field_of bs) d)

-- ---- the first byte of a number

pub number_accepted : (from : ℕ) (f : List ℕ) → number_in from f ≡ accepted (is_plain f) (value_of 0 f) (from + length f)
number_accepted from f = go (is_plain f)
  where
    go : (x : Bool) → ◌≡◌ {A = Number} (elim x [ true ↦ number (value_of 0 f) (from + length f) | false ↦ not_plain ]) (accepted x (value_of 0 f) (from + length f))
    go true = refl
    go false = refl

pub first_none : (from : ℕ) → number_in from [] ≡ not_plain
unfolding is_plain
first_none from = refl

module _ (from b : ℕ) where
  pub first_wrong_lem : (f : List ℕ) → is_digit b ≡ false → number_in from (b ∷ f) ≡ not_plain
  unfolding is_plain
  first_wrong_lem [] d = number_accepted from (b ∷ []) ∙ rw d
  first_wrong_lem (c ∷ f) d = number_accepted from (b ∷ c ∷ f) ∙ rw d

  pub first_zero : (f : List ℕ) → is_digit b ≡ true → b ≡ 48 → number_in from (b ∷ f) ≡ closed 0 (from + 1) f
  unfolding is_plain
  first_zero [] d e = number_accepted from (b ∷ []) ∙ rw (d, e)
  first_zero (c ∷ f) d e = number_accepted from (b ∷ c ∷ f) ∙ rw (d, eq-eqb b 48 e)

  pub first_digit : (f : List ℕ) → is_digit b ≡ true → (b ≡ 48 → ⊥) → number_in from (b ∷ f) ≡ continued (0 * 10 + (b - 48)) (from + 1) f
  unfolding is_plain
  first_digit [] d n =
      number_accepted from (b ∷ [])
      ∙ ap₂ (λ (x : Bool) (m : ℕ). accepted (x && leb (0 * 10 + (b - 48)) 4294967295) (0 * 10 + (b - 48)) m) d (sym (add-zero (from + 1)))
  first_digit (c ∷ f) d n =
      let same : from + suc (length (c ∷ f)) ≡ from + 1 + length (c ∷ f) = omega arith in
      number_accepted from (b ∷ c ∷ f) ∙ rw (d, ne_eqb b 48 n, same)

  module _ (bs : List ℕ) where
    pub begin_zero : is_digit b ≡ true → b ≡ 48 → number_in from (field_of (b ∷ bs)) ≡ closed 0 (from + 1) (field_of bs)
    begin_zero d e = ap (number_in from) (field_on b bs (digit_inside b d)) ∙ first_zero (field_of bs) d e

    pub begin_digit : is_digit b ≡ true → (b ≡ 48 → ⊥) → number_in from (field_of (b ∷ bs)) ≡ continued (b - 48) (from + 1) (field_of bs)
    begin_digit d n =
        let value : 0 * 10 + (b - 48) ≡ b - 48 = omega arith in
        ap (number_in from) (field_on b bs (digit_inside b d))
        ∙ (first_digit (field_of bs) d n ∙ ap (λ (v : ℕ). continued v (from + 1) (field_of bs)) value)

    pub begin_other : is_digit b ≡ false → number_in from (field_of (b ∷ bs)) ≡ not_plain
    begin_other d = go (ends_field b) refl
      where
        go : (x : Bool) → ends_field b ≡ x → number_in from (field_of (b ∷ bs)) ≡ not_plain
        go true e = ap (number_in from) (field_over b bs e) ∙ first_none from
        go false e = ap (number_in from) (field_on b bs e) ∙ first_wrong_lem (field_of bs) d
