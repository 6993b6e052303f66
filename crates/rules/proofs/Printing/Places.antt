-- A number at a place, both ways: the number that is read there stands there, as it is printed; and a number that stands there as it is
-- printed, before a byte that ends fields, is read. Assumes nothing.
use mathlib.Core.Path.{◌≡◌, refl, sym, ap, ap₂, ◌∙◌}
use mathlib.Core.Bool.{Bool, true, false, ◌&&◌, ◌||◌, not}
use mathlib.Core.List.{List, [], ◌∷◌, ◌++◌}
use Prim.Native.Nat.{ℕ, ◌+◌}
use Prim.Native.Char.{code}
use native.Mathlib.Omega.{arith}
use lib.Dec.{eqb}
use lib.ListN.{length, drop}
use lib.Seq.{drop-drop, drop-append_seam}
use borrow.Author.Tests.{eqb-true, ne_eqb}
use Rattle.rules.specs.Text.{is_feed, is_comma, is_digit, ends_field, field_of, all_digits, digits_only, value_of, is_plain, decimal, Number, number, not_plain, missing, number_in, number_after, number_at}
use Rattle.rules.proofs.Tables.{and_both}
use Rattle.rules.proofs.Judgement.Each.{both_true}
use Rattle.rules.proofs.Faults.Fields.{field_split, field_here, field_on, tail_at}
use Rattle.rules.proofs.Printing.Numbers.{Plain, digit_in, decimal_value, decimal_digits, decimal_plain, one_spelling}

-- ---- A number that is read stands there

-- The number v stands at a place, and next is the place after it.
abbrev pub Stands : List ℕ → ℕ → ℕ → ℕ → Type 0
Stands text place v next = drop place text ≡ code "," ∷ (decimal v ++ drop next text)

abbrev pub NumberStands : List ℕ → ℕ → Number → Type 0
NumberStands text place (number v next) = Stands text place v next
NumberStands text place not_plain = Unit {0}
NumberStands text place missing = Unit {0}

after_stands : (text : List ℕ) (place : ℕ) (bs : List ℕ) → drop place text ≡ bs → NumberStands text place (number_after place bs)
unfolding is_comma
after_stands text place [] e = tt
after_stands text place (b ∷ bs) e = go (is_comma b) refl
  where
    plain : b ≡ code "," → (p : Bool) → is_plain (field_of bs) ≡ p
        → NumberStands text place (elim p [ true ↦ number (value_of 0 (field_of bs)) (place + 1 + length (field_of bs)) | false ↦ not_plain ])
    plain c true p =
        let after : drop (length (field_of bs)) bs ≡ drop (place + 1 + length (field_of bs)) text =
        ap (drop (length (field_of bs))) (sym (tail_at text place b bs e)) ∙ drop-drop (length (field_of bs)) (place + 1) text in
        e ∙ ap₂ (λ (x : ℕ) (l : List ℕ). x ∷ l) c (field_split bs ∙ ap₂ (λ (x y : List ℕ). x ++ y) (one_spelling (field_of bs) p) after)
    plain c false p = tt

    go : (c : Bool) → is_comma b ≡ c → NumberStands text place (elim c [ true ↦ number_in (place + 1) (field_of bs) | false ↦ missing ])
    go true c = plain (eqb-true b (code ",") c) (is_plain (field_of bs)) refl
    go false c = tt

pub number_stands : (text : List ℕ) (place : ℕ) → NumberStands text place (number_at text place)
unfolding number_at
number_stands text place = after_stands text place (drop place text) refl

-- ---- The digits of a number are a field

-- What ends a field, or nothing, stands first.
abbrev pub Ends : List ℕ → Type 0
Ends [] = Unit {0}
Ends (b ∷ bs) = ends_field b ≡ true

pub field_none : (rest : List ℕ) → Ends rest → field_of rest ≡ []
field_none [] e = refl
field_none (b ∷ rest) e = field_here b rest e

digit_stays : (b : ℕ) → is_digit b ≡ true → ends_field b ≡ false
unfolding ends_field is_comma is_feed
digit_stays b d =
    let i = digit_in b d in
    ap₂ (λ (x y : Bool). x || y) (ne_eqb b (code ",") (λ e. omega (arith, i))) (ne_eqb b (code "\n") (λ e. omega (arith, i)))

field_is : (f rest : List ℕ) → all_digits f ≡ true → Ends rest → field_of (f ++ rest) ≡ f
field_is [] rest a e = field_none rest e
field_is (b ∷ f) rest a e =
    let p = both_true (is_digit b) (all_digits f) a in
    field_on b (f ++ rest) (digit_stays b p.0) ∙ ap (λ (l : List ℕ). b ∷ l) (field_is f rest p.1 e)

all_digits_lem : (f : List ℕ) → digits_only f ≡ true → all_digits f ≡ true
all_digits_lem [] e = refl
all_digits_lem (b ∷ []) e = and_both e refl
all_digits_lem (b ∷ c ∷ bs) e =
    let p = both_true (is_digit b) (not (eqb b (code "0")) && all_digits (c ∷ bs)) e in
    and_both p.0 (both_true (not (eqb b (code "0"))) (all_digits (c ∷ bs)) p.1).1

-- ---- A number that stands there is read

number_in_lem : (from v : ℕ) (f : List ℕ) → is_plain f ≡ true → value_of 0 f ≡ v → number_in from f ≡ number v (from + length f)
number_in_lem from v f p e =
    ap (λ (b : Bool). elim b [ true ↦ number (value_of 0 f) (from + length f) | false ↦ not_plain ]) p ∙ ap (λ (w : ℕ). number w (from + length f)) e

-- The number v is read, and this stands after it.
abbrev pub NumberGiven : List ℕ → ℕ → List ℕ → Number → Type 0
NumberGiven text v rest x = (next : ℕ) × (x ≡ number v next) × (drop next text ≡ rest)

pub number_given : (text : List ℕ) (place v : ℕ) (rest : List ℕ) → Plain v → Ends rest → drop place text ≡ code "," ∷ (decimal v ++ rest)
    → NumberGiven text v rest (number_at text place)
unfolding number_at is_comma
number_given text place v rest p s e =
    let f = decimal v in (
      place + 1 + length f,
      ap (number_after place) e ∙ ap (number_in (place + 1)) (field_is f rest (all_digits_lem f (decimal_digits v p)) s)
          ∙ number_in_lem (place + 1) v f (decimal_plain v p) (decimal_value v p),
      sym (drop-drop (length f) (place + 1) text) ∙ ap (drop (length f)) (tail_at text place (code ",") (f ++ rest) e) ∙ drop-append_seam f rest,
    )
