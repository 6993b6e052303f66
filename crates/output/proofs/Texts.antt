-- The text of a line by its fields, number by number, and how long a text can be. Assumes nothing.
use mathlib.Core.Path.{◌≡◌, refl, sym, ap, ◌∙◌}
use mathlib.Core.List.{List, [], ◌∷◌, ◌++◌, append_assoc}
use Prim.Native.Nat.{ℕ, ◌+◌, ◌*◌, ◌≤◌, ◌<◌}
use native.Mathlib.Numerals.{add-one}
use native.Mathlib.Omega.{arith}
use lib.ListN.{length, get_or, take, drop, set, length-append, length-set}
use lib.Seq.{sets, slice, slice-cons, slice_empty, length-slice, length-take-le, take-add, take-append_seam, drop_at}
use Rattle.rules.specs.Text.{decimal}
use Rattle.rules.specs.Case.{Valued}
use Rattle.rules.specs.Fields.{line_fields, lines_fields}
use Rattle.rules.specs.Print.{numbers_text, line_text, lines_text}
use Rattle.fields.specs.Standing.{Stands}
use Rattle.fields.proofs.Standing.{stands_inside}
use Rattle.output.proofs.Decimals.{decimal_most, size_least}
use Rattle.output.proofs.Putting.{Putting, putting_starts, putting_as, putting_more, putting_one, putting_room, putting_ends}

-- What stands from a place on is the slice from there.
pub stands_slice : (fields : List ℕ) (at : ℕ) (xs : List ℕ) (end : ℕ) → Stands fields at xs → 0 < length xs → end ≡ at + length xs → slice at end fields ≡ xs
stands_slice fields at xs end s some e =
    let inside = stands_inside fields at xs s some in
    let own : take (length xs) (drop at fields) ≡ xs = ap (take (length xs)) s.here ∙ take-append_seam xs s.rest in
    ap (λ (n : ℕ). slice at n fields) e
    ∙ ap (drop at) (take-add at (length xs) fields ∙ ap (λ (l : List ℕ). take at fields ++ l) own)
    ∙ drop_at (take at fields) xs at (length-take-le at fields (omega arith))

-- What is to come of a line once the fields before i are put.
abbrev pub line_rest : List ℕ → ℕ → ℕ → List ℕ
line_rest fields end i = numbers_text (slice i end fields) ++ (10 ∷ [])

module _ (fields : List ℕ) (end : ℕ) (inside : end ≤ length fields) where
  slice_more : (i : ℕ) → i < end → slice i end fields ≡ get_or fields i 0 ∷ slice (i + 1) end fields
  slice_more i h = slice-cons i end fields 0 h inside ∙ ap (λ (n : ℕ). get_or fields i 0 ∷ slice n end fields) (sym (add-one i))

  -- The letter, the numbers, and the line feed.
  pub line_parts : (at : ℕ) → at < end → line_text (slice at end fields) ≡ get_or fields at 0 ∷ (numbers_text (slice (at + 1) end fields) ++ (10 ∷ []))
  unfolding line_text
  line_parts at h = ap line_text (slice_more at h)

  -- A comma, a number, and the others.
  pub number_parts : (i : ℕ) → i < end → numbers_text (slice i end fields) ≡ 44 ∷ (decimal (get_or fields i 0) ++ numbers_text (slice (i + 1) end fields))
  number_parts i h = ap numbers_text (slice_more i h)

  pub no_numbers : (i : ℕ) → i ≤ end → end ≤ i → numbers_text (slice i end fields) ≡ []
  no_numbers i low high = let e : i ≡ end = omega arith in ap (λ (n : ℕ). numbers_text (slice n end fields)) e ∙ ap numbers_text (slice_empty end fields)

-- ---- A line that is put

-- After the letter, which stands at place `to`: of the rest of the line what comes before field i is put, up to a place.
pub record Putting-line (fields : List ℕ) (at end to : ℕ) (before : List ℕ) (past : ℕ) (i : ℕ) (now : List ℕ) : Type 0 where
  pub inside : end ≤ length fields
  pub most : i ≤ end
  pub fits : to + 1 + length (line_rest fields end (at + 1)) ≤ length before
  pub put : Putting (line_rest fields end (at + 1)) (to + 1) before (line_rest fields end i) past now

module _ (fields : List ℕ) (at end to : ℕ) (before : List ℕ) (inside : end ≤ length fields) (some : at < end) where
  pub letter_room : to + length (line_text (slice at end fields)) ≤ length before → to + 1 ≤ length before
  letter_room fits = let e = ap length (line_parts fields end inside at some) in omega arith

  pub letter_put : to + length (line_text (slice at end fields)) ≤ length before
      → Putting-line fields at end to (set before to (get_or fields at 0)) (to + 1) (at + 1) (set before to (get_or fields at 0))
  letter_put fits =
      let e = ap length (line_parts fields end inside at some) in
      let z = length-set before to (get_or fields at 0) in
      record {
        inside = inside;
        most = omega arith;
        fits = omega arith;
        put = putting_starts (line_rest fields end (at + 1)) (to + 1) (set before to (get_or fields at 0));
      }

module _ {fields : List ℕ} {at end to : ℕ} {before : List ℕ} {past i : ℕ} {now : List ℕ} (p : Putting-line fields at end to before past i now) where
  abbrev all : List ℕ
  all = line_rest fields end (at + 1)

  abbrev number : List ℕ
  number = decimal (get_or fields i 0)

  -- There is room for the line feed, and the list is as long as it was.
  pub line_room : (past + 1 ≤ length now) × (length now ≡ length before)
  line_room =
      let r = putting_room all (to + 1) before (line_rest fields end i) past now p.put in
      let e = length-append (numbers_text (slice i end fields)) (10 ∷ []) in
      let f = p.fits in
      (omega arith, r.1)

  comma_due : i < end → Putting all (to + 1) before (44 ∷ (number ++ line_rest fields end (i + 1))) past now
  comma_due h =
      putting_as all (to + 1) before (line_rest fields end i) past now (44 ∷ (number ++ line_rest fields end (i + 1)))
      (ap (λ (l : List ℕ). l ++ (10 ∷ [])) (number_parts fields end p.inside i h)
      ∙ ap (λ (l : List ℕ). 44 ∷ l) (append_assoc number (numbers_text (slice (i + 1) end fields)) (10 ∷ []))) p.put

  -- There is room for a comma and the number.
  pub comma_room : i < end → past + 1 + length (decimal (get_or fields i 0)) ≤ length (set now past 44)
  comma_room h =
      let r = putting_room all (to + 1) before (44 ∷ (number ++ line_rest fields end (i + 1))) past now (comma_due h) in
      let e = length-append number (line_rest fields end (i + 1)) in
      let f = p.fits in
      let z = length-set now past 44 in
      omega arith

  pub number_put : i < end → (next : ℕ) (after : List ℕ)
      → (after ≡ sets (set now past 44) (past + 1) (decimal (get_or fields i 0))) × (next ≡ past + 1 + length (decimal (get_or fields i 0)))
      → Putting-line fields at end to before next (i + 1) after
  number_put h next after e =
      record {
        inside = p.inside;
        most = omega arith;
        fits = p.fits;
        put =
            putting_more all (to + 1) before number (line_rest fields end (i + 1)) (past + 1) (set now past 44) after next
            (putting_one all (to + 1) before 44 (number ++ line_rest fields end (i + 1)) past now (comma_due h)) e.0 e.1;
      }

  feed_put : end ≤ i → (set now past 10 ≡ sets before (to + 1) all) × (past + 1 ≡ to + 1 + length all)
  feed_put h =
      putting_ends all (to + 1) before [] (past + 1) (set now past 10)
      (putting_one all (to + 1) before 10 [] past now
      (putting_as all (to + 1) before (line_rest fields end i) past now (10 ∷ []) (ap (λ (l : List ℕ). l ++ (10 ∷ [])) (no_numbers fields end p.inside i p.most h)) p.put))
      refl

-- The line feed, and with it the whole line.
pub line_put : {fields : List ℕ} {at end to past i : ℕ} {now : List ℕ} (before : List ℕ)
    → Putting-line fields at end to (set before to (get_or fields at 0)) past i now → at < end → end ≤ i
    → (set now past 10 ≡ sets before to (line_text (slice at end fields))) × (past + 1 ≡ to + length (line_text (slice at end fields)))
line_put {fields} {at} {end} {to} before p some h =
    let e = line_parts fields end p.inside at some in
    let z = ap length e in
    let f = feed_put p h in
    let q = f.1 in (
      f.0 ∙ ap (λ (k : ℕ). sets (set before to (get_or fields at 0)) k (line_rest fields end (at + 1))) (add-one to) ∙ ap (sets before to) (sym e),
      omega arith,
    )

-- ---- How long a text can be

numbers_most : (ns : List ℕ) → length (numbers_text ns) ≤ 11 * length ns
numbers_most [] = omega arith
numbers_most (n ∷ ns) = let e = length-append (decimal n) (numbers_text ns) in let d = decimal_most n in let r = numbers_most ns in omega arith

pub line_most : (xs : List ℕ) → 0 < length xs → length (line_text xs) ≤ 12 * length xs
unfolding line_text
line_most [] h = absurd (omega arith)
line_most (l ∷ ns) h = let e = length-append (numbers_text ns) (10 ∷ []) in let r = numbers_most ns in omega arith

-- Twelve bytes for each field.
pub text_most_lem : (xs : List Valued) → length (lines_text xs) ≤ 12 * length (lines_fields xs)
unfolding line_fields
text_most_lem [] = omega arith
text_most_lem (x ∷ xs) =
    let a = length-append (line_text (line_fields x)) (lines_text xs) in
    let b = length-append (line_fields x) (lines_fields xs) in
    let l = line_most (line_fields x) (omega arith) in
    let r = text_most_lem xs in
    omega arith

-- Every field takes two bytes at least: a number its comma and a digit, the letter itself and the line feed.
numbers_least : (ns : List ℕ) → 2 * length ns ≤ length (numbers_text ns)
unfolding decimal
numbers_least [] = omega arith
numbers_least (n ∷ ns) =
    let some = size_least 9 n [] in
    omega (arith, numbers_least ns, length-append (decimal n) (numbers_text ns))

line_least : (ns : List ℕ) → 2 * length ns ≤ length (line_text ns)
unfolding line_text
line_least [] = omega arith
line_least (l ∷ ns) = omega (arith, numbers_least ns, length-append (numbers_text ns) (10 ∷ []))

pub text_least : (xs : List Valued) → 2 * length (lines_fields xs) ≤ length (lines_text xs)
text_least [] = omega arith
text_least (x ∷ xs) =
    omega (arith, line_least (line_fields x), text_least xs, length-append (line_fields x) (lines_fields xs), length-append (line_text (line_fields x)) (lines_text xs))

-- ---- A line that is measured

module _ (fields : List ℕ) (end : ℕ) (inside : end ≤ length fields) where
  pub line_size_lem : (at : ℕ) → at < end → 2 + length (numbers_text (slice (at + 1) end fields)) ≡ length (line_text (slice at end fields))
  line_size_lem at h =
      let e = ap length (line_parts fields end inside at h) in
      let m = length-append (numbers_text (slice (at + 1) end fields)) (10 ∷ []) in
      omega arith

  pub number_size : (i : ℕ) → i < end
      → length (numbers_text (slice i end fields)) ≡ 1 + length (decimal (get_or fields i 0)) + length (numbers_text (slice (i + 1) end fields))
  number_size i h =
      let e = ap length (number_parts fields end inside i h) in
      let m = length-append (decimal (get_or fields i 0)) (numbers_text (slice (i + 1) end fields)) in
      omega arith

  pub no_numbers_size : (i : ℕ) → i ≤ end → end ≤ i → length (numbers_text (slice i end fields)) ≡ 0
  no_numbers_size i low high = ap length (no_numbers fields end inside i low high)

  pub line_within : (at : ℕ) → at < end → length (line_text (slice at end fields)) ≤ 12 * end
  line_within at h = let e = length-slice at end fields inside in let m = line_most (slice at end fields) (omega arith) in omega arith
