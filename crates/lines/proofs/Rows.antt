-- A whole line by the row of its letter: the shape of a byte tells the row's role and items. Assumes nothing.
use mathlib.Core.Path.{◌≡◌, refl, sym, ap, subst, ◌∙◌}
use mathlib.Core.Bool.{Bool, true, false, ◌||◌}
use mathlib.Core.List.{List, []}
use mathlib.Core.Option.{Option, none, some}
use Prim.Native.Nat.{ℕ, suc, ◌+◌, ◌/◌, ◌%◌, ◌≤◌, ◌<◌}
use native.Mathlib.Numerals.{add-one}
use native.Mathlib.Omega.{arith}
use borrow.Author.Tests.{eqb-true, eq-eqb, ne_eqb, le-ltb, lt-ltb}
use lib.Dec.{eqb, ltb}
use lib.ListN.{length, get_or, set}
use lib.Seq.{sets}
use Rattle.std.specs.Prelude.{Result, Ok, Err}
use Rattle.rules.specs.declared.Header.{Header}
use Rattle.rules.specs.Text.{is_feed, is_comma, ends_field, Letter, letter, no_letter, letter_at, feed_follows}
use Rattle.rules.specs.Table as T
use Rattle.rules.specs.Table.{Role, Item, Row, role_number, table, row_of, read_items, read_row, read_letter, read_line}
use Rattle.rules.specs.Fields.{items_fields, row_items}
use Rattle.text.proofs.Laws.{letter_byte}
use Rattle.lines.specs.declared.line.Line.{Line}
use Rattle.lines.specs.declared.line.LineError.{LineError}
use Rattle.lines.specs.declared.line.LineError.TheVariants.{Bad}
use Rattle.lines.specs.Shapes.{items_of, shape_row, row_shown}
use Rattle.lines.specs.Reading.{line_done, ItemsLeft, LineLeft}
use Rattle.lines.proofs.Within.{HasLetter, items_letter, row_fields}

role_some : (r : Role) → role_number r ≡ 0 → ⊥
unfolding role_number
role_some T.header e = omega arith
role_some T.initial e = omega arith
role_some T.action e = omega arith
role_some T.method e = omega arith
role_some T.constraint e = omega arith
role_some T.plan e = omega arith
role_some T.node e = omega arith

row_items_lem : (s : ℕ) (o : Option Row) → shape_row s ≡ row_shown o → row_items o ≡ items_of (s / 256)
unfolding shape_row row_shown
row_items_lem s none e = sym (ap (λ (x : ℕ × List Item). x.1) e)
row_items_lem s (some r) e = sym (ap (λ (x : ℕ × List Item). x.1) e)

-- A byte of a role ends no field.
pub role_inside : (due : Role) (s b : ℕ) → shape_row s ≡ row_shown (row_of b) → s % 256 ≡ role_number due → ends_field b ≡ false
unfolding shape_row row_shown row_of table ends_field is_comma is_feed
role_inside due s b e q = go (eqb b 44) refl (eqb b 10) refl
  where
    none_of : (k : ℕ) → b ≡ k → row_of k ≡ none → ⊥
    none_of k same r = role_some due (sym q ∙ ap (λ (x : ℕ × List Item). x.0) (e ∙ ap row_shown (ap row_of same ∙ r)))

    go : (x : Bool) → eqb b 44 ≡ x → (y : Bool) → eqb b 10 ≡ y → (x || y) ≡ false
    go true c y f = absurd (none_of 44 (eqb-true b 44 c) refl)
    go false c true f = absurd (none_of 10 (eqb-true b 10 f) refl)
    go false c false f = refl

-- The letter is stored, and then the fields of the items: the fields of the line.
items_line : (b from : ℕ) (is : List Item) (w : List ℕ) (y : T.LineRead) (r : Result Line LineError) (u : List ℕ) → row_items (row_of b) ≡ is → HasLetter b y
    → ItemsLeft is 1 (from + 1) (set w from b) y r u → LineLeft from w y r u
items_line b from is w (T.line l vs next) r u e q h =
    let f = row_fields b is l vs e q in
    let k : 1 + length (items_fields is vs) ≡ suc (length (items_fields is vs)) = omega arith in (
      h.0 ∙ ap (λ (m : ℕ). Ok (line_done m next)) (k ∙ sym (ap length f)),
      h.1 ∙ ap (λ (m : ℕ). sets (set w from b) m (items_fields is vs)) (add-one from) ∙ ap (λ (xs : List ℕ). sets w from xs) (sym f),
    )
items_line b from is w (T.LineRead.unreadable field) r u e q h = h
items_line b from is w (T.LineRead.outside field) r u e q h = h

module _ (text : List ℕ) (due : Role) (h : Header) (n : ℕ) where
  row_due : (l place s : ℕ) (o : Option Row) → shape_row s ≡ row_shown o → s % 256 ≡ role_number due
      → read_row text due h n l place o ≡ read_items text h n l (items_of (s / 256)) [] 2 place
  unfolding shape_row row_shown
  row_due l place s none e q = absurd (role_some due (sym q ∙ ap (λ (x : ℕ × List Item). x.0) e))
  row_due l place s (some r) e q =
      ap (λ (b : Bool). elim b as (λ x. T.LineRead) [ true ↦ read_items text h n l r.items [] 2 place | false ↦ T.LineRead.unreadable 1 ])
      (eq-eqb (role_number due) (role_number r.role) (sym q ∙ ap (λ (x : ℕ × List Item). x.0) e))
      ∙ ap (λ (is : List Item). read_items text h n l is [] 2 place) (sym (ap (λ (x : ℕ × List Item). x.1) e))

  row_other : (l place s : ℕ) (o : Option Row) → shape_row s ≡ row_shown o → (s % 256 ≡ role_number due → ⊥)
      → read_row text due h n l place o ≡ T.LineRead.unreadable 1
  unfolding shape_row row_shown
  row_other l place s none e q = refl
  row_other l place s (some r) e q =
      ap (λ (b : Bool). elim b as (λ x. T.LineRead) [ true ↦ read_items text h n l r.items [] 2 place | false ↦ T.LineRead.unreadable 1 ])
      (ne_eqb (role_number due) (role_number r.role) (λ same. q (ap (λ (x : ℕ × List Item). x.0) e ∙ sym same)))

  module _ (past place : ℕ) (feeds : (p : ℕ) → feed_follows text p ≡ ltb p past) where
    line_unended : past ≤ place → read_line text due h n place ≡ T.LineRead.unreadable 0
    unfolding read_line
    line_unended out =
        ap (λ (b : Bool). elim b as (λ x. T.LineRead) [ true ↦ read_letter text due h n (letter_at text place) | false ↦ T.LineRead.unreadable 0 ])
        (feeds place ∙ le-ltb place past out)

    line_ended : place < past → read_line text due h n place ≡ read_letter text due h n (letter_at text place)
    unfolding read_line
    line_ended within =
        ap (λ (b : Bool). elim b as (λ x. T.LineRead) [ true ↦ read_letter text due h n (letter_at text place) | false ↦ T.LineRead.unreadable 0 ])
        (feeds place ∙ lt-ltb place past within)

    line_unlettered : place < past → letter_at text place ≡ no_letter → read_line text due h n place ≡ T.LineRead.unreadable 1
    line_unlettered within e = line_ended within ∙ ap (read_letter text due h n) e

    line_due : (b next s : ℕ) → place < past → letter_at text place ≡ letter b next → shape_row s ≡ row_shown (row_of b) → s % 256 ≡ role_number due
        → read_line text due h n place ≡ read_items text h n b (items_of (s / 256)) [] 2 next
    line_due b next s within e q r = line_ended within ∙ ap (read_letter text due h n) e ∙ row_due b next s (row_of b) q r

    -- The byte there is of another role: whatever the rest of its field is.
    line_other : (s : ℕ) → place < past → shape_row s ≡ row_shown (row_of (get_or text place 0)) → (s % 256 ≡ role_number due → ⊥)
        → read_line text due h n place ≡ T.LineRead.unreadable 1
    line_other s within q r = line_ended within ∙ go (letter_at text place) refl
      where
        go : (x : Letter) → letter_at text place ≡ x → read_letter text due h n x ≡ T.LineRead.unreadable 1
        go (letter b next) e =
            let same : b ≡ get_or text place 0 = letter_byte text place e (feeds place ∙ lt-ltb place past within) in
            row_other b next s (row_of b) (q ∙ ap (λ (k : ℕ). row_shown (row_of k)) (sym same)) r
        go no_letter e = refl

    -- What the code leaves of the line, in each case.
    module _ (from : ℕ) (w : List ℕ) where
      pub unended_left : past ≤ place → (u : List ℕ) → LineLeft from w (read_line text due h n place) (Err (Bad 0)) u
      unended_left out u = subst (λ (y : T.LineRead). LineLeft from w y (Err (Bad 0)) u) (sym (line_unended out)) refl

      pub unlettered_left : place < past → letter_at text place ≡ no_letter → (u : List ℕ) → LineLeft from w (read_line text due h n place) (Err (Bad 1)) u
      unlettered_left within e u = subst (λ (y : T.LineRead). LineLeft from w y (Err (Bad 1)) u) (sym (line_unlettered within e)) refl

      pub other_left : (s : ℕ) → place < past → shape_row s ≡ row_shown (row_of (get_or text place 0)) → (s % 256 ≡ role_number due → ⊥)
          → (u : List ℕ) → LineLeft from w (read_line text due h n place) (Err (Bad 1)) u
      other_left s within q r u = subst (λ (y : T.LineRead). LineLeft from w y (Err (Bad 1)) u) (sym (line_other s within q r)) refl

      pub due_left : (b next s : ℕ) → place < past → letter_at text place ≡ letter b next → shape_row s ≡ row_shown (row_of b) → s % 256 ≡ role_number due
          → (r : Result Line LineError) (u : List ℕ)
          → ItemsLeft (items_of (s / 256)) 1 (from + 1) (set w from b) (read_items text h n b (items_of (s / 256)) [] 2 next) r u
          → LineLeft from w (read_line text due h n place) r u
      due_left b next s within e q k r u g =
          subst (λ (y : T.LineRead). LineLeft from w y r u) (sym (line_due b next s within e q k))
          (items_line b from (items_of (s / 256)) w (read_items text h n b (items_of (s / 256)) [] 2 next) r u (row_items_lem s (row_of b) q)
          (items_letter text h n b (items_of (s / 256)) [] 2 next) g)
