-- The line from a place by its pieces: the name that it lists for the number that is due, or that it lists none. Assumes nothing.
use mathlib.Core.Path.{◌≡◌, refl, sym, ap, ◌∙◌}
use mathlib.Core.Bool.{Bool, true, false, ◌&&◌}
use mathlib.Core.List.{List, [], ◌∷◌}
use mathlib.Core.Option.{Option, none, some}
use Prim.Native.Nat.{ℕ, ◌+◌, ◌≤◌, ◌<◌}
use native.Mathlib.Omega.{arith}
use borrow.Author.Tests.{eq-eqb, ne_eqb, eqb-true, eqb-false, le-ltb, lt-ltb}
use lib.Dec.{eqb, ltb}
use lib.ListN.{length, get_or, drop}
use Rattle.std.specs.Prelude.{None, Some}
use Rattle.rules.specs.Text.{is_comma, is_digit, is_plain, value_of, number_in, feed_follows}
use Rattle.rules.specs.Faults.{onto, pieces}
use Rattle.rules.specs.Tokens.{in_name, is_name, line_of}
use Rattle.rules.specs.Naming.{name_for}
use Rattle.tokens.specs.declared.Plain.{Plain}
use Rattle.tokens.specs.Pieces.{piece_from, as_plain, name_end}
use Rattle.tokens.proofs.Pieces.{ends_by}
use Rattle.tokens.proofs.Lines.{parts, piece_end, line_end, pieces_at, end_stops, end_inside, line_last, line_more}
use Rattle.tokens.proofs.Words.{number_told, other_told, name_told, no_name_told, piece_slice}
use Rattle.naming.specs.Lines.{name_if, name_due, Lists}

pub digit_comma : is_digit 44 ≡ false
unfolding is_digit
digit_comma = refl

pub name_comma : in_name 44 ≡ false
unfolding in_name is_comma
name_comma = refl

comma_feed : {A : Type 0} → ◌≡◌ {A = ℕ} 44 10 → A
comma_feed e = absurd (omega arith)

-- ---- Lists of pieces

abbrev name_by : Bool → List ℕ → Option (List ℕ)
name_by x name = elim x [ true ↦ some name | false ↦ none ]

-- What the number and the name of a line of two pieces must pass.
abbrev passes : ℕ → List ℕ → List ℕ → Bool
passes i number name = is_plain number && (eqb (value_of 0 number) i && is_name name)

-- No list that starts with another number has a name for number i, whatever follows.
wrong_number : (i : ℕ) (number : List ℕ) (rest : List (List ℕ)) → ((name : List ℕ) → passes i number name ≡ false) → name_for i (number ∷ rest) ≡ none
wrong_number i number [] h = refl
wrong_number i number (name ∷ []) h = ap (λ (x : Bool). name_by x name) (h name)
wrong_number i number (name ∷ other ∷ more) h = refl

-- Nor has one of more than two pieces.
too_many : (i : ℕ) (number name : List ℕ) (test : ℕ → Bool) (line : List ℕ) → name_for i (number ∷ name ∷ pieces test line) ≡ none
too_many i number name test [] = refl
too_many i number name test (b ∷ bs) = go (test b)
  where
    some_piece : (ps : List (List ℕ)) → name_for i (number ∷ name ∷ onto b ps) ≡ none
    some_piece [] = refl
    some_piece (p ∷ ps) = refl

    go : (x : Bool) → name_for i (number ∷ name ∷ elim x as (λ y. List (List ℕ)) [ true ↦ [] ∷ pieces test bs | false ↦ onto b (pieces test bs) ]) ≡ none
    go true = refl
    go false = some_piece (pieces test bs)

and_no : (x y : Bool) → y ≡ false → (x && y) ≡ false
and_no true y e = e
and_no false y e = refl

-- ---- The line from a place

-- No line feed follows: the line is missing.
pub no_line_lem : (t : List ℕ) (i p past : ℕ) → feed_follows t p ≡ ltb p past → past ≤ p → name_due t i p ≡ none
unfolding name_due
no_line_lem t i p past e h = ap (λ (x : Bool). name_if x i (line_of (drop p t))) (e ∙ le-ltb p past h)

pub line_feeds : (t : List ℕ) (p past : ℕ) → feed_follows t p ≡ ltb p past → p < past → feed_follows t p ≡ true
line_feeds t p past e h = e ∙ lt-ltb p past h

module _ (t : List ℕ) (i p : ℕ) (f : feed_follows t p ≡ true) where
  due_is : name_due t i p ≡ name_for i (pieces_at 44 t p)
  unfolding name_due is_comma
  due_is = ap (λ (x : Bool). name_if x i (line_of (drop p t))) f

  -- A first piece of another kind, whether a comma follows it or not.
  first_fails : ((name : List ℕ) → passes i (piece_from 44 t p) name ≡ false) → name_due t i p ≡ none
  first_fails h = go (eqb (get_or t (piece_end 44 t p) 0) 44) refl
    where
      go : (x : Bool) → eqb (get_or t (piece_end 44 t p) 0) 44 ≡ x → name_due t i p ≡ none
      go true e =
          due_is
          ∙ (ap (name_for i) (line_more 44 t p f comma_feed (eqb-true (get_or t (piece_end 44 t p) 0) 44 e)).0
          ∙ wrong_number i (piece_from 44 t p) (pieces_at 44 t (piece_end 44 t p + 1)) h)
      go false e =
          let feed = ends_by 44 (get_or t (piece_end 44 t p) 0) (end_stops 44 t p f) (eqb-false (get_or t (piece_end 44 t p) 0) 44 e) in
          due_is ∙ (ap (name_for i) (line_last 44 t p f comma_feed feed).0 ∙ wrong_number i (piece_from 44 t p) [] h)

  pub no_number : None ≡ as_plain (number_in p (piece_from 44 t p)) → name_due t i p ≡ none
  no_number e =
      first_fails
      (λ name. ap (λ (x : Bool). x && (eqb (value_of 0 (piece_from 44 t p)) i && is_name name)) (other_told p (piece_from 44 t p) e))

  module _ {number : Plain} (e : Some number ≡ as_plain (number_in p (piece_from 44 t p))) where
    ends : number.next ≡ piece_end 44 t p
    ends = (number_told p (piece_from 44 t p) e).ends

    pub next_inside : number.next < length t
    next_inside = omega (arith, ends, end_inside 44 t p f)

    pub another_number : (number.value ≡ i → ⊥) → name_due t i p ≡ none
    another_number n =
        first_fails
        (λ name. and_no (is_plain (piece_from 44 t p)) (eqb (value_of 0 (piece_from 44 t p)) i && is_name name)
        (ap (λ (x : Bool). x && is_name name) (ne_eqb (value_of 0 (piece_from 44 t p)) i (λ q. n ((number_told p (piece_from 44 t p) e).worth ∙ q)))))

    pub no_comma : (get_or t number.next 0 ≡ 44 → ⊥) → name_due t i p ≡ none
    no_comma n =
        let feed = ends_by 44 (get_or t (piece_end 44 t p) 0) (end_stops 44 t p f) (λ q. n (ap (λ (j : ℕ). get_or t j 0) ends ∙ q)) in
        due_is ∙ ap (name_for i) (line_last 44 t p f comma_feed feed).0

    module _ (same : number.value ≡ i) (comma : get_or t number.next 0 ≡ 44) where
      more : (pieces_at 44 t p ≡ piece_from 44 t p ∷ pieces_at 44 t (number.next + 1)) × (line_end t p ≡ line_end t (number.next + 1)) × (feed_follows t (number.next + 1) ≡ true)
      more =
          let q = line_more 44 t p f comma_feed (ap (λ (j : ℕ). get_or t j 0) (sym ends) ∙ comma) in (
            q.0 ∙ ap (λ (j : ℕ). piece_from 44 t p ∷ pieces_at 44 t (j + 1)) (sym ends),
            q.1 ∙ ap (λ (j : ℕ). line_end t (j + 1)) (sym ends),
            ap (λ (j : ℕ). feed_follows t (j + 1)) ends ∙ q.2,
          )

      pub name_feeds : feed_follows t (number.next + 1) ≡ true
      name_feeds = more.2

      -- The two pieces of a line that the name ends.
      two : get_or t (piece_end 44 t (number.next + 1)) 0 ≡ 10 → name_due t i p ≡ name_by (is_name (piece_from 44 t (number.next + 1))) (piece_from 44 t (number.next + 1))
      two feed =
          let told = number_told p (piece_from 44 t p) e in
          due_is
          ∙ (ap (name_for i) (more.0 ∙ ap (λ (ps : List (List ℕ)). piece_from 44 t p ∷ ps) (line_last 44 t (number.next + 1) name_feeds comma_feed feed).0)
          ∙ ap (λ (x : Bool). name_by x (piece_from 44 t (number.next + 1)))
          (ap (λ (x : Bool). x && (eqb (value_of 0 (piece_from 44 t p)) i && is_name (piece_from 44 t (number.next + 1)))) told.plain
          ∙ ap (λ (x : Bool). x && is_name (piece_from 44 t (number.next + 1))) (eq-eqb (value_of 0 (piece_from 44 t p)) i (sym told.worth ∙ same))))

      -- The name is followed by a comma: the line has a third piece.
      third : (get_or t (piece_end 44 t (number.next + 1)) 0 ≡ 10 → ⊥) → name_due t i p ≡ none
      third n = go (eqb (get_or t (piece_end 44 t (number.next + 1)) 0) 44) refl
        where
          go : (x : Bool) → eqb (get_or t (piece_end 44 t (number.next + 1)) 0) 44 ≡ x → name_due t i p ≡ none
          go true q =
              let rest = line_more 44 t (number.next + 1) name_feeds comma_feed (eqb-true (get_or t (piece_end 44 t (number.next + 1)) 0) 44 q) in
              due_is
              ∙ (ap (name_for i) (more.0 ∙ ap (λ (ps : List (List ℕ)). piece_from 44 t p ∷ ps) rest.0)
              ∙ too_many i (piece_from 44 t p) (piece_from 44 t (number.next + 1)) (parts 44) (line_of (drop (piece_end 44 t (number.next + 1) + 1) t)))
          go false q =
              absurd
              (n (ends_by 44 (get_or t (piece_end 44 t (number.next + 1)) 0) (end_stops 44 t (number.next + 1) name_feeds) (eqb-false (get_or t (piece_end 44 t (number.next + 1)) 0) 44 q)))

      pub no_name : None ≡ name_end (number.next + 1) (piece_from 44 t (number.next + 1)) → name_due t i p ≡ none
      no_name at = go (eqb (get_or t (piece_end 44 t (number.next + 1)) 0) 10) refl
        where
          go : (x : Bool) → eqb (get_or t (piece_end 44 t (number.next + 1)) 0) 10 ≡ x → name_due t i p ≡ none
          go true q =
              two (eqb-true (get_or t (piece_end 44 t (number.next + 1)) 0) 10 q)
              ∙ ap (λ (x : Bool). name_by x (piece_from 44 t (number.next + 1))) (no_name_told (number.next + 1) (piece_from 44 t (number.next + 1)) at)
          go false q = third (eqb-false (get_or t (piece_end 44 t (number.next + 1)) 0) 10 q)

      module _ (to : ℕ) (at : Some to ≡ name_end (number.next + 1) (piece_from 44 t (number.next + 1))) where
        told : (is_name (piece_from 44 t (number.next + 1)) ≡ true) × (to ≡ piece_end 44 t (number.next + 1))
        told = name_told (number.next + 1) (piece_from 44 t (number.next + 1)) at

        pub end_in : to < length t
        end_in = omega (arith, told.1, end_inside 44 t (number.next + 1) name_feeds)

        pub more_after : (get_or t to 0 ≡ 10 → ⊥) → name_due t i p ≡ none
        more_after n = third (λ q. n (ap (λ (j : ℕ). get_or t j 0) told.1 ∙ q))

        pub lists : get_or t to 0 ≡ 10 → Lists t i p (number.next + 1) to
        lists feed =
            let here = ap (λ (j : ℕ). get_or t j 0) (sym told.1) ∙ feed in
            record {
              name = two here
                  ∙ (ap (λ (x : Bool). name_by x (piece_from 44 t (number.next + 1))) told.0 ∙ ap some (piece_slice 44 t (number.next + 1) to told.1));
              ends = more.1 ∙ ((line_last 44 t (number.next + 1) name_feeds comma_feed here).1 ∙ sym told.1);
              order = omega (arith, told.1);
              inside = end_in;
            }
