-- A line feed follows the places up to the last one and no other: from a place where one follows, one follows every place before it,
-- and so none follows past a place where none does. Assumes nothing.
use mathlib.Core.Path.{◌≡◌, refl, sym, ap, ◌∙◌}
use mathlib.Core.List.{List, [], ◌∷◌}
use mathlib.Core.Bool.{Bool, true, false}
use Prim.Native.Nat.{ℕ, zero, suc, ◌+◌, ◌-◌, ◌≤◌, ◌<◌}
use native.Mathlib.Decide.{dec_lt}
use native.Mathlib.Omega.{arith}
use lib.Dec.{ltb}
use lib.ListN.{length, get_or, drop}
use lib.Seq.{drop-drop}
use borrow.Author.Tests.{eqb-true, eq-eqb, ne_eqb, lt-ltb, le-ltb}
use Rattle.rules.specs.Text.{is_feed, is_comma, is_digit, ends_field, field_of, has_feed, feed_follows}
use Rattle.text.proofs.Scan.{digit_inside, field_over, field_on}
use Rattle.text.proofs.Places.{drop_in, drop_out}

-- A line feed ends a field.
feed_ends : (b : ℕ) → b ≡ 10 → ends_field b ≡ true
unfolding ends_field is_comma is_feed
feed_ends b e = rw (ne_eqb b 44 (λ q. omega arith), eq-eqb b 10 e)

module _ (t : List ℕ) (i : ℕ) where
  pub feed_out : length t ≤ i → feed_follows t i ≡ false
  unfolding feed_follows
  feed_out h = ap has_feed (drop_out t i h)

  module _ (h : i < length t) where
    feed_by : (x : Bool) → is_feed (get_or t i 0) ≡ x → feed_follows t i ≡ elim x [ true ↦ true | false ↦ has_feed (drop (i + 1) t) ]
    unfolding feed_follows
    feed_by x e = ap has_feed (drop_in t i h) ∙ ap (λ (y : Bool). elim y [ true ↦ true | false ↦ has_feed (drop (i + 1) t) ]) e

    pub feed_in : get_or t i 0 ≡ 10 → feed_follows t i ≡ true
    unfolding is_feed
    feed_in e = feed_by true (eq-eqb (get_or t i 0) 10 e)

    pub feed_next : (get_or t i 0 ≡ 10 → ⊥) → feed_follows t i ≡ feed_follows t (i + 1)
    unfolding is_feed feed_follows
    feed_next n = feed_by false (ne_eqb (get_or t i 0) 10 n)

-- Where a line feed follows, the text goes on; and it still follows past a byte that is none.
module _ (t : List ℕ) (i : ℕ) (f : feed_follows t i ≡ true) where
  pub feed_inside : i < length t
  feed_inside = go (dec_lt i (length t))
    where
      go : Dec (i < length t) → i < length t
      go (yes h) = h
      go (no h) = let out = feed_out t i (omega arith) in let z : ◌≡◌ {A = ℕ} 0 1 = cc in absurd (omega arith)

  pub feed_past : (get_or t i 0 ≡ 10 → ⊥) → feed_follows t (i + 1) ≡ true
  feed_past n = sym (feed_next t i feed_inside n) ∙ f

  pub feed_inner : ends_field (get_or t i 0) ≡ false → feed_follows t (i + 1) ≡ true
  feed_inner e = feed_past (λ q. let z : ◌≡◌ {A = Bool} true false = sym (feed_ends (get_or t i 0) q) ∙ e in let y : ◌≡◌ {A = ℕ} 0 1 = cc in omega arith)

  pub feed_digit : is_digit (get_or t i 0) ≡ true → feed_follows t (i + 1) ≡ true
  feed_digit d = feed_inner (digit_inside (get_or t i 0) d)

  pub feed_comma : get_or t i 0 ≡ 44 → feed_follows t (i + 1) ≡ true
  feed_comma e = feed_past (λ q. omega arith)

feed_more : (b : ℕ) (bs : List ℕ) → has_feed bs ≡ true → has_feed (b ∷ bs) ≡ true
feed_more b bs e = go (is_feed b)
  where
    go : (x : Bool) → ◌≡◌ {A = Bool} (elim x [ true ↦ true | false ↦ has_feed bs ]) true
    go true = refl
    go false = e

feed_whole : (l : List ℕ) (n : ℕ) → has_feed (drop n l) ≡ true → has_feed l ≡ true
feed_whole l zero e = e
feed_whole [] (suc n) e = e
feed_whole (b ∷ bs) (suc n) e = feed_more b bs (feed_whole bs n e)

module _ (t : List ℕ) (p q : ℕ) (h : p ≤ q) where
  pub feed_before : feed_follows t q ≡ true → feed_follows t p ≡ true
  unfolding feed_follows
  feed_before e =
      let same : p + (q - p) ≡ q = omega arith in
      feed_whole (drop p t) (q - p) (ap has_feed (drop-drop (q - p) p t ∙ ap (λ (n : ℕ). drop n t) same) ∙ e)

  pub feed_after : feed_follows t p ≡ false → feed_follows t q ≡ false
  feed_after e = go (feed_follows t q) refl
    where
      go : (x : Bool) → feed_follows t q ≡ x → feed_follows t q ≡ false
      go true f = let b = feed_before f in cc
      go false f = f

-- The place past the last line feed tells everywhere whether one follows.
pub feeds_before : (t : List ℕ) (r : ℕ) → (0 < r → feed_follows t (r - 1) ≡ true) → feed_follows t r ≡ false
    → (p : ℕ) → feed_follows t p ≡ ltb p r
feeds_before t r last none p = go (dec_lt p r)
  where
    go : Dec (p < r) → feed_follows t p ≡ ltb p r
    go (yes h) = feed_before t p (r - 1) (omega arith) (last (omega arith)) ∙ sym (lt-ltb p r h)
    go (no h) = feed_after t r p (omega arith) none ∙ sym (le-ltb p r (omega arith))

-- A field has no line feed, so that one follows still where it is over.
pub feed_field : (l : List ℕ) → has_feed l ≡ true → has_feed (drop (length (field_of l)) l) ≡ true
unfolding is_feed
feed_field [] e = e
feed_field (b ∷ bs) e = go (λ h. feed_field bs h) (ends_field b) refl
  where
    on : (x : Bool) → is_feed b ≡ x → ends_field b ≡ false → has_feed bs ≡ true
    on true f n = let z : ◌≡◌ {A = Bool} true false = sym (feed_ends b (eqb-true b 10 f)) ∙ n in let y : ◌≡◌ {A = ℕ} 0 1 = cc in absurd (omega arith)
    on false f n = sym (ap (λ (y : Bool). elim y as (λ z. Bool) [ true ↦ true | false ↦ has_feed bs ]) f) ∙ e

    go : (has_feed bs ≡ true → has_feed (drop (length (field_of bs)) bs) ≡ true) → (x : Bool) → ends_field b ≡ x
        → has_feed (drop (length (field_of (b ∷ bs))) (b ∷ bs)) ≡ true
    go rest true n = ap (λ (f : List ℕ). has_feed (drop (length f) (b ∷ bs))) (field_over b bs n) ∙ e
    go rest false n = ap (λ (f : List ℕ). has_feed (drop (length f) (b ∷ bs))) (field_on b bs n) ∙ rest (on (is_feed b) refl n)
