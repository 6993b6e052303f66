-- What a caller carries from test to test: it holds with no column built, one column more keeps it, and it gives the answer. Assumes nothing.
use mathlib.Core.Path.{◌≡◌, refl, sym, ap, ◌∙◌, subst}
use mathlib.Core.Bool.{Bool, true, false, ◌||◌, false≢true, and-true}
use mathlib.Core.List.{List}
use Prim.Native.Nat.{ℕ, ◌+◌, ◌-◌, ◌*◌, ◌/◌, ◌%◌, ◌≤◌, ◌<◌}
use native.Mathlib.Decide.{ℕ_discrete, dec_lt}
use native.Mathlib.Omega.{arith}
use lib.ListN.{length, replicate, length-replicate, get_or-replicate}
use borrow.Author.Tests.{eq-eqb, ne_eqb}
use Rattle.rules.specs.declared.Sign.{Sign}
use Rattle.rules.specs.State.{word_count, bit, member, insert, every}
use Rattle.rules.specs.Constraint.{Holds, holds_from}
use Rattle.rules.proofs.Bits.{bit_zero}
use Rattle.rules.proofs.Members.{member_past, length_insert, member_insert}
use Rattle.rules.proofs.Tables.{every_same, every_none}
use Rattle.rows.specs.Rows.{put_stretch, in_row}
use Rattle.rows.proofs.Written.{length_stretch, at_put, other_put, length_put}
use Rattle.columns.specs.Columns.{state_words, column_words, column_count, column_at, asked, Summed, Column, Columns, Blank}

-- A set of zeros has no member.
member_zeros : (n p : ℕ) → member (replicate n 0) p ≡ false
unfolding member
member_zeros n p = go (dec_lt (p / 64) n)
  where
    go : Dec (p / 64 < n) → member (replicate n 0) p ≡ false
    go (yes h) = ap (λ (w : ℕ). bit w (p % 64)) (get_or-replicate n (p / 64) 0 0 h) ∙ bit_zero (p % 64)
    go (no h) = member_past (replicate n 0) p (omega (arith, length-replicate {A = ℕ} n 0))

-- Zeros for a set of so many words, and for its columns, are what a caller may lend.
pub blank_zeros : (words : ℕ) → words ≤ word_count → Blank (replicate (64 * words * column_words) 0) (replicate words 0)
unfolding column_count
blank_zeros words h =
    let same : words ≡ length (replicate {A = ℕ} words 0) = sym (length-replicate {A = ℕ} words 0) in
    record {
      few = omega arith;
      room = length-replicate {A = ℕ} (64 * words * column_words) 0 ∙ ap (λ (m : ℕ). 64 * m * column_words) same;
      none = ap (λ (m : ℕ). replicate m 0) same;
    }

-- With no column built, whatever stands in the columns.
pub columns_none : (states : List ℕ) (n : ℕ) (columns built : List ℕ) → n ≤ 64 * state_words → word_count * n ≤ length states
    → Blank columns built → Columns states n columns built
columns_none states n columns built f t b =
    record {
      fits = f;
      there = t;
      few = b.few;
      room = b.room;
      right = λ p m. absurd (false≢true (sym (ap (λ (x : List ℕ). member x p) b.none ∙ member_zeros (length built) p) ∙ m));
    }

-- A column that has its place is whole.
pub long : (columns : List ℕ) (p : ℕ) → column_words * p + column_words ≤ length columns → length (column_at columns p) ≡ column_words
unfolding column_at
long columns p h = length_stretch column_words columns p h

-- Once inserted, a proposition that the set has a bit for is in it.
pub marked : (built : List ℕ) (p : ℕ) → p / 64 < length built → member (insert built p) p ≡ true
marked built p w = member_insert built p p w ∙ ap (λ (b : Bool). b || member built p) (eq-eqb p p refl)

module _ {states : List ℕ} {n : ℕ} {columns built : List ℕ} (k : Columns states n columns built) where
  -- A proposition that the set has a bit for has its place among the columns; so has one whose column is built.
  pub place : (p : ℕ) → p / 64 < length built → column_words * p + column_words ≤ length columns
  unfolding column_count column_words
  place p w = omega (arith, k.room)

  pub built_place : (p : ℕ) → member built p ≡ true → column_words * p + column_words ≤ length columns
  built_place p m = go (dec_lt (p / 64) (length built))
    where
      go : Dec (p / 64 < length built) → column_words * p + column_words ≤ length columns
      go (yes h) = place p h
      go (no h) = absurd (false≢true (sym (member_past built p (omega arith)) ∙ m))

  -- One column more.
  pub columns_more : (p : ℕ) (column : List ℕ) → p / 64 < length built → length column ≡ column_words → Column states p n column
      → Columns states n (put_stretch column_words columns p column) (insert built p)
  unfolding column_count column_at
  columns_more p column w size is =
      record {
        fits = k.fits;
        there = k.there;
        few = subst (λ (m : ℕ). m ≤ word_count) (sym same) k.few;
        room = length_put column_words columns p column room size ∙ k.room ∙ ap (λ (m : ℕ). 64 * m * column_words) (sym same);
        right = λ q m. go q m (ℕ_discrete q p);
      }
    where
      same : length (insert built p) ≡ length built
      same = length_insert built p

      room : column_words * p + column_words ≤ length columns
      room = place p w

      go : (q : ℕ) → member (insert built p) q ≡ true → Dec (q ≡ p) → Column states q n (column_at (put_stretch column_words columns p column) q)
      go q m (yes e) =
          subst (λ (x : ℕ). Column states x n (column_at (put_stretch column_words columns p column) x)) (sym e)
          (subst (Column states p n) (sym (at_put column_words columns p column room size)) is)
      go q m (no d) =
          let was : member built q ≡ true = ap (λ (x : Bool). x || member built q) (sym (ne_eqb q p d)) ∙ sym (member_insert built p q w) ∙ m in
          subst (Column states q n) (sym (other_put column_words columns p column room size q d)) (k.right q was)

  -- The answer from a column is that from the states.
  pub answer : (g : Sign) (p first past : ℕ) {r : Bool} → member built p ≡ true → past ≤ n
      → r ≡ every (past - first) first (asked g (column_at columns p)) → r ≡ holds_from (in_row states) g p first past
  unfolding holds_from
  answer g p first past m h e =
      e ∙ every_same (past - first) first (asked g (column_at columns p)) (λ l. in_row states g p l) (λ l a b. (k.right p m).at g l (omega arith))

  -- What sums up the column's words up to a state.
  pub summed_to : (p past : ℕ) → member built p ≡ true → past ≤ n → Summed (column_at columns p) past
  summed_to p past m h = λ g w b. (k.right p m).summed g w (omega arith)

-- No state, and one.
pub no_state : (holds : Holds) (g : Sign) (p first past : ℕ) → past ≤ first → true ≡ holds_from holds g p first past
unfolding holds_from
no_state holds g p first past h = sym (every_none (past - first) first (λ l. holds g p l) (omega arith))

pub one_state : (holds : Holds) (g : Sign) (p first past : ℕ) → past ≡ first + 1 → holds g p first ≡ holds_from holds g p first past
unfolding holds_from
one_state holds g p first past e =
    let one : 1 ≡ past - first = omega arith in
    sym (and-true (holds g p first)) ∙ ap (λ (m : ℕ). every m first (λ l. holds g p l)) one
