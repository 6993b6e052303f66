-- Which words a step computes (02, Card 5): the number bit by bit, and that a quiet word is passed through. Assumes nothing.
use mathlib.Core.Path.{◌≡◌, refl, sym, ap, subst, ◌∙◌}
use mathlib.Core.Logic.{◌↔◌}
use mathlib.Core.Bool.{Bool, true, false, ◌&&◌, ◌||◌, not, and-true, and-false, or-false, false≢true}
use Prim.Native.Nat.{ℕ, zero, suc, ◌+◌, ◌≤◌, ◌<◌, ◌^◌}
use native.Mathlib.Nat.{not-suc-le-zero}
use native.Mathlib.Numerals.{add-one}
use native.Mathlib.Decide.{ℕ_discrete, dec_lt}
use native.Mathlib.Omega.{arith}
use lib.Dec.{eqb}
use lib.Bits.{bit_and, bit_or, bit_xor, and_zero_r, or_zero_r, xor_zero_r}
use borrow.Author.Tests.{eq-eqb, ne_eqb, eqb-true}
use Rattle.rules.specs.State.{word_count, State, Action, word, bit, without, applies, next_word, next, step, quiet, touched, with_bit, bits_below, computed_after, computed, Traced}
use Rattle.rules.proofs.Bits.{bit_or_lem, bit_zero, bit_pow}
use Rattle.rules.proofs.Tables.{and_left, and_right, and_both}
use Rattle.rules.proofs.Members.{word_next}

-- ---- The number, bit by bit

module _ (f : ℕ → Bool) where
  pub bits_set : (n : ℕ) → f n ≡ true → bits_below (n + 1) f ≡ bit_or (bits_below n f) (2 ^ n)
  bits_set n e = ap (λ (m : ℕ). bits_below m f) (add-one n) ∙ ap (with_bit (bits_below n f) n) e

  pub bits_unset : (n : ℕ) → f n ≡ false → bits_below (n + 1) f ≡ bits_below n f
  bits_unset n e = ap (λ (m : ℕ). bits_below m f) (add-one n) ∙ ap (with_bit (bits_below n f) n) e

  -- One bit more.
  bit_more : (n i : ℕ) (b : Bool) → bit (with_bit (bits_below n f) n b) i ≡ bit (bits_below n f) i || (b && eqb n i)
  bit_more n i true = bit_or_lem (bits_below n f) (2 ^ n) i ∙ ap (λ (x : Bool). bit (bits_below n f) i || x) (bit_pow n i)
  bit_more n i false = sym (or-false (bit (bits_below n f) i))

  bit_past : (n i : ℕ) → n ≤ i → bit (bits_below n f) i ≡ false
  bit_past zero i h = bit_zero i
  bit_past (suc n) i h =
      bit_more n i (f n) ∙ ap (λ (x : Bool). x || (f n && eqb n i)) (bit_past n i (omega arith))
      ∙ ap (λ (x : Bool). f n && x) (ne_eqb n i (λ e. omega arith)) ∙ and-false (f n)

  bit_below : (n i : ℕ) → i < n → bit (bits_below n f) i ≡ f i
  bit_below zero i h = absurd (not-suc-le-zero h)
  bit_below (suc n) i h = bit_more n i (f n) ∙ go (λ l. bit_below n i l) (ℕ_discrete n i)
    where
      go : (i < n → bit (bits_below n f) i ≡ f i) → Dec (n ≡ i) → (bit (bits_below n f) i || (f n && eqb n i)) ≡ f i
      go lower (yes e) =
          ap (λ (x : Bool). x || (f n && eqb n i)) (bit_past n i (omega arith)) ∙ ap (λ (x : Bool). f n && x) (eq-eqb n i e)
          ∙ and-true (f n) ∙ ap f e
      go lower (no e) =
          ap (λ (x : Bool). bit (bits_below n f) i || (f n && x)) (ne_eqb n i e)
          ∙ ap (λ (x : Bool). bit (bits_below n f) i || x) (and-false (f n)) ∙ or-false (bit (bits_below n f) i) ∙ lower (omega arith)

-- ---- A quiet word

both_zero : (added deleted : ℕ) → quiet added deleted ≡ true → (added ≡ 0) × (deleted ≡ 0)
unfolding quiet
both_zero added deleted e =
    (eqb-true added 0 (and_left (eqb added 0) (eqb deleted 0) e), eqb-true deleted 0 (and_right (eqb added 0) (eqb deleted 0) e))

zero_quiet : (added deleted : ℕ) → added ≡ 0 → deleted ≡ 0 → quiet added deleted ≡ true
unfolding quiet
zero_quiet added deleted a d = and_both (eq-eqb added 0 a) (eq-eqb deleted 0 d)

-- It is passed through.
pub quiet_next : (old added deleted : ℕ) → quiet added deleted ≡ true → next_word old added deleted ≡ old
unfolding next_word without
quiet_next old added deleted e =
    let zero' = both_zero added deleted e in
    (λ j. bit_or (bit_xor old (bit_and old (zero'.1 j))) (zero'.0 j))
    ∙ or_zero_r (bit_xor old (bit_and old 0)) ∙ ap (bit_xor old) (and_zero_r old) ∙ xor_zero_r old

-- ---- A step

-- A word is touched exactly if its added or deleted word is not zero.
module _ (a : Action) (w : ℕ) where
  abbrev Zero : Type 0
  Zero = (word a.added w ≡ 0) × (word a.deleted w ≡ 0)

  touched_not : touched a w ≡ true → Zero → ⊥
  unfolding touched
  touched_not e z = false≢true (ap not (sym (zero_quiet (word a.added w) (word a.deleted w) z.0 z.1)) ∙ e)

  not_touched : (Zero → ⊥) → touched a w ≡ true
  unfolding touched
  not_touched n = go (quiet (word a.added w) (word a.deleted w)) refl
    where
      go : (b : Bool) → quiet (word a.added w) (word a.deleted w) ≡ b → not (quiet (word a.added w) (word a.deleted w)) ≡ true
      go true e = absurd (n (both_zero (word a.added w) (word a.deleted w) e))
      go false e = ap not e

  untouched_quiet : touched a w ≡ false → quiet (word a.added w) (word a.deleted w) ≡ true
  unfolding touched
  untouched_quiet e = go (quiet (word a.added w) (word a.deleted w)) refl
    where
      go : (b : Bool) → quiet (word a.added w) (word a.deleted w) ≡ b → quiet (word a.added w) (word a.deleted w) ≡ true
      go true q = q
      go false q = absurd (false≢true (sym e ∙ ap not q))

module _ (s : State) (a : Action) where
  abbrev Sets : ℕ → Type 0
  Sets w = (applies s a ≡ true) × (w < word_count) × ((word a.added w ≡ 0) × (word a.deleted w ≡ 0) → ⊥)

  -- What is computed after a yes and after a no.
  computed_yes : applies s a ≡ true → computed s a ≡ bits_below word_count (touched a)
  unfolding computed
  computed_yes e = ap (λ (b : Bool). computed_after b a) e

  computed_no : applies s a ≡ false → computed s a ≡ 0
  unfolding computed
  computed_no e = ap (λ (b : Bool). computed_after b a) e

  step_with : Bool → Bool × State
  step_with b = elim b [ true ↦ (true, next s a) | false ↦ (false, s) ]

  says : (b : Bool) → (step_with b).0 ≡ b
  unfolding step_with
  says true = refl
  says false = refl

  -- A yes and a no go by whether the action applies.
  is_yes : true ≡ (step s a).0 → applies s a ≡ true
  unfolding step step_with
  is_yes e = sym (e ∙ says (applies s a))

  is_no : false ≡ (step s a).0 → applies s a ≡ false
  unfolding step step_with
  is_no e = sym (e ∙ says (applies s a))

  left_yes : applies s a ≡ true → (step s a).1 ≡ next s a
  unfolding step step_with
  left_yes e = ap (λ (b : Bool). (step_with b).1) e

  left_no : applies s a ≡ false → (step s a).1 ≡ s
  unfolding step step_with
  left_no e = ap (λ (b : Bool). (step_with b).1) e

  -- Bit w after a yes, and after a no.
  sets_bit : applies s a ≡ true → (w : ℕ) → bit (bits_below word_count (touched a)) w ≡ true → Sets w
  sets_bit y w e = go (dec_lt w word_count)
    where
      go : Dec (w < word_count) → Sets w
      go (yes h) = (y, h, touched_not a w (sym (bit_below (touched a) word_count w h) ∙ e))
      go (no h) = absurd (false≢true (sym (bit_past (touched a) word_count w (omega arith)) ∙ e))

  bit_sets : (w : ℕ) → Sets w → bit (bits_below word_count (touched a)) w ≡ true
  bit_sets w x = bit_below (touched a) word_count w x.1 ∙ not_touched a w x.2

  bits_yes : applies s a ≡ true → (w : ℕ) → (bit (computed s a) w ≡ true) ↔ Sets w
  bits_yes e w =
      let here = ap (λ (n : ℕ). bit n w) (computed_yes e) in
      (λ b. sets_bit e w (sym here ∙ b), λ x. here ∙ bit_sets w x)

  bits_no : applies s a ≡ false → (w : ℕ) → (bit (computed s a) w ≡ true) ↔ Sets w
  bits_no e w =
      let none : bit (computed s a) w ≡ false = ap (λ (n : ℕ). bit n w) (computed_no e) ∙ bit_zero w in
      (λ b. absurd (false≢true (sym none ∙ b)), λ x. absurd (false≢true (sym e ∙ x.0)))

  -- A word whose bit is not set is quiet.
  kept : applies s a ≡ true → (w : ℕ) → w < word_count → bit (computed s a) w ≡ false → word (next s a) w ≡ word s w
  kept e w h none =
      let unset : bit (bits_below word_count (touched a)) w ≡ false = ap (λ (n : ℕ). bit n w) (sym (computed_yes e)) ∙ none in
      word_next s a w h
      ∙ quiet_next (word s w) (word a.added w) (word a.deleted w) (untouched_quiet a w (sym (bit_below (touched a) word_count w h) ∙ unset))

  -- The number and the state that a step leaves are as the statements say: after a yes,
  pub traced_yes : (t : State) → (true, t) ≡ step s a → (n : ℕ) → n ≡ bits_below word_count (touched a) → Traced s a n t
  traced_yes t stepped n e =
      let y = is_yes (ap (λ (x : Bool × State). x.0) stepped) in
      let number : n ≡ computed s a = e ∙ sym (computed_yes y) in record {
        number = number;
        bits = λ w. subst (λ (m : ℕ). (bit m w ≡ true) ↔ Sets w) (sym number) (bits_yes y w);
        untouched = λ w h none. ap (λ (x : Bool × State). word x.1 w) stepped ∙ ap (λ (u : State). word u w) (left_yes y)
            ∙ kept y w h (ap (λ (m : ℕ). bit m w) (sym number) ∙ none);
      }

  -- and after a no.
  pub traced_no : (t : State) → (false, t) ≡ step s a → Traced s a 0 t
  traced_no t stepped =
      let e = is_no (ap (λ (x : Bool × State). x.0) stepped) in
      let number : 0 ≡ computed s a = sym (computed_no e) in record {
        number = number;
        bits = λ w. subst (λ (m : ℕ). (bit m w ≡ true) ↔ Sets w) (sym number) (bits_no e w);
        untouched = λ w h none. ap (λ (x : Bool × State). word x.1 w) stepped ∙ ap (λ (u : State). word u w) (left_no e);
      }
