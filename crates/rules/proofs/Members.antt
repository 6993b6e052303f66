-- The definitions of State in terms of membership: proposition p is one bit of one word, so each law is the law of that bit, at the
-- word that `tabulate` and `every` give there. Assumes nothing.
use mathlib.Core.Path.{◌≡◌, refl, sym, ap, ap₂, ◌∙◌}
use mathlib.Core.Logic.{◌↔◌}
use mathlib.Core.Bool.{Bool, true, false, ◌&&◌, ◌||◌, not}
use Prim.Native.Nat.{ℕ, ◌+◌, ◌*◌, ◌/◌, ◌%◌, ◌^◌, ◌≤◌, ◌<◌}
use native.Mathlib.Nat.{lt_of_le_of_lt}
use native.Mathlib.Decide.{ℕ_discrete, dec_lt}
use native.Mathlib.Omega.{arith}
use lib.Dec.{eqb}
use lib.Arith.{digits_div, digits_mod}
use lib.ListN.{length, get_or, get_or-eq_default, length-set}
use lib.Seq.{get_or-set_same, get_or-set_other}
use lib.Bits.{bit_and, bit_or, xor_lt, and_le_l}
use borrow.Author.Tests.{eq-eqb, ne_eqb, eqb-true}
use Rattle.rules.specs.State.{word_count, proposition_most, State, Action, word, bit, member, no_propositions, insert, without, applies_word, applies, next_word, next}
use Rattle.rules.proofs.Bits.{bit_and_lem, bit_or_lem, bit_without, bit_zero, bit_pow, no_bits}
use Rattle.rules.proofs.Tables.{length_tabulate, get_D_tabulate_zero, and_left, and_right, and_both, every_at, every_of}

-- ---- words past the end, and the number of a proposition

-- A state has a bit for each proposition that a model may have.
pub propositions_fit : proposition_most ≤ 64 * word_count
unfolding proposition_most word_count
propositions_fit = omega arith

-- Past its last word a set has no member.
pub member_past : (s : State) (p : ℕ) → length s ≤ p / 64 → member s p ≡ false
unfolding member
member_past s p h = ap (λ (w : ℕ). bit w (p % 64)) (get_or-eq_default s 0 h) ∙ bit_zero (p % 64)

-- Bit j of word i is proposition 64 * i + j.
pub member_at : (s : State) (i j : ℕ) → j < 64 → member s (i * 64 + j) ≡ bit (word s i) j
unfolding member
member_at s i j h = ap₂ (λ (x y : ℕ). bit (word s x) y) (digits_div i h) (digits_mod i h)

pub member_empty : (p : ℕ) → member no_propositions p ≡ false
unfolding member no_propositions
member_empty p = go (dec_lt (p / 64) word_count)
  where
    go : Dec (p / 64 < word_count) → member no_propositions p ≡ false
    go (yes h) = ap (λ (w : ℕ). bit w (p % 64)) (get_D_tabulate_zero word_count (λ i. 0) (p / 64) 0 h) ∙ bit_zero (p % 64)
    go (no h) = member_past no_propositions p (omega (arith, length_tabulate word_count 0 (λ i. 0)))

-- ---- the next state

or_swap : (x y : Bool) → (x || y) ≡ (y || x)
or_swap true true = refl
or_swap true false = refl
or_swap false true = refl
or_swap false false = refl

pub bit_next : (old added deleted i : ℕ) → bit (next_word old added deleted) i ≡ bit added i || (bit old i && not (bit deleted i))
unfolding next_word
bit_next old added deleted i =
    bit_or_lem (without old deleted) added i ∙ ap (λ (x : Bool). x || bit added i) (bit_without old deleted i)
    ∙ or_swap (bit old i && not (bit deleted i)) (bit added i)

-- Each word of the next state is that word of the old one, without the deleted, then with the added.
pub word_next : (s : State) (a : Action) (i : ℕ) → i < word_count
    → word (next s a) i ≡ next_word (word s i) (word a.added i) (word a.deleted i)
unfolding next
word_next s a i h = get_D_tabulate_zero word_count (λ i. next_word (word s i) (word a.added i) (word a.deleted i)) i 0 h

pub length_next : (s : State) (a : Action) → length (next s a) ≡ word_count
unfolding next
length_next s a = length_tabulate word_count 0 (λ i. next_word (word s i) (word a.added i) (word a.deleted i))

-- A proposition is in the next state exactly if it is added, or was true and is not deleted: below the words' end for any lists.
pub member_next_below : (s : State) (a : Action) (p : ℕ) → p < 64 * word_count
    → member (next s a) p ≡ member a.added p || (member s p && not (member a.deleted p))
unfolding member
member_next_below s a p h =
    ap (λ (w : ℕ). bit w (p % 64)) (word_next s a (p / 64) (omega arith))
    ∙ bit_next (word s (p / 64)) (word a.added (p / 64)) (word a.deleted (p / 64)) (p % 64)

-- The same for every proposition, where neither the state nor the added set has more words than a state has.
pub member_next : (s : State) (a : Action) (p : ℕ) → length s ≤ word_count → length a.added ≤ word_count
    → member (next s a) p ≡ member a.added p || (member s p && not (member a.deleted p))
member_next s a p hs ha = go (dec_lt p (64 * word_count))
  where
    go : Dec (p < 64 * word_count) → member (next s a) p ≡ member a.added p || (member s p && not (member a.deleted p))
    go (yes h) = member_next_below s a p h
    go (no h) =
        member_past (next s a) p (omega (arith, length_next s a))
        ∙ sym (ap₂ (λ (x y : Bool). x || (y && not (member a.deleted p))) (member_past a.added p (omega arith)) (member_past s p (omega arith)))

-- ---- one proposition more

pub length_insert : (s : State) (p : ℕ) → length (insert s p) ≡ length s
unfolding insert
length_insert s p = length-set s (p / 64) (bit_or (word s (p / 64)) (2 ^ (p % 64)))

-- q is in the set with p exactly if it is p, or was there.
pub member_insert : (s : State) (p q : ℕ) → p / 64 < length s → member (insert s p) q ≡ eqb q p || member s q
unfolding member insert
member_insert s p q h = go (ℕ_discrete (q / 64) (p / 64))
  where
    joined : ℕ
    joined = bit_or (word s (p / 64)) (2 ^ (p % 64))

    same : q / 64 ≡ p / 64 → Dec (q ≡ p) → eqb (p % 64) (q % 64) ≡ eqb q p
    same e (yes r) = eq-eqb (p % 64) (q % 64) (ap (λ (n : ℕ). n % 64) (sym r)) ∙ sym (eq-eqb q p r)
    same e (no r) = ne_eqb (p % 64) (q % 64) (λ d. r (omega arith)) ∙ sym (ne_eqb q p r)

    go : Dec (q / 64 ≡ p / 64) → member (insert s p) q ≡ eqb q p || member s q
    go (yes w) =
        ap (λ (n : ℕ). bit n (q % 64)) (ap (λ (n : ℕ). get_or (insert s p) n 0) w ∙ get_or-set_same s (p / 64) joined 0 h)
        ∙ bit_or_lem (word s (p / 64)) (2 ^ (p % 64)) (q % 64)
        ∙ or_swap (bit (word s (p / 64)) (q % 64)) (bit (2 ^ (p % 64)) (q % 64))
        ∙ ap₂ (λ (x y : Bool). x || y) (bit_pow (p % 64) (q % 64) ∙ same w (ℕ_discrete q p)) (ap (λ (n : ℕ). bit (word s n) (q % 64)) (sym w))
    go (no n) =
        ap (λ (m : ℕ). bit m (q % 64)) (get_or-set_other s (p / 64) (q / 64) joined 0 n)
        ∙ sym (ap (λ (b : Bool). b || member s q) (ne_eqb q p (λ r. n (ap (λ (m : ℕ). m / 64) r))))

-- ---- when an action applies

-- x without y is empty exactly if y holds where x does.
covered : (x y : Bool) → (x && not y) ≡ false → x ≡ true → y ≡ true
covered true true e q = refl
covered true false e q = sym e
covered false true e q = refl
covered false false e q = q

uncovered : (x y : Bool) → (x ≡ true → y ≡ true) → (x && not y) ≡ false
uncovered true true h = refl
uncovered true false h = sym (h refl)
uncovered false y h = refl

apart : (x y : Bool) → (x && y) ≡ false → x ≡ true → y ≡ false
apart true y e q = e
apart false true e q = sym q
apart false false e q = refl

unapart : (x y : Bool) → (x ≡ true → y ≡ false) → (x && y) ≡ false
unapart true y h = h refl
unapart false y h = refl

module _ (w needed forbidden : ℕ) where
  applies_bits : applies_word w needed forbidden ≡ true → (i : ℕ)
      → (bit needed i ≡ true → bit w i ≡ true) × (bit forbidden i ≡ true → bit w i ≡ false)
  unfolding applies_word
  applies_bits e i =
      let lacking : without needed w ≡ 0 = eqb-true (without needed w) 0 (and_left (eqb (without needed w) 0) (eqb (bit_and forbidden w) 0) e) in
      let common : bit_and forbidden w ≡ 0 = eqb-true (bit_and forbidden w) 0 (and_right (eqb (without needed w) 0) (eqb (bit_and forbidden w) 0) e) in (
        covered (bit needed i) (bit w i) (sym (bit_without needed w i) ∙ ap (λ (x : ℕ). bit x i) lacking ∙ bit_zero i),
        apart (bit forbidden i) (bit w i) (sym (bit_and_lem forbidden w i) ∙ ap (λ (x : ℕ). bit x i) common ∙ bit_zero i),
      )

  bits_apply : needed < 2 ^ 64 → forbidden < 2 ^ 64
      → ((i : ℕ) → i < 64 → (bit needed i ≡ true → bit w i ≡ true) × (bit forbidden i ≡ true → bit w i ≡ false))
      → applies_word w needed forbidden ≡ true
  unfolding applies_word without
  bits_apply hn hf all =
      and_both
      (eq-eqb (without needed w) 0 (no_bits 64 (without needed w) (xor_lt 64 needed (bit_and needed w) hn (lt_of_le_of_lt (and_le_l needed w) hn))
      (λ i h. bit_without needed w i ∙ uncovered (bit needed i) (bit w i) (all i h).0)))
      (eq-eqb (bit_and forbidden w) 0 (no_bits 64 (bit_and forbidden w) (lt_of_le_of_lt (and_le_l forbidden w) hf)
      (λ i h. bit_and_lem forbidden w i ∙ unapart (bit forbidden i) (bit w i) (all i h).1)))

-- Every needed proposition is in the state, and no forbidden one is.
abbrev pub Suits : State → Action → Type 0
Suits s a =
    (p : ℕ) → p < 64 * word_count → (member a.needed p ≡ true → member s p ≡ true) × (member a.forbidden p ≡ true → member s p ≡ false)

-- The words of a set have 64 bits: membership sees no others.
abbrev pub Words64 : State → Type 0
Words64 s = (i : ℕ) → i < word_count → word s i < 2 ^ 64

module _ (s : State) (a : Action) where
  abbrev part : ℕ → Bool
  part i = applies_word (word s i) (word a.needed i) (word a.forbidden i)

  pub applies_suits : applies s a ≡ true → Suits s a
  unfolding applies member
  applies_suits e p h =
      applies_bits (word s (p / 64)) (word a.needed (p / 64)) (word a.forbidden (p / 64))
      (every_at word_count 0 part e (p / 64) (omega arith) (omega arith)) (p % 64)

  pub suits_applies : Words64 a.needed → Words64 a.forbidden → Suits s a → applies s a ≡ true
  unfolding applies
  suits_applies wn wf all =
      every_of word_count 0 part (λ i l b.
      bits_apply (word s i) (word a.needed i) (word a.forbidden i) (wn i (omega arith)) (wf i (omega arith)) (λ j h.
      let m = all (i * 64 + j) (omega arith) in (
        λ e. sym (member_at s i j h) ∙ m.0 (member_at a.needed i j h ∙ e),
        λ e. sym (member_at s i j h) ∙ m.1 (member_at a.forbidden i j h ∙ e),
      )))

  pub applies_iff : Words64 a.needed → Words64 a.forbidden → (applies s a ≡ true) ↔ Suits s a
  applies_iff wn wf = (applies_suits, suits_applies wn wf)
