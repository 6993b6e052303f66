-- What later crates go by: how a field's value and the place of the next are bounded, and the definitions' answers back from the
-- code's. Each follows from the definition by its tests; a field is never longer than the text that is left. Assumes nothing.
use mathlib.Core.Path.{◌≡◌, refl, sym, ap, subst, ◌∙◌}
use mathlib.Core.List.{List, [], ◌∷◌}
use mathlib.Core.Bool.{Bool, true, false}
use mathlib.Core.Logic.{◌⊎◌, inl, inr}
use Prim.Native.Nat.{ℕ, suc, ◌+◌, ◌≤◌, ◌<◌}
use native.Mathlib.Decide.{dec_lt}
use native.Mathlib.Omega.{arith}
use lib.Dec.{leb}
use lib.ListN.{length, get_or, drop, length-drop}
use lib.Seq.{get_or-drop, drop-drop}
use borrow.Author.Tests.{leb-true, eqb-true}
use Rattle.rules.specs.Text.{is_feed, is_comma, ends_field, field_of, digits_only, value_of, is_plain, Number as NumberRead, number, not_plain, missing, number_in, number_after, number_at, Letter as LetterRead, letter, no_letter, letter_of, letter_at, Ending, ended, surplus, ending_of, ending_at, has_feed, feed_follows}
use Rattle.std.specs.Prelude.{Option, Some, None, Result, Ok, Err}
use Rattle.text.specs.declared.Cursor.{Cursor}
use Rattle.text.specs.declared.Number.{Number}
use Rattle.text.specs.declared.FieldError.{FieldError}
use Rattle.text.specs.declared.FieldError.TheVariants.{NotPlain, Missing}
use Rattle.text.specs.declared.Letter.{Letter}
use Rattle.text.specs.Cursor.{as_field, as_letter, as_ending}
use Rattle.text.specs.Scan.{accepted}
use Rattle.text.proofs.Scan.{and_left, and_right, field_over, field_on, number_accepted}
use Rattle.text.proofs.Places.{drop_in, number_out, letter_out, letter_none, ending_out}
use Rattle.text.proofs.Feeds.{feed_inside, feed_inner, feed_comma, feed_field}

-- Two constructors are never equal: `cc` finds the 0 ≡ 1.
apart : {A : Type 0} → ◌≡◌ {A = ℕ} 0 1 → A
apart z = absurd (omega arith)

-- ---- a field, and the text from its start

field_length : (l : List ℕ) → length (field_of l) ≤ length l
field_length [] = omega arith
field_length (b ∷ bs) = go (field_length bs) (ends_field b) refl
  where
    go : length (field_of bs) ≤ length bs → (x : Bool) → ends_field b ≡ x → length (field_of (b ∷ bs)) ≤ suc (length bs)
    go h true e = rw (field_over b bs e) (omega arith)
    go h false e = rw (field_on b bs e) (omega arith)

-- A field is ended by a byte that ends fields, or by the text's end.
field_stops : (l : List ℕ) → (ends_field (get_or l (length (field_of l)) 0) ≡ true) ⊎ (length (field_of l) ≡ length l)
field_stops [] = inr refl
field_stops (b ∷ bs) = go (later (field_stops bs)) (ends_field b) refl
  where
    Stops : List ℕ → Type 0
    Stops f = (ends_field (get_or (b ∷ bs) (length f) 0) ≡ true) ⊎ (length f ≡ suc (length bs))

    later : (ends_field (get_or bs (length (field_of bs)) 0) ≡ true) ⊎ (length (field_of bs) ≡ length bs) → Stops (b ∷ field_of bs)
    later (inl e) = inl e
    later (inr e) = inr (ap suc e)

    go : Stops (b ∷ field_of bs) → (x : Bool) → ends_field b ≡ x → Stops (field_of (b ∷ bs))
    go on true e = subst Stops (sym (field_over b bs e)) (inl e)
    go on false e = subst Stops (sym (field_on b bs e)) on

-- ---- a number that was read

digits_some : (f : List ℕ) → digits_only f ≡ true → 0 < length f
digits_some [] e = apart (cc)
digits_some (b ∷ bs) e = omega arith

module _ (t : List ℕ) (p : ℕ) where
  -- The field that a number at p is read from.
  abbrev source : List ℕ
  source = field_of (drop (p + 1) t)

  abbrev Read : ℕ → ℕ → Type 0
  Read v n = (p < length t) × (is_plain source ≡ true) × (v ≡ value_of 0 source) × (n ≡ p + 1 + length source) × (is_comma (get_or t p 0) ≡ true)

  number_read : {v n : ℕ} → number_at t p ≡ number v n → Read v n
  unfolding number_at
  number_read {v} {n} e = go (dec_lt p (length t))
    where
      plain : (x : Bool) → p < length t → is_comma (get_or t p 0) ≡ true → is_plain source ≡ x → accepted x (value_of 0 source) (p + 1 + length source) ≡ number v n → Read v n
      plain true h k q r = (h, q, cc, cc, k)
      plain false h k q r = apart (cc)

      comma : (x : Bool) → is_comma (get_or t p 0) ≡ x → p < length t → ◌≡◌ {A = NumberRead} (elim x [ true ↦ number_in (p + 1) source | false ↦ missing ]) (number v n) → Read v n
      comma true k h r = plain (is_plain source) h k refl (sym (number_accepted (p + 1) source) ∙ r)
      comma false k h r = apart (cc)

      go : Dec (p < length t) → Read v n
      go (yes h) = comma (is_comma (get_or t p 0)) refl h (ap (number_after p) (sym (drop_in t p h)) ∙ e)
      go (no h) = let out = number_out t p (omega arith) in apart (cc)

  pub number_value : {v n : ℕ} → number_at t p ≡ number v n → v < 4294967296
  unfolding is_plain
  number_value e =
      let r = number_read e in
      let h = leb-true (value_of 0 source) 4294967295 (and_right (digits_only source) (leb (value_of 0 source) 4294967295) r.1) in
      omega (arith, r.2)

  -- A number takes its comma and one digit at least.
  pub number_next : {v n : ℕ} → number_at t p ≡ number v n → (p + 2 ≤ n) × (n ≤ length t)
  unfolding is_plain
  number_next e =
      let r = number_read e in
      let h = field_length (drop (p + 1) t) in
      let k = length-drop (p + 1) t in
      let d = digits_some source (and_left (digits_only source) (leb (value_of 0 source) 4294967295) r.1) in
      (omega arith, omega arith)

  -- It has no line feed, so that one follows still.
  pub number_feeds : {v n : ℕ} → number_at t p ≡ number v n → feed_follows t p ≡ true → feed_follows t n ≡ true
  unfolding feed_follows is_comma
  number_feeds e f =
      let r = number_read e in
      ap (λ (k : ℕ). has_feed (drop k t)) r.3
      ∙ (ap has_feed (sym (drop-drop (length source) (p + 1) t)) ∙ feed_field (drop (p + 1) t) (feed_comma t p f (eqb-true (get_or t p 0) 44 r.4)))

  -- The byte there is a comma or a line feed, or the text is over.
  pub number_stops : {v n : ℕ} → number_at t p ≡ number v n → (ends_field (get_or t n 0) ≡ true) ⊎ (n ≡ length t)
  number_stops {v} {n} e = go (number_read e) (field_stops (drop (p + 1) t))
    where
      go : Read v n → (ends_field (get_or (drop (p + 1) t) (length source) 0) ≡ true) ⊎ (length source ≡ length (drop (p + 1) t))
          → (ends_field (get_or t n 0) ≡ true) ⊎ (n ≡ length t)
      go r (inl s) = inl (ap (λ (k : ℕ). ends_field (get_or t k 0)) r.3 ∙ (ap ends_field (sym (get_or-drop (p + 1) t (length source) 0)) ∙ s))
      go r (inr s) = let k = length-drop (p + 1) t in inr (omega arith)

-- ---- a letter, and a line's end

module _ (t : List ℕ) (p : ℕ) where
  pub letter_next : {b n : ℕ} → letter_at t p ≡ letter b n → (n ≡ p + 1) × (n ≤ length t)
  unfolding letter_at
  letter_next {b} {n} e = go (dec_lt p (length t))
    where
      place : (f : List ℕ) → letter_of p f ≡ letter b n → n ≡ p + 1
      place [] r = apart (cc)
      place (x ∷ []) r = cc
      place (x ∷ y ∷ f) r = apart (cc)

      go : Dec (p < length t) → (n ≡ p + 1) × (n ≤ length t)
      go (yes h) = let q = place (field_of (drop p t)) e in (q, omega arith)
      go (no h) = let out = letter_out t p (omega arith) in apart (cc)

  -- It is the byte there.
  pub letter_byte : {b n : ℕ} → letter_at t p ≡ letter b n → feed_follows t p ≡ true → b ≡ get_or t p 0
  unfolding letter_at
  letter_byte {b} {n} e f = go (ends_field (get_or t p 0)) refl
    where
      only : (g : List ℕ) → letter_of p (get_or t p 0 ∷ g) ≡ letter b n → b ≡ get_or t p 0
      only [] r = cc
      only (x ∷ g) r = apart (cc)

      from : letter_at t p ≡ letter_of p (field_of (get_or t p 0 ∷ drop (p + 1) t))
      from = ap (λ (l : List ℕ). letter_of p (field_of l)) (drop_in t p (feed_inside t p f))

      go : (x : Bool) → ends_field (get_or t p 0) ≡ x → b ≡ get_or t p 0
      go true q = let out = letter_none t p (feed_inside t p f) q in apart (cc)
      go false q = only (field_of (drop (p + 1) t)) (ap (letter_of p) (sym (field_on (get_or t p 0) (drop (p + 1) t) q)) ∙ (sym from ∙ e))

  pub letter_feeds : {b n : ℕ} → letter_at t p ≡ letter b n → feed_follows t p ≡ true → feed_follows t n ≡ true
  letter_feeds {b} {n} e f = go (ends_field (get_or t p 0)) refl
    where
      go : (x : Bool) → ends_field (get_or t p 0) ≡ x → feed_follows t n ≡ true
      go true q = let out = letter_none t p (feed_inside t p f) q in apart (cc)
      go false q = let next = letter_next e in ap (feed_follows t) next.0 ∙ feed_inner t p f q

  pub ending_next : {n : ℕ} → ending_at t p ≡ ended n → (n ≡ p + 1) × (n ≤ length t)
  unfolding ending_at
  ending_next {n} e = go (dec_lt p (length t))
    where
      feed : (x : Bool) → ◌≡◌ {A = Ending} (elim x [ true ↦ ended (p + 1) | false ↦ surplus ]) (ended n) → n ≡ p + 1
      feed true r = cc
      feed false r = apart (cc)

      go : Dec (p < length t) → (n ≡ p + 1) × (n ≤ length t)
      go (yes h) = let q = feed (is_feed (get_or t p 0)) (ap (ending_of p) (sym (drop_in t p h)) ∙ e) in (q, omega arith)
      go (no h) = let out = ending_out t p (omega arith) in apart (cc)

-- ---- what the definitions answer, back from what the code does: `field_read` of an arm of a `match` says what `number_at` is

abbrev pub of_field : Result Number FieldError → NumberRead
of_field (Ok m) = number m.value m.next.at
of_field (Err NotPlain) = not_plain
of_field (Err Missing) = missing

abbrev pub of_letter : Option Letter → LetterRead
of_letter (Some l) = letter l.byte l.next.at
of_letter None = no_letter

abbrev pub of_ending : Option Cursor → Ending
of_ending (Some next) = ended next.at
of_ending None = surplus

pub field_read : {f : Result Number FieldError} (x : NumberRead) → f ≡ as_field x → x ≡ of_field f
field_read (number value next) e = sym (ap of_field e)
field_read not_plain e = sym (ap of_field e)
field_read missing e = sym (ap of_field e)

pub letter_read : {l : Option Letter} (x : LetterRead) → l ≡ as_letter x → x ≡ of_letter l
letter_read (letter byte next) e = sym (ap of_letter e)
letter_read no_letter e = sym (ap of_letter e)

pub ending_read : {r : Option Cursor} (x : Ending) → r ≡ as_ending x → x ≡ of_ending r
ending_read (ended next) e = sym (ap of_ending e)
ending_read surplus e = sym (ap of_ending e)
