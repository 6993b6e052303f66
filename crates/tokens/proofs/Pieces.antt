-- A piece at a place of a text, by the byte there: it is over, or goes on past that byte. What is read of it byte by byte. Assumes nothing.
use mathlib.Core.Path.{◌≡◌, refl, sym, ap, ◌∙◌}
use mathlib.Core.Bool.{Bool, true, false, ◌&&◌, ◌||◌}
use mathlib.Core.List.{List, [], ◌∷◌}
use Prim.Native.Nat.{ℕ, zero, suc, ◌+◌, ◌-◌, ◌*◌, ◌≤◌, ◌<◌}
use native.Mathlib.Numerals.{add-one}
use native.Mathlib.Omega.{arith}
use lib.Dec.{eqb}
use lib.ListN.{length, get_or, take, drop, drop_of_length-le}
use lib.Seq.{drop-cons}
use lib.Pointwise.{pointwise}
use borrow.Author.Tests.{eq-eqb, ne_eqb, eqb-true, eqb-false}
use Rattle.rules.specs.Text.{is_feed, is_digit, number, not_plain, number_in, feed_follows}
use Rattle.rules.specs.Tokens.{in_name, all_in_name, is_name, same_bytes}
use Rattle.text.specs.Scan.{closed, continued}
use Rattle.text.proofs.Scan.{and_left, and_right, continued_over, continued_digit, continued_other, first_none, first_wrong_lem, first_zero, first_digit}
use Rattle.text.proofs.Places.{drop_in}
use Rattle.text.proofs.Feeds.{feed_inside, feed_past}
use Rattle.tokens.specs.Pieces.{ends_piece, up_to, piece_from, NoneEnds}

-- Two constructors are never equal: `cc` finds the 0 ≡ 1.
apart : {A : Type 0} → ◌≡◌ {A = ℕ} 0 1 → A
apart z = absurd (omega arith)

-- ---- Which bytes end a piece

-- A byte that passes a test, where neither the separator nor the line feed does, ends none.
stays : (test : ℕ → Bool) (separator b : ℕ) → test separator ≡ false → test 10 ≡ false → test b ≡ true → ends_piece separator b ≡ false
unfolding ends_piece is_feed
stays test separator b s f e =
    rw (
      ne_eqb b separator (λ q. let z : ◌≡◌ {A = Bool} true false = sym e ∙ (ap test q ∙ s) in apart (cc)),
      ne_eqb b 10 (λ q. let z : ◌≡◌ {A = Bool} true false = sym e ∙ (ap test q ∙ f) in apart (cc)),
    )

pub digit_stays : (separator b : ℕ) → is_digit separator ≡ false → is_digit b ≡ true → ends_piece separator b ≡ false
unfolding is_digit
digit_stays separator b s e = stays is_digit separator b s refl e

pub name_stays : (separator b : ℕ) → in_name separator ≡ false → in_name b ≡ true → ends_piece separator b ≡ false
unfolding in_name
name_stays separator b s e = stays in_name separator b s refl e

-- What ends no piece is no line feed.
pub inner_no_feed : (separator b : ℕ) → ends_piece separator b ≡ false → b ≡ 10 → ⊥
unfolding ends_piece is_feed
inner_no_feed separator b e q = go (eqb b separator) refl
  where
    go : (x : Bool) → eqb b separator ≡ x → ⊥
    go true s = let z : (true || eqb b 10) ≡ false = sym (ap (λ (y : Bool). y || eqb b 10) s) ∙ e in apart (cc)
    go false s =
        let z : (false || eqb b 10) ≡ false = sym (ap (λ (y : Bool). y || eqb b 10) s) ∙ e in
        let w : ◌≡◌ {A = Bool} true false = sym (eq-eqb b 10 q) ∙ z in
        apart (cc)

-- A separator that ends a piece is not its line feed.
pub ends_by : (separator b : ℕ) → ends_piece separator b ≡ true → (b ≡ separator → ⊥) → b ≡ 10
unfolding ends_piece is_feed
ends_by separator b e n = eqb-true b 10 (sym (ap (λ (y : Bool). y || eqb b 10) (ne_eqb b separator n)) ∙ e)

-- ---- The piece by the byte there

module _ (separator : ℕ) (t : List ℕ) (i : ℕ) (h : i < length t) where
  piece_by : (x : Bool) → ends_piece separator (get_or t i 0) ≡ x
      → piece_from separator t i ≡ elim x [ true ↦ [] | false ↦ get_or t i 0 ∷ piece_from separator t (i + 1) ]
  unfolding piece_from
  piece_by x e =
      ap (up_to (ends_piece separator)) (drop_in t i h)
      ∙ ap (λ (y : Bool). elim y [ true ↦ [] | false ↦ get_or t i 0 ∷ up_to (ends_piece separator) (drop (i + 1) t) ]) e

  pub piece_over : ends_piece separator (get_or t i 0) ≡ true → piece_from separator t i ≡ []
  piece_over e = piece_by true e

  pub piece_on : ends_piece separator (get_or t i 0) ≡ false → piece_from separator t i ≡ get_or t i 0 ∷ piece_from separator t (i + 1)
  piece_on e = piece_by false e

-- Past a byte that ends no piece a line feed follows still.
pub inner_feeds : (separator : ℕ) (t : List ℕ) (i : ℕ) → feed_follows t i ≡ true → ends_piece separator (get_or t i 0) ≡ false → feed_follows t (i + 1) ≡ true
inner_feeds separator t i f e = feed_past t i f (inner_no_feed separator (get_or t i 0) e)

-- ---- A number

module _ (separator : ℕ) (t : List ℕ) (i : ℕ) (f : feed_follows t i ≡ true) where
  pub closed_here : (v : ℕ) → ends_piece separator (get_or t i 0) ≡ true → closed v i (piece_from separator t i) ≡ number v i
  closed_here v e = ap (closed v i) (piece_over separator t i (feed_inside t i f) e)

  pub closed_not : (v : ℕ) → ends_piece separator (get_or t i 0) ≡ false → closed v i (piece_from separator t i) ≡ not_plain
  closed_not v e = ap (closed v i) (piece_on separator t i (feed_inside t i f) e)

  pub digits_on : (v : ℕ) → is_digit separator ≡ false → is_digit (get_or t i 0) ≡ true
      → continued v i (piece_from separator t i) ≡ continued (v * 10 + (get_or t i 0 - 48)) (i + 1) (piece_from separator t (i + 1))
  digits_on v s d =
      ap (continued v i) (piece_on separator t i (feed_inside t i f) (digit_stays separator (get_or t i 0) s d))
      ∙ continued_digit v i (get_or t i 0) (piece_from separator t (i + 1)) d

  pub digits_stop : (v : ℕ) → is_digit (get_or t i 0) ≡ false → v ≤ 4294967295
      → continued v i (piece_from separator t i) ≡ closed v i (piece_from separator t i)
  digits_stop v d small = go (ends_piece separator (get_or t i 0)) refl
    where
      go : (x : Bool) → ends_piece separator (get_or t i 0) ≡ x → continued v i (piece_from separator t i) ≡ closed v i (piece_from separator t i)
      go true e = rw (piece_over separator t i (feed_inside t i f) e) (continued_over v i small)
      go false e = rw (piece_on separator t i (feed_inside t i f) e) (continued_other v i (get_or t i 0) (piece_from separator t (i + 1)) d)

  -- The first byte: none, a zero, any other.
  pub number_empty : ends_piece separator (get_or t i 0) ≡ true → number_in i (piece_from separator t i) ≡ not_plain
  number_empty e = ap (number_in i) (piece_over separator t i (feed_inside t i f) e) ∙ first_none i

  pub number_zero : is_digit separator ≡ false → get_or t i 0 ≡ 48
      → number_in i (piece_from separator t i) ≡ closed 0 (i + 1) (piece_from separator t (i + 1))
  unfolding is_digit
  number_zero s z =
      let d : is_digit (get_or t i 0) ≡ true = ap is_digit z in
      ap (number_in i) (piece_on separator t i (feed_inside t i f) (digit_stays separator (get_or t i 0) s d))
      ∙ first_zero i (get_or t i 0) (piece_from separator t (i + 1)) d z

  pub number_more : ends_piece separator (get_or t i 0) ≡ false → (get_or t i 0 ≡ 48 → ⊥)
      → number_in i (piece_from separator t i) ≡ continued 0 i (piece_from separator t i)
  number_more e n = go (is_digit (get_or t i 0)) refl
    where
      on : piece_from separator t i ≡ get_or t i 0 ∷ piece_from separator t (i + 1)
      on = piece_on separator t i (feed_inside t i f) e

      go : (x : Bool) → is_digit (get_or t i 0) ≡ x → number_in i (piece_from separator t i) ≡ continued 0 i (piece_from separator t i)
      go true d =
          ap (number_in i) on
          ∙ (first_digit i (get_or t i 0) (piece_from separator t (i + 1)) d n
          ∙ sym (ap (continued 0 i) on ∙ continued_digit 0 i (get_or t i 0) (piece_from separator t (i + 1)) d))
      go false d =
          ap (number_in i) on
          ∙ (first_wrong_lem i (get_or t i 0) (piece_from separator t (i + 1)) d
          ∙ sym (ap (continued 0 i) on ∙ continued_other 0 i (get_or t i 0) (piece_from separator t (i + 1)) d))

-- ---- A name

module _ (separator : ℕ) (t : List ℕ) (i : ℕ) (f : feed_follows t i ≡ true) where
  -- Past a name's byte it is as before whether all bytes are a name's, and where the piece ends.
  pub name_on : in_name separator ≡ false → in_name (get_or t i 0) ≡ true
      → (all_in_name (piece_from separator t i) ≡ all_in_name (piece_from separator t (i + 1)))
      × (i + length (piece_from separator t i) ≡ i + 1 + length (piece_from separator t (i + 1)))
  name_on s e =
      let rest = piece_from separator t (i + 1) in
      let same : i + suc (length rest) ≡ i + 1 + length rest = omega arith in
      let on = piece_on separator t i (feed_inside t i f) (name_stays separator (get_or t i 0) s e) in
      (ap all_in_name on ∙ ap (λ (y : Bool). y && all_in_name rest) e, ap (λ (p : List ℕ). i + length p) on ∙ same)

  pub name_over : ends_piece separator (get_or t i 0) ≡ true → (all_in_name (piece_from separator t i) ≡ true) × (i + length (piece_from separator t i) ≡ i)
  name_over e =
      let over = piece_over separator t i (feed_inside t i f) e in
      (ap all_in_name over, ap (λ (p : List ℕ). i + length p) over ∙ omega arith)

  pub name_fails : ends_piece separator (get_or t i 0) ≡ false → in_name (get_or t i 0) ≡ false → all_in_name (piece_from separator t i) ≡ false
  name_fails e n =
      ap all_in_name (piece_on separator t i (feed_inside t i f) e) ∙ ap (λ (y : Bool). y && all_in_name (piece_from separator t (i + 1))) n

  -- A piece that starts with no name's byte, or with none.
  pub no_first : in_name (get_or t i 0) ≡ false → is_name (piece_from separator t i) ≡ false
  no_first n = go (ends_piece separator (get_or t i 0)) refl
    where
      go : (x : Bool) → ends_piece separator (get_or t i 0) ≡ x → is_name (piece_from separator t i) ≡ false
      go true e = ap is_name (piece_over separator t i (feed_inside t i f) e)
      go false e =
          ap is_name (piece_on separator t i (feed_inside t i f) e) ∙ ap (λ (y : Bool). y && all_in_name (piece_from separator t (i + 1))) n

-- Where a name that goes on from here would end; or `from`, if it is none.
abbrev pub name_goes : ℕ → ℕ → List ℕ → ℕ
name_goes from at piece = elim (all_in_name piece) [ true ↦ at + length piece | false ↦ from ]

module _ (separator : ℕ) (t : List ℕ) (from i : ℕ) (f : feed_follows t i ≡ true) where
  pub name_ends : ends_piece separator (get_or t i 0) ≡ true → name_goes from i (piece_from separator t i) ≡ i
  name_ends e = ap (name_goes from i) (piece_over separator t i (feed_inside t i f) e) ∙ omega arith

-- ---- A word

module _ (separator : ℕ) (t : List ℕ) (i : ℕ) (f : feed_follows t i ≡ true) where
  -- Against a word that goes on with w.
  pub word_on : (w : ℕ) (ws : List ℕ) → ends_piece separator w ≡ false → get_or t i 0 ≡ w
      → same_bytes (piece_from separator t i) (w ∷ ws) ≡ same_bytes (piece_from separator t (i + 1)) ws
  word_on w ws e q =
      ap (λ (p : List ℕ). same_bytes p (w ∷ ws)) (piece_on separator t i (feed_inside t i f) (ap (ends_piece separator) q ∙ e))
      ∙ ap (λ (y : Bool). y && same_bytes (piece_from separator t (i + 1)) ws) (eq-eqb (get_or t i 0) w q)

  pub word_off : (w : ℕ) (ws : List ℕ) → (get_or t i 0 ≡ w → ⊥) → same_bytes (piece_from separator t i) (w ∷ ws) ≡ false
  word_off w ws n = go (ends_piece separator (get_or t i 0)) refl
    where
      go : (x : Bool) → ends_piece separator (get_or t i 0) ≡ x → same_bytes (piece_from separator t i) (w ∷ ws) ≡ false
      go true e = ap (λ (p : List ℕ). same_bytes p (w ∷ ws)) (piece_over separator t i (feed_inside t i f) e)
      go false e =
          ap (λ (p : List ℕ). same_bytes p (w ∷ ws)) (piece_on separator t i (feed_inside t i f) e)
          ∙ ap (λ (y : Bool). y && same_bytes (piece_from separator t (i + 1)) ws) (ne_eqb (get_or t i 0) w n)

  -- Against a word that is over.
  pub word_over : same_bytes (piece_from separator t i) [] ≡ ends_piece separator (get_or t i 0)
  word_over = go (ends_piece separator (get_or t i 0)) refl
    where
      go : (x : Bool) → ends_piece separator (get_or t i 0) ≡ x → same_bytes (piece_from separator t i) [] ≡ x
      go true e = ap (λ (p : List ℕ). same_bytes p []) (piece_over separator t i (feed_inside t i f) e)
      go false e = ap (λ (p : List ℕ). same_bytes p []) (piece_on separator t i (feed_inside t i f) e)

-- A byte of a word that ends no piece, by its place.
none_at : (separator : ℕ) (word : List ℕ) (i : ℕ) → NoneEnds separator word → i < length word → ends_piece separator (get_or word i 0) ≡ false
none_at separator [] i n h = absurd (omega arith)
none_at separator (b ∷ bs) zero n h = n.0
none_at separator (b ∷ bs) (suc i) n h = none_at separator bs i n.1 (omega arith)

module _ (separator : ℕ) (t : List ℕ) (p : ℕ) (f : feed_follows t p ≡ true) (word : List ℕ) (i : ℕ) where
  ahead : i < length word → drop i word ≡ get_or word i 0 ∷ drop (i + 1) word
  ahead h = drop-cons word i 0 h ∙ ap (λ (n : ℕ). get_or word i 0 ∷ drop n word) (sym (add-one i))

  pub word_next : NoneEnds separator word → i < length word → get_or t p 0 ≡ get_or word i 0
      → same_bytes (piece_from separator t p) (drop i word) ≡ same_bytes (piece_from separator t (p + 1)) (drop (i + 1) word)
  word_next n h q =
      ap (same_bytes (piece_from separator t p)) (ahead h)
      ∙ word_on separator t p f (get_or word i 0) (drop (i + 1) word) (none_at separator word i n h) q

  pub word_feeds : NoneEnds separator word → i < length word → get_or t p 0 ≡ get_or word i 0 → feed_follows t (p + 1) ≡ true
  word_feeds n h q = inner_feeds separator t p f (ap (ends_piece separator) q ∙ none_at separator word i n h)

  pub word_stops : i < length word → (get_or t p 0 ≡ get_or word i 0 → ⊥) → same_bytes (piece_from separator t p) (drop i word) ≡ false
  word_stops h n = ap (same_bytes (piece_from separator t p)) (ahead h) ∙ word_off separator t p f (get_or word i 0) (drop (i + 1) word) n

  pub word_done : length word ≤ i → same_bytes (piece_from separator t p) (drop i word) ≡ ends_piece separator (get_or t p 0)
  word_done h = ap (same_bytes (piece_from separator t p)) (drop_of_length-le word h) ∙ word_over separator t p f

-- The bytes from the next place on are those of a word.
abbrev from_next : List ℕ → List ℕ → ℕ → Bool
from_next t ws p = pointwise eqb ws (take (length ws) (drop (p + 1) t))

first_byte : (t : List ℕ) (w : ℕ) (ws : List ℕ) (p : ℕ) → feed_follows t p ≡ true
    → pointwise eqb (w ∷ ws) (take (suc (length ws)) (drop p t)) ≡ (eqb w (get_or t p 0) && from_next t ws p)
first_byte t w ws p f = ap (λ (l : List ℕ). pointwise eqb (w ∷ ws) (take (suc (length ws)) l)) (drop_in t p (feed_inside t p f))

-- The text goes on with a word's bytes: a line feed follows still, and the piece is the word exactly if it ends there.
pub word_begins : (separator : ℕ) (t word : List ℕ) (p : ℕ) → NoneEnds separator word → feed_follows t p ≡ true
    → pointwise eqb word (take (length word) (drop p t)) ≡ true
    → (feed_follows t (p + length word) ≡ true) × (same_bytes (piece_from separator t p) word ≡ ends_piece separator (get_or t (p + length word) 0))
word_begins separator t [] p n f e =
    let here : p ≡ p + 0 = omega arith in
    (ap (feed_follows t) (sym here) ∙ f, word_over separator t p f ∙ ap (λ (i : ℕ). ends_piece separator (get_or t i 0)) here)
word_begins separator t (w ∷ ws) p n f e =
    let q = sym (first_byte t w ws p f) ∙ e in
    let same : get_or t p 0 ≡ w = sym (eqb-true w (get_or t p 0) (and_left (eqb w (get_or t p 0)) (from_next t ws p) q)) in
    let rest =
    word_begins separator t ws (p + 1) n.1 (inner_feeds separator t p f (ap (ends_piece separator) same ∙ n.0)) (and_right (eqb w (get_or t p 0)) (from_next t ws p) q) in
    let there : p + 1 + length ws ≡ p + suc (length ws) = omega arith in (
      ap (feed_follows t) (sym there) ∙ rest.0,
      word_on separator t p f w ws n.0 same ∙ (rest.1 ∙ ap (λ (i : ℕ). ends_piece separator (get_or t i 0)) there),
    )

-- It goes on with other bytes.
pub word_differs : (separator : ℕ) (t word : List ℕ) (p : ℕ) → NoneEnds separator word → feed_follows t p ≡ true
    → pointwise eqb word (take (length word) (drop p t)) ≡ false → same_bytes (piece_from separator t p) word ≡ false
word_differs separator t [] p n f e = apart (cc)
word_differs separator t (w ∷ ws) p n f e = go (word_differs separator t ws (p + 1) n.1) (eqb w (get_or t p 0)) refl
  where
    q : (eqb w (get_or t p 0) && from_next t ws p) ≡ false
    q = sym (first_byte t w ws p f) ∙ e

    go : (feed_follows t (p + 1) ≡ true → from_next t ws p ≡ false → same_bytes (piece_from separator t (p + 1)) ws ≡ false)
        → (x : Bool) → eqb w (get_or t p 0) ≡ x → same_bytes (piece_from separator t p) (w ∷ ws) ≡ false
    go on true s =
        let same : get_or t p 0 ≡ w = sym (eqb-true w (get_or t p 0) s) in
        word_on separator t p f w ws n.0 same
        ∙ on (inner_feeds separator t p f (ap (ends_piece separator) same ∙ n.0)) (sym (ap (λ (y : Bool). y && from_next t ws p) s) ∙ q)
    go on false s = word_off separator t p f w ws (λ z. eqb-false w (get_or t p 0) s (sym z))
