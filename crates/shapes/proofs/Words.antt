-- The words of a line at the places where they start and end: a word is followed by those after its end. Assumes nothing.
use mathlib.Core.Path.{◌≡◌, refl, sym, ap, ◌∙◌}
use mathlib.Core.Bool.{Bool, true, false, ◌&&◌, not}
use mathlib.Core.List.{List, [], ◌∷◌}
use Prim.Native.Nat.{ℕ, ◌+◌, ◌≤◌, ◌<◌}
use native.Mathlib.Decide.{dec_lt}
use native.Mathlib.Omega.{arith}
use lib.Dec.{eqb, ltb}
use lib.ListN.{length, get_or, drop}
use borrow.Author.Tests.{eqb-true, eqb-false, lt-ltb}
use Rattle.std.specs.Prelude.{Some}
use Rattle.rules.specs.Text.{is_feed, is_digit, digits_only, is_plain, feed_follows}
use Rattle.rules.specs.Faults.{onto, pieces}
use Rattle.rules.specs.Tokens.{line_of, is_space, words_of, is_name, same_bytes, id_of}
use Rattle.text.proofs.Scan.{and_left}
use Rattle.tokens.specs.Pieces.{ends_piece, piece_from, name_end}
use Rattle.tokens.proofs.Pieces.{ends_by}
use Rattle.tokens.proofs.Lines.{piece_end, end_feeds, end_stops, end_inside, line_last, line_more}
use Rattle.tokens.proofs.Words.{IsNumber, name_told, piece_slice}
use Rattle.shapes.specs.Shapes.{bytes, words_at, end_at, words_after, end_after, Numbered}

pub apart : {A : Type 0} → ◌≡◌ {A = ℕ} 0 1 → A
apart z = absurd (omega arith)

-- A test that is turned round.
pub is_not : (r : Bool) → not r ≡ true → r ≡ false
is_not true e = apart (cc)
is_not false e = refl

pub is_so : (r : Bool) → not r ≡ false → r ≡ true
is_so true e = refl
is_so false e = apart (cc)

-- A line feed follows the start of a text, if the place past the last one is not 0.
pub some_feed : (t : List ℕ) (past : ℕ) → ((p : ℕ) → feed_follows t p ≡ ltb p past) → (past ≡ 0 → ⊥) → feed_follows t 0 ≡ true
some_feed t past follows n = go (dec_lt 0 past)
  where
    go : Dec (0 < past) → feed_follows t 0 ≡ true
    go (yes h) = follows 0 ∙ lt-ltb 0 past h
    go (no h) = absurd (n (omega arith))

-- ---- A word, and what comes after it

module _ (t : List ℕ) (p e : ℕ) (f : feed_follows t p ≡ true) (here : e ≡ piece_end 32 t p) where
  no_feed : ◌≡◌ {A = ℕ} 32 10 → ⊥
  no_feed q = omega arith

  pub word_inside : e < length t
  word_inside = let h = end_inside 32 t p f in omega arith

  pub word_feeds : feed_follows t e ≡ true
  word_feeds = ap (feed_follows t) here ∙ end_feeds 32 t p f

  pub word_ends : ends_piece 32 (get_or t e 0) ≡ true
  word_ends = ap (λ (i : ℕ). ends_piece 32 (get_or t i 0)) here ∙ end_stops 32 t p f

  -- A space ends it: a further word starts past the space.
  pub word_more : get_or t e 0 ≡ 32
      → (words_at t p ≡ piece_from 32 t p ∷ words_at t (e + 1)) × (end_at t p ≡ end_at t (e + 1)) × (feed_follows t (e + 1) ≡ true)
  unfolding words_of is_space
  word_more q =
      let r = line_more 32 t p f no_feed (ap (λ (i : ℕ). get_or t i 0) (sym here) ∙ q) in (
        r.0 ∙ ap (λ (i : ℕ). piece_from 32 t p ∷ words_at t (i + 1)) (sym here),
        r.1 ∙ ap (λ (i : ℕ). end_at t (i + 1)) (sym here),
        ap (λ (i : ℕ). feed_follows t (i + 1)) here ∙ r.2,
      )

  -- The line feed ends it, if no space does: it is the last.
  pub word_last : (get_or t e 0 ≡ 32 → ⊥) → (words_at t p ≡ piece_from 32 t p ∷ []) × (end_at t p ≡ e) × (get_or t e 0 ≡ 10)
  unfolding words_of is_space
  word_last n =
      let q = ends_by 32 (get_or t e 0) word_ends n in
      let r = line_last 32 t p f no_feed (ap (λ (i : ℕ). get_or t i 0) (sym here) ∙ q) in
      (r.0, r.1 ∙ sym here, q)

  pub word_feed_or_space : (get_or t e 0 ≡ 10 → ⊥) → get_or t e 0 ≡ 32
  unfolding ends_piece is_feed
  word_feed_or_space n = go (eqb (get_or t e 0) 32) refl
    where
      go : (x : Bool) → eqb (get_or t e 0) 32 ≡ x → get_or t e 0 ≡ 32
      go true q = eqb-true (get_or t e 0) 32 q
      go false q = absurd (n (ends_by 32 (get_or t e 0) word_ends (eqb-false (get_or t e 0) 32 q)))

  -- Both at once.
  pub words_after_lem : (words_at t p ≡ piece_from 32 t p ∷ words_after t e) × (end_at t p ≡ end_after t e)
  unfolding words_after end_after
  words_after_lem = go (eqb (get_or t e 0) 32) refl
    where
      go : (x : Bool) → eqb (get_or t e 0) 32 ≡ x
          → (words_at t p ≡ piece_from 32 t p ∷ elim x [ true ↦ words_at t (e + 1) | false ↦ [] ]) × (end_at t p ≡ elim x [ true ↦ end_at t (e + 1) | false ↦ e ])
      go true q = let r = word_more (eqb-true (get_or t e 0) 32 q) in (r.0, r.1)
      go false q = let r = word_last (eqb-false (get_or t e 0) 32 q) in (r.0, r.1)

-- A line has a word at least.
abbrev pub SomeWord : List (List ℕ) → Type 0
SomeWord ws = (w : List ℕ) × (rest : List (List ℕ)) × (ws ≡ w ∷ rest)

onto_some : (b : ℕ) (ps : List (List ℕ)) → SomeWord (onto b ps)
onto_some b [] = (b ∷ [], [], refl)
onto_some b (p ∷ ps) = (b ∷ p, ps, refl)

pieces_some : (ends : ℕ → Bool) (l : List ℕ) → SomeWord (pieces ends l)
pieces_some ends [] = ([], [], refl)
pieces_some ends (b ∷ bs) = go (ends b)
  where
    go : (x : Bool) → SomeWord (elim x [ true ↦ [] ∷ pieces ends bs | false ↦ onto b (pieces ends bs) ])
    go true = ([], pieces ends bs, refl)
    go false = onto_some b (pieces ends bs)

pub words_some : (t : List ℕ) (p : ℕ) → SomeWord (words_at t p)
unfolding words_of
words_some t p = pieces_some is_space (line_of (drop p t))

-- ---- An id

pub numbered : (t : List ℕ) (at id next : ℕ) → feed_follows t at ≡ true → IsNumber at (piece_from 32 t at) id next → Numbered t at id next
unfolding id_of
numbered t at id next f n = record { feeds = f; plain = n.plain; worth = n.worth; ends = n.ends }

-- An id starts with a digit, and so it is no word that doesn't.
pub plain_apart : (w : List ℕ) (b : ℕ) (bs : List ℕ) → is_plain w ≡ true → is_digit b ≡ false → same_bytes w (b ∷ bs) ≡ false
unfolding is_plain
plain_apart [] b bs p d = refl
plain_apart (c ∷ cs) b bs p d = go (eqb c b) refl
  where
    first : (cs : List ℕ) → digits_only (c ∷ cs) ≡ true → is_digit c ≡ true
    first [] e = e
    first (x ∷ xs) e = and_left (is_digit c) _ e

    go : (x : Bool) → eqb c b ≡ x → (eqb c b && same_bytes cs bs) ≡ false
    go true e =
        let z : ◌≡◌ {A = Bool} true false = sym (first cs (and_left (digits_only (c ∷ cs)) _ p)) ∙ (ap is_digit (eqb-true c b e) ∙ d) in
        apart (cc)
    go false e = ap (λ (y : Bool). y && same_bytes cs bs) e

-- ---- A name

pub record NameAt (t : List ℕ) (from to : ℕ) : Type 0 where
  pub named : is_name (piece_from 32 t from) ≡ true
  pub ends : to ≡ piece_end 32 t from
  pub same : piece_from 32 t from ≡ bytes t from to
  pub order : from ≤ to
  pub inside : to < length t

pub name_here : (t : List ℕ) (from to : ℕ) → feed_follows t from ≡ true → Some to ≡ name_end from (piece_from 32 t from) → NameAt t from to
name_here t from to f e =
    let r = name_told from (piece_from 32 t from) e in
    record {
      named = r.0;
      ends = r.1;
      same = piece_slice 32 t from to r.1;
      order = omega (arith, r.1);
      inside = word_inside t from to f r.1;
    }
