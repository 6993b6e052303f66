-- A line up to the root line, by its words: what `front_of` makes of them, and what reading the line then gives. Assumes nothing.
use mathlib.Core.Path.{◌≡◌, refl, sym, ap, ap₂, ◌∙◌}
use mathlib.Core.Bool.{Bool, true, false, ◌&&◌}
use mathlib.Core.List.{List, [], ◌∷◌}
use mathlib.Core.Option.{Option, none, some}
use Prim.Native.Nat.{ℕ, suc, ◌+◌, ◌≤◌, ◌<◌}
use native.Mathlib.Omega.{arith}
use lib.ListN.{length, get_or, drop}
use Rattle.std.specs.Prelude.{Some, None}
use Rattle.rules.specs.declared.Answer.TheVariants.{WrongShape}
use Rattle.rules.specs.Text.{is_digit, is_plain, feed_follows}
use Rattle.rules.specs.Result.{found, refused, ◌>>=◌}
use Rattle.rules.specs.Case.{Read}
use Rattle.rules.specs.Tokens.{line_of, due_line, shaped, words_of, is_name, same_bytes, id_of}
use Rattle.rules.specs.Form.{root_word, Front, an_action, the_root, front_of, front_line}
use Rattle.tokens.specs.Pieces.{piece_from, name_end}
use Rattle.tokens.proofs.Lines.{piece_end}
use Rattle.tokens.proofs.Words.{no_name_told, IsNumber}
use Rattle.shapes.specs.declared.Front.TheVariants.{Action, Root}
use Rattle.shapes.specs.Shapes.{bytes, words_at, end_at, words_after, Numbered, FrontIs}
use Rattle.rules.proofs.Import.Says.{same_bytes_lem}
use Rattle.shapes.proofs.Words.{apart, word_inside, word_more, word_last, word_feed_or_space, words_after_lem, words_some, plain_apart, NameAt, name_here}

-- ---- By the words

abbrev tried : Bool → Bool → List ℕ → List ℕ → Option Front
tried x y w v = elim x [ true ↦ some (the_root (id_of v)) | false ↦ elim y [ true ↦ some (an_action (id_of w) v) | false ↦ none ] ]

pair_is : (w v : List ℕ) (x y : Bool) → (same_bytes w root_word && is_plain v) ≡ x → (is_plain w && is_name v) ≡ y → front_of (w ∷ v ∷ []) ≡ tried x y w v
pair_is w v x y e f = ap₂ (λ (p q : Bool). tried p q w v) e f

pub both_false : (a b : Bool) → b ≡ false → (a && b) ≡ false
both_false true b e = e
both_false false b e = refl

pub both_true : (a b : Bool) → a ≡ true → b ≡ true → (a && b) ≡ true
both_true true b e f = f
both_true false b e f = e

pub first_false : (a b : Bool) → a ≡ false → (a && b) ≡ false
first_false true b e = apart (cc)
first_false false b e = refl

-- An id is no `root`.
no_root : (w : List ℕ) → is_plain w ≡ true → same_bytes w root_word ≡ false
unfolding root_word is_digit
no_root w p = plain_apart w 114 (111 ∷ 111 ∷ 116 ∷ []) p refl

-- Two words that fail both tests, and any others: another shape.
none_two : (w v : List ℕ) (ws : List (List ℕ)) → (same_bytes w root_word && is_plain v) ≡ false → (is_plain w && is_name v) ≡ false → front_of (w ∷ v ∷ ws) ≡ none
none_two w v [] e f = pair_is w v false false e f
none_two w v (u ∷ ws) e f = refl

none_any : (w : List ℕ) (ws : List (List ℕ)) → same_bytes w root_word ≡ false → is_plain w ≡ false → front_of (w ∷ ws) ≡ none
none_any w [] e f = refl
none_any w (v ∷ ws) e f = none_two w v ws (first_false (same_bytes w root_word) (is_plain v) e) (first_false (is_plain w) (is_name v) f)

-- ---- What reading the line gives

module _ (t : List ℕ) (at : ℕ) where
  abbrev goes_on : ℕ → Option Front → Read Front
  goes_on n o = shaped 0 n o >>= λ front. found (front, n + 1, at + suc (length (line_of (drop at t))))

  by_feed : (n : ℕ) (x : Bool) → feed_follows t at ≡ x
      → front_line t n at ≡ elim x [ true ↦ goes_on n (front_of (words_at t at)) | false ↦ refused (WrongShape n 0) ]
  unfolding front_line due_line
  by_feed n true e =
      ap
      (λ (y : Bool).
      elim y as (λ z. Read (List ℕ)) [
        | true ↦ found (line_of (drop at t), n + 1, at + suc (length (line_of (drop at t))))
        | false ↦ refused (WrongShape n 0)
      ]
      >>= λ (line, n', place'). shaped 0 n (front_of (words_of line)) >>= λ front. found (front, n', place'))
      e
  by_feed n false e =
      ap
      (λ (y : Bool).
      elim y as (λ z. Read (List ℕ)) [
        | true ↦ found (line_of (drop at t), n + 1, at + suc (length (line_of (drop at t))))
        | false ↦ refused (WrongShape n 0)
      ]
      >>= λ (line, n', place'). shaped 0 n (front_of (words_of line)) >>= λ front. found (front, n', place'))
      e

  pub front_out : feed_follows t at ≡ false → FrontIs t at None
  front_out e n = by_feed n false e

  module _ (f : feed_follows t at ≡ true) where
    pub front_none : front_of (words_at t at) ≡ none → FrontIs t at None
    front_none e n = by_feed n true f ∙ ap (goes_on n) e

    front_some : (x : Front) (next : ℕ) → front_of (words_at t at) ≡ some x → next ≡ end_at t at + 1 → (n : ℕ) → front_line t n at ≡ found (x, n + 1, next)
    front_some x next e q n =
        let m = length (line_of (drop at t)) in
        let same : at + suc m ≡ next = omega arith in
        by_feed n true f ∙ (ap (goes_on n) e ∙ ap (λ (i : ℕ). found (x, n + 1, i)) same)

    pub front_root : (id next : ℕ) → front_of (words_at t at) ≡ some (the_root id) → next ≡ end_at t at + 1 → FrontIs t at (Some (Root id next))
    front_root id next e q n = front_some (the_root id) next e q n

    pub front_action : (id from to : ℕ) → front_of (words_at t at) ≡ some (an_action id (bytes t from to)) → to ≡ end_at t at → from ≤ to → to < length t
        → FrontIs t at (Some (Action id from to))
    front_action id from to e q o i = (o, i, λ n. front_some (an_action id (bytes t from to)) (to + 1) e (omega arith) n)

-- ---- An action line

module _ (t : List ℕ) (at id next : ℕ) (w : Numbered t at id next) where
  pub id_alone : (get_or t next 0 ≡ 32 → ⊥) → FrontIs t at None
  id_alone n = front_none t at w.feeds (ap front_of (word_last t at next w.feeds w.ends n).0)

  module _ (s : get_or t next 0 ≡ 32) where
    pub name_feeds : feed_follows t (next + 1) ≡ true
    name_feeds = (word_more t at next w.feeds w.ends s).2

    split : words_at t at ≡ piece_from 32 t at ∷ words_at t (next + 1)
    split = (word_more t at next w.feeds w.ends s).0

    -- The words: the id, the piece after it, and any others.
    pub three : words_at t at ≡ piece_from 32 t at ∷ piece_from 32 t (next + 1) ∷ words_after t (piece_end 32 t (next + 1))
    three = split ∙ ap (λ (ws : List (List ℕ)). piece_from 32 t at ∷ ws) (words_after_lem t (next + 1) (piece_end 32 t (next + 1)) name_feeds refl).0

    not_root : (v : List ℕ) → (same_bytes (piece_from 32 t at) root_word && is_plain v) ≡ false
    not_root v = first_false (same_bytes (piece_from 32 t at) root_word) (is_plain v) (no_root (piece_from 32 t at) w.plain)

    pub no_name_there : None ≡ name_end (next + 1) (piece_from 32 t (next + 1)) → FrontIs t at None
    no_name_there e =
        front_none t at w.feeds
        (ap front_of three
        ∙ none_two (piece_from 32 t at) (piece_from 32 t (next + 1)) (words_after t (piece_end 32 t (next + 1)))
        (not_root (piece_from 32 t (next + 1)))
        (both_false (is_plain (piece_from 32 t at)) (is_name (piece_from 32 t (next + 1))) (no_name_told (next + 1) (piece_from 32 t (next + 1)) e)))

    module _ (to : ℕ) (e : Some to ≡ name_end (next + 1) (piece_from 32 t (next + 1))) where
      pub name_is : NameAt t (next + 1) to
      name_is = name_here t (next + 1) to name_feeds e

      pub third_word : (get_or t to 0 ≡ 10 → ⊥) → FrontIs t at None
      third_word m = go (word_feed_or_space t (next + 1) to name_feeds name_is.ends m)
        where
          go : get_or t to 0 ≡ 32 → FrontIs t at None
          go q =
              let more = (word_more t (next + 1) to name_feeds name_is.ends q).0 in
              let some = words_some t (to + 1) in
              front_none t at w.feeds
              (ap front_of (split ∙ ap (λ (ws : List (List ℕ)). piece_from 32 t at ∷ ws) (more ∙ ap (λ (ws : List (List ℕ)). piece_from 32 t (next + 1) ∷ ws) some.2)))

      pub action_there : get_or t to 0 ≡ 10 → FrontIs t at (Some (Action id (next + 1) to))
      action_there q =
          let last = word_last t (next + 1) to name_feeds name_is.ends (λ z. omega arith) in
          let v = piece_from 32 t (next + 1) in
          front_action t at w.feeds id (next + 1) to
          (ap front_of (split ∙ ap (λ (ws : List (List ℕ)). piece_from 32 t at ∷ ws) last.0)
          ∙ (pair_is (piece_from 32 t at) v false true (not_root v) (both_true (is_plain (piece_from 32 t at)) (is_name v) w.plain name_is.named)
          ∙ ap₂ (λ (i : ℕ) (l : List ℕ). some (an_action i l)) (sym w.worth) name_is.same))
          (sym last.1 ∙ sym (word_more t at next w.feeds w.ends s).1)
          name_is.order
          name_is.inside

-- ---- The root line

module _ (t : List ℕ) (at : ℕ) (f : feed_follows t at ≡ true) where
  root_at_lem : same_bytes (piece_from 32 t at) root_word ≡ true → at + 4 ≡ piece_end 32 t at
  unfolding root_word
  root_at_lem is = ap (λ (l : List ℕ). at + length l) (sym ((same_bytes_lem (piece_from 32 t at) root_word).0 is))

  pub root_inside : same_bytes (piece_from 32 t at) root_word ≡ true → at + 4 < length t
  root_inside is = word_inside t at (at + 4) f (root_at_lem is)

  module _ (is : same_bytes (piece_from 32 t at) root_word ≡ true) (s : get_or t (at + 4) 0 ≡ 32) where
    pub id_feeds : feed_follows t (at + 4 + 1) ≡ true
    id_feeds = (word_more t at (at + 4) f (root_at_lem is) s).2

    pub id_inside : {id next : ℕ} → IsNumber (at + 4 + 1) (piece_from 32 t (at + 4 + 1)) id next → next < length t
    id_inside {id} {next} v = word_inside t (at + 4 + 1) next id_feeds v.ends

  module _ (plain : is_plain (piece_from 32 t at) ≡ false) where
    pub no_root_word : same_bytes (piece_from 32 t at) root_word ≡ false → FrontIs t at None
    no_root_word e =
        front_none t at f
        (ap front_of (words_after_lem t at (piece_end 32 t at) f refl).0 ∙ none_any (piece_from 32 t at) (words_after t (piece_end 32 t at)) e plain)

    module _ (is : same_bytes (piece_from 32 t at) root_word ≡ true) where
      pub root_alone : (get_or t (at + 4) 0 ≡ 32 → ⊥) → FrontIs t at None
      root_alone n = front_none t at f (ap front_of (word_last t at (at + 4) f (root_at_lem is) n).0)

      module _ (s : get_or t (at + 4) 0 ≡ 32) where
        both : words_at t at ≡ piece_from 32 t at ∷ piece_from 32 t (at + 4 + 1) ∷ words_after t (piece_end 32 t (at + 4 + 1))
        both =
            (word_more t at (at + 4) f (root_at_lem is) s).0
            ∙ ap (λ (ws : List (List ℕ)). piece_from 32 t at ∷ ws) (words_after_lem t (at + 4 + 1) (piece_end 32 t (at + 4 + 1)) (id_feeds is s) refl).0

        pub no_id : is_plain (piece_from 32 t (at + 4 + 1)) ≡ false → FrontIs t at None
        no_id e =
            front_none t at f
            (ap front_of both
            ∙ none_two (piece_from 32 t at) (piece_from 32 t (at + 4 + 1)) (words_after t (piece_end 32 t (at + 4 + 1)))
            (both_false (same_bytes (piece_from 32 t at) root_word) (is_plain (piece_from 32 t (at + 4 + 1))) e)
            (first_false (is_plain (piece_from 32 t at)) (is_name (piece_from 32 t (at + 4 + 1))) plain))

        module _ (id next : ℕ) (v : IsNumber (at + 4 + 1) (piece_from 32 t (at + 4 + 1)) id next) where
          pub more_words : (get_or t next 0 ≡ 10 → ⊥) → FrontIs t at None
          more_words m =
              let q = word_feed_or_space t (at + 4 + 1) next (id_feeds is s) v.ends m in
              let more = (word_more t (at + 4 + 1) next (id_feeds is s) v.ends q).0 in
              let some = words_some t (next + 1) in
              front_none t at f
              (ap front_of
              ((word_more t at (at + 4) f (root_at_lem is) s).0
              ∙ ap (λ (ws : List (List ℕ)). piece_from 32 t at ∷ ws) (more ∙ ap (λ (ws : List (List ℕ)). piece_from 32 t (at + 4 + 1) ∷ ws) some.2)))

          pub root_there : get_or t next 0 ≡ 10 → FrontIs t at (Some (Root id (next + 1)))
          unfolding id_of
          root_there q =
              let last = word_last t (at + 4 + 1) next (id_feeds is s) v.ends (λ z. omega arith) in
              let x = piece_from 32 t (at + 4 + 1) in
              front_root t at f id (next + 1)
              (ap front_of ((word_more t at (at + 4) f (root_at_lem is) s).0 ∙ ap (λ (ws : List (List ℕ)). piece_from 32 t at ∷ ws) last.0)
              ∙ (pair_is (piece_from 32 t at) x true false (both_true (same_bytes (piece_from 32 t at) root_word) (is_plain x) is v.plain) (first_false (is_plain (piece_from 32 t at)) (is_name x) plain)
              ∙ ap (λ (i : ℕ). some (the_root i)) (sym v.worth)))
              (ap (λ (i : ℕ). i + 1) (sym last.1 ∙ sym (word_more t at (at + 4) f (root_at_lem is) s).1))
