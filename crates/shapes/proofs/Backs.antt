-- A line after the root line, by its words: what `back_of` makes of them, and what reading the line then gives. Assumes nothing.
use mathlib.Core.Path.{◌≡◌, refl, sym, ap, ap₂, ◌∙◌}
use mathlib.Core.Bool.{Bool, true, false, ◌&&◌}
use mathlib.Core.List.{List, [], ◌∷◌, map}
use mathlib.Core.Option.{Option, none, some}
use Prim.Native.Nat.{ℕ, suc, ◌+◌, ◌<◌}
use native.Mathlib.Omega.{arith}
use lib.ListN.{length, get_or, drop}
use Rattle.std.specs.Prelude.{Some, None}
use Rattle.rules.specs.declared.Answer.TheVariants.{WrongShape}
use Rattle.rules.specs.Text.{is_digit, is_plain, feed_follows}
use Rattle.rules.specs.Result.{found, refused, ◌>>=◌}
use Rattle.rules.specs.Case.{Read}
use Rattle.rules.specs.Tokens.{line_of, due_line, shaped, words_of, is_name, same_bytes, all_plain, id_of}
use Rattle.rules.specs.Form.{arrow_word, closing_word, Back, a_compound, the_end, back_of, back_line}
use Rattle.text.proofs.Feeds.{feed_inside}
use Rattle.tokens.specs.Pieces.{ends_piece, piece_from, name_end}
use Rattle.tokens.proofs.Lines.{piece_end}
use Rattle.tokens.proofs.Words.{no_name_told}
use Rattle.shapes.specs.declared.Back.TheVariants.{Compound, End}
use Rattle.shapes.specs.declared.Ids.{Ids}
use Rattle.shapes.specs.Shapes.{bytes, words_at, end_at, words_after, end_after, Numbered, Headed, IdsAre, BackIs}
use Rattle.rules.proofs.Import.Says.{same_bytes_lem}
use Rattle.shapes.proofs.Words.{word_inside, word_feeds, word_ends, word_more, word_last, word_feed_or_space, words_after_lem, words_some, plain_apart, NameAt, name_here}
use Rattle.shapes.proofs.Fronts.{both_true, both_false, first_false}

-- ---- By the words

-- An id is no `<==`.
no_closing : (w : List ℕ) → is_plain w ≡ true → same_bytes w closing_word ≡ false
unfolding closing_word is_digit
no_closing w p = plain_apart w 60 (61 ∷ 61 ∷ []) p refl

alone_is : (w : List ℕ) (x : Bool) → same_bytes w closing_word ≡ x → back_of (w ∷ []) ≡ elim x [ true ↦ some the_end | false ↦ none ]
alone_is w x e = ap (λ (y : Bool). elim y as (λ z. Option Back) [ true ↦ some the_end | false ↦ none ]) e

-- The five tests of a compound line.
abbrev five_tests : List ℕ → List ℕ → List ℕ → List ℕ → List (List ℕ) → Bool
five_tests w t v m ids = is_plain w && (is_name t && (same_bytes v arrow_word && (is_name m && all_plain ids)))

four_is : (w t v m : List ℕ) (ids : List (List ℕ)) (x : Bool) → five_tests w t v m ids ≡ x
    → back_of (w ∷ t ∷ v ∷ m ∷ ids) ≡ elim x [ true ↦ some (a_compound (id_of w) t m (map id_of ids)) | false ↦ none ]
four_is w t v m ids x e = ap (λ (y : Bool). elim y as (λ z. Option Back) [ true ↦ some (a_compound (id_of w) t m (map id_of ids)) | false ↦ none ]) e

-- Another first word, and another line than the last.
no_id : (w : List ℕ) (ws : List (List ℕ)) → is_plain w ≡ false → same_bytes w closing_word ≡ false → back_of (w ∷ ws) ≡ none
no_id w [] p e = alone_is w false e
no_id w (t ∷ []) p e = refl
no_id w (t ∷ v ∷ []) p e = refl
no_id w (t ∷ v ∷ m ∷ ids) p e = four_is w t v m ids false (first_false (is_plain w) _ p)

no_id_two : (w t : List ℕ) (ws : List (List ℕ)) → is_plain w ≡ false → back_of (w ∷ t ∷ ws) ≡ none
no_id_two w t [] p = refl
no_id_two w t (v ∷ []) p = refl
no_id_two w t (v ∷ m ∷ ids) p = four_is w t v m ids false (first_false (is_plain w) _ p)

no_task : (w t : List ℕ) (ws : List (List ℕ)) → is_name t ≡ false → back_of (w ∷ t ∷ ws) ≡ none
no_task w t [] n = refl
no_task w t (v ∷ []) n = refl
no_task w t (v ∷ m ∷ ids) n = four_is w t v m ids false (both_false (is_plain w) _ (first_false (is_name t) _ n))

no_arrow : (w t v : List ℕ) (ws : List (List ℕ)) → same_bytes v arrow_word ≡ false → back_of (w ∷ t ∷ v ∷ ws) ≡ none
no_arrow w t v [] n = refl
no_arrow w t v (m ∷ ids) n = four_is w t v m ids false (both_false (is_plain w) _ (both_false (is_name t) _ (first_false (same_bytes v arrow_word) _ n)))

no_method_lem : (w t v m : List ℕ) (ids : List (List ℕ)) → is_name m ≡ false → back_of (w ∷ t ∷ v ∷ m ∷ ids) ≡ none
no_method_lem w t v m ids n =
    four_is w t v m ids false (both_false (is_plain w) _ (both_false (is_name t) _ (both_false (same_bytes v arrow_word) _ (first_false (is_name m) _ n))))

no_ids : (w t v m : List ℕ) (ids : List (List ℕ)) → all_plain ids ≡ false → back_of (w ∷ t ∷ v ∷ m ∷ ids) ≡ none
no_ids w t v m ids n =
    four_is w t v m ids false
    (both_false (is_plain w) _ (both_false (is_name t) _ (both_false (same_bytes v arrow_word) _ (both_false (is_name m) (all_plain ids) n))))

-- ---- What reading the line gives

module _ (t : List ℕ) (at : ℕ) where
  abbrev goes_on : ℕ → Option Back → Read Back
  goes_on n o = shaped 0 n o >>= λ back. found (back, n + 1, at + suc (length (line_of (drop at t))))

  abbrev by_line : ℕ → Bool → Read Back
  by_line n y =
      elim y as (λ z. Read (List ℕ)) [
        | true ↦ found (line_of (drop at t), n + 1, at + suc (length (line_of (drop at t))))
        | false ↦ refused (WrongShape n 0)
      ]
      >>= λ (line, n', place'). shaped 0 n (back_of (words_of line)) >>= λ back. found (back, n', place')

  pub back_out : feed_follows t at ≡ false → BackIs t at None
  unfolding back_line due_line
  back_out e n = ap (by_line n) e

  module _ (f : feed_follows t at ≡ true) where
    by_feed : (n : ℕ) → back_line t n at ≡ goes_on n (back_of (words_at t at))
    unfolding back_line due_line
    by_feed n = ap (by_line n) f

    pub back_none : back_of (words_at t at) ≡ none → BackIs t at None
    back_none e n = by_feed n ∙ ap (goes_on n) e

    pub back_some : (x : Back) (next : ℕ) → back_of (words_at t at) ≡ some x → next ≡ end_at t at + 1 → (n : ℕ) → back_line t n at ≡ found (x, n + 1, next)
    back_some x next e q n =
        let m = length (line_of (drop at t)) in
        let same : at + suc m ≡ next = omega arith in
        by_feed n ∙ (ap (goes_on n) e ∙ ap (λ (i : ℕ). found (x, n + 1, i)) same)

-- ---- The last line

module _ (t : List ℕ) (at : ℕ) (f : feed_follows t at ≡ true) where
  closing_at : same_bytes (piece_from 32 t at) closing_word ≡ true → at + 3 ≡ piece_end 32 t at
  unfolding closing_word
  closing_at is = ap (λ (l : List ℕ). at + length l) (sym ((same_bytes_lem (piece_from 32 t at) closing_word).0 is))

  pub closing_inside : same_bytes (piece_from 32 t at) closing_word ≡ true → at + 3 < length t
  closing_inside is = word_inside t at (at + 3) f (closing_at is)

  module _ (plain : is_plain (piece_from 32 t at) ≡ false) where
    pub no_closing_word : same_bytes (piece_from 32 t at) closing_word ≡ false → BackIs t at None
    no_closing_word e =
        back_none t at f
        (ap back_of (words_after_lem t at (piece_end 32 t at) f refl).0 ∙ no_id (piece_from 32 t at) (words_after t (piece_end 32 t at)) plain e)

    module _ (is : same_bytes (piece_from 32 t at) closing_word ≡ true) where
      pub closing_goes_on : (get_or t (at + 3) 0 ≡ 10 → ⊥) → BackIs t at None
      closing_goes_on m =
          let s = word_feed_or_space t at (at + 3) f (closing_at is) m in
          let some = words_some t (at + 3 + 1) in
          back_none t at f
          (ap back_of ((word_more t at (at + 3) f (closing_at is) s).0 ∙ ap (λ (ws : List (List ℕ)). piece_from 32 t at ∷ ws) some.2)
          ∙ no_id_two (piece_from 32 t at) some.0 some.1 plain)

      pub closing_there : get_or t (at + 3) 0 ≡ 10 → BackIs t at (Some (End (at + 3 + 1)))
      closing_there q n =
          let last = word_last t at (at + 3) f (closing_at is) (λ z. omega arith) in
          back_some t at f the_end (at + 3 + 1) (ap back_of last.0 ∙ alone_is (piece_from 32 t at) true is) (ap (λ (i : ℕ). i + 1) (sym last.1)) n

-- ---- A compound line up to its task's name

module _ (t : List ℕ) (at id next : ℕ) (w : Numbered t at id next) where
  pub id_alone : (get_or t next 0 ≡ 32 → ⊥) → BackIs t at None
  id_alone n =
      back_none t at w.feeds
      (ap back_of (word_last t at next w.feeds w.ends n).0 ∙ alone_is (piece_from 32 t at) false (no_closing (piece_from 32 t at) w.plain))

  module _ (s : get_or t next 0 ≡ 32) where
    pub task_feeds : feed_follows t (next + 1) ≡ true
    task_feeds = (word_more t at next w.feeds w.ends s).2

    split : words_at t at ≡ piece_from 32 t at ∷ words_at t (next + 1)
    split = (word_more t at next w.feeds w.ends s).0

    pub no_task_name : None ≡ name_end (next + 1) (piece_from 32 t (next + 1)) → BackIs t at None
    no_task_name e =
        back_none t at w.feeds
        (ap back_of (split ∙ ap (λ (ws : List (List ℕ)). piece_from 32 t at ∷ ws) (words_after_lem t (next + 1) (piece_end 32 t (next + 1)) task_feeds refl).0)
        ∙ no_task (piece_from 32 t at) (piece_from 32 t (next + 1)) (words_after t (piece_end 32 t (next + 1))) (no_name_told (next + 1) (piece_from 32 t (next + 1)) e))

    module _ (to : ℕ) (e : Some to ≡ name_end (next + 1) (piece_from 32 t (next + 1))) where
      pub task_is : NameAt t (next + 1) to
      task_is = name_here t (next + 1) to task_feeds e

      pub task_last : (get_or t to 0 ≡ 32 → ⊥) → BackIs t at None
      task_last m =
          back_none t at w.feeds
          (ap back_of (split ∙ ap (λ (ws : List (List ℕ)). piece_from 32 t at ∷ ws) (word_last t (next + 1) to task_feeds task_is.ends m).0))

      pub headed : get_or t to 0 ≡ 32 → Headed t at id (next + 1) to
      headed q =
          let more = word_more t (next + 1) to task_feeds task_is.ends q in
          record {
            feeds = w.feeds;
            plain = w.plain;
            worth = w.worth;
            named = ap is_name (sym task_is.same) ∙ task_is.named;
            order = task_is.order;
            parts =
                split
                ∙ ap (λ (ws : List (List ℕ)). piece_from 32 t at ∷ ws)
                (more.0 ∙ ap (λ (l : List ℕ). l ∷ words_at t (to + 1)) task_is.same);
            ends = (word_more t at next w.feeds w.ends s).1 ∙ more.1;
            goes = more.2;
          }

-- ---- A compound line from its task's name on

module _ (t : List ℕ) (at id from to : ℕ) (h : Headed t at id from to) where
  arrow_at : same_bytes (piece_from 32 t (to + 1)) arrow_word ≡ true → to + 3 ≡ piece_end 32 t (to + 1)
  unfolding arrow_word
  arrow_at is =
      let two : to + 3 ≡ to + 1 + 2 = omega arith in
      two ∙ ap (λ (l : List ℕ). to + 1 + length l) (sym ((same_bytes_lem (piece_from 32 t (to + 1)) arrow_word).0 is))

  abbrev led : List (List ℕ) → List (List ℕ)
  led ws = piece_from 32 t at ∷ bytes t from to ∷ ws

  pub no_arrow_word : same_bytes (piece_from 32 t (to + 1)) arrow_word ≡ false → BackIs t at None
  no_arrow_word e =
      back_none t at h.feeds
      (ap back_of (h.parts ∙ ap led (words_after_lem t (to + 1) (piece_end 32 t (to + 1)) h.goes refl).0)
      ∙ no_arrow (piece_from 32 t at) (bytes t from to) (piece_from 32 t (to + 1)) (words_after t (piece_end 32 t (to + 1))) e)

  module _ (is : same_bytes (piece_from 32 t (to + 1)) arrow_word ≡ true) where
    pub arrow_inside : to + 3 < length t
    arrow_inside = word_inside t (to + 1) (to + 3) h.goes (arrow_at is)

    pub arrow_last : (get_or t (to + 3) 0 ≡ 32 → ⊥) → BackIs t at None
    arrow_last n =
        back_none t at h.feeds (ap back_of (h.parts ∙ ap led (word_last t (to + 1) (to + 3) h.goes (arrow_at is) n).0))

    module _ (s : get_or t (to + 3) 0 ≡ 32) where
      same : to + 3 + 1 ≡ to + 4
      same = omega arith

      pub method_feeds : feed_follows t (to + 4) ≡ true
      method_feeds = ap (feed_follows t) (sym same) ∙ (word_more t (to + 1) (to + 3) h.goes (arrow_at is) s).2

      three : words_at t at ≡ led (piece_from 32 t (to + 1) ∷ words_at t (to + 4))
      three =
          h.parts
          ∙ ap led
          ((word_more t (to + 1) (to + 3) h.goes (arrow_at is) s).0
          ∙ ap (λ (i : ℕ). piece_from 32 t (to + 1) ∷ words_at t i) same)

      abbrev after : List (List ℕ) → List (List ℕ)
      after ws = led (piece_from 32 t (to + 1) ∷ ws)

      pub no_method_name : None ≡ name_end (to + 4) (piece_from 32 t (to + 4)) → BackIs t at None
      no_method_name e =
          back_none t at h.feeds
          (ap back_of (three ∙ ap after (words_after_lem t (to + 4) (piece_end 32 t (to + 4)) method_feeds refl).0)
          ∙ no_method_lem (piece_from 32 t at) (bytes t from to) (piece_from 32 t (to + 1)) (piece_from 32 t (to + 4)) (words_after t (piece_end 32 t (to + 4)))
          (no_name_told (to + 4) (piece_from 32 t (to + 4)) e))

      module _ (end : ℕ) (e : Some end ≡ name_end (to + 4) (piece_from 32 t (to + 4))) where
        pub method_is : NameAt t (to + 4) end
        method_is = name_here t (to + 4) end method_feeds e

        pub ids_feed : feed_follows t end ≡ true
        ids_feed = word_feeds t (to + 4) end method_feeds method_is.ends

        pub ids_end : ends_piece 32 (get_or t end 0) ≡ true
        ids_end = word_ends t (to + 4) end method_feeds method_is.ends

        four : words_at t at ≡ after (piece_from 32 t (to + 4) ∷ words_after t end)
        four = three ∙ ap after (words_after_lem t (to + 4) end method_feeds method_is.ends).0

        pub other_ids : IdsAre t end None → BackIs t at None
        other_ids i =
            back_none t at h.feeds
            (ap back_of four
            ∙ no_ids (piece_from 32 t at) (bytes t from to) (piece_from 32 t (to + 1)) (piece_from 32 t (to + 4)) (words_after t end) i)

        pub all_ids : (r : Ids) → IdsAre t end (Some r) → BackIs t at (Some (Compound id from to (to + 4) end r.count r.next))
        all_ids r (ids, spells, many, plains, values, past) =
            let past_it = feed_inside t (to + 1) h.goes in
            let tests =
            both_true (is_plain (piece_from 32 t at)) _ h.plain
            (both_true (is_name (bytes t from to)) _ h.named
            (both_true (same_bytes (piece_from 32 t (to + 1)) arrow_word) _ is
            (both_true (is_name (piece_from 32 t (to + 4))) (all_plain (words_after t end)) method_is.named plains))) in
            let ends : end_at t at ≡ end_after t end =
            h.ends
            ∙ ((word_more t (to + 1) (to + 3) h.goes (arrow_at is) s).1
            ∙ (ap (end_at t) same ∙ (words_after_lem t (to + 4) end method_feeds method_is.ends).1)) in (
              h.order,
              omega arith,
              method_is.order,
              method_is.inside,
              (
                ids,
                spells,
                many,
                back_some t at h.feeds (a_compound id (bytes t from to) (bytes t (to + 4) end) ids) r.next
                    (ap back_of four
                    ∙ (four_is (piece_from 32 t at) (bytes t from to) (piece_from 32 t (to + 1)) (piece_from 32 t (to + 4)) (words_after t end) true tests
                    ∙ (ap (λ (i : ℕ). some (a_compound i (bytes t from to) (piece_from 32 t (to + 4)) (map id_of (words_after t end)))) (sym h.worth)
                    ∙ ap₂ (λ (m : List ℕ) (l : List ℕ). some (a_compound id (bytes t from to) m l)) method_is.same values)))
                    (past ∙ ap (λ (i : ℕ). i + 1) (sym ends)),
              ),
            )
