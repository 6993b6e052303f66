-- The ids at the end of a compound line, passed one by one. Assumes nothing.
use mathlib.Core.Path.{◌≡◌, refl, sym, ap, ap₂, subst, ◌∙◌}
use mathlib.Core.Bool.{Bool, true, false, ◌&&◌}
use mathlib.Core.List.{List, [], ◌∷◌, ◌++◌, map, append_assoc, append-nil}
use Prim.Native.Nat.{ℕ, ◌+◌, ◌≤◌, ◌<◌}
use native.Mathlib.Omega.{arith}
use lib.ListN.{length, get_or, length-append}
use Rattle.std.specs.Prelude.{Some, None}
use borrow.Author.Tests.{eq-eqb, ne_eqb}
use Rattle.rules.specs.Text.{is_plain, number, not_plain, number_in, value_of, feed_follows, Number}
use Rattle.rules.specs.Tokens.{all_plain, id_of}
use Rattle.text.proofs.Feeds.{feed_inside, feed_past}
use Rattle.tokens.specs.Pieces.{ends_piece, piece_from, Spells}
use Rattle.tokens.proofs.Pieces.{ends_by}
use Rattle.tokens.proofs.Lines.{piece_end}
use Rattle.tokens.proofs.Words.{IsNumber}
use Rattle.shapes.specs.Shapes.{words_at, end_at, words_after, end_after, IdsAre}
use Rattle.shapes.proofs.Words.{word_inside, word_feeds, word_ends, words_after_lem}
use Rattle.shapes.proofs.Fronts.{first_false}

module _ (t : List ℕ) where
  after_space : (e : ℕ) → get_or t e 0 ≡ 32 → (words_after t e ≡ words_at t (e + 1)) × (end_after t e ≡ end_at t (e + 1))
  unfolding words_after end_after
  after_space e s = (
    ap (λ (x : Bool). elim x [ true ↦ words_at t (e + 1) | false ↦ [] ]) (eq-eqb (get_or t e 0) 32 s),
    ap (λ (x : Bool). elim x as (λ y. ℕ) [ true ↦ end_at t (e + 1) | false ↦ e ]) (eq-eqb (get_or t e 0) 32 s),
  )

  after_none : (e : ℕ) → (get_or t e 0 ≡ 32 → ⊥) → (words_after t e ≡ []) × (end_after t e ≡ e)
  unfolding words_after end_after
  after_none e n = (
    ap (λ (x : Bool). elim x [ true ↦ words_at t (e + 1) | false ↦ [] ]) (ne_eqb (get_or t e 0) 32 n),
    ap (λ (x : Bool). elim x as (λ y. ℕ) [ true ↦ end_at t (e + 1) | false ↦ e ]) (ne_eqb (get_or t e 0) 32 n),
  )

  -- The ids from `from` up to `at` are passed.
  pub record Passed (from at count : ℕ) : Type 0 where
    pub ids : List ℕ
    pub many : count ≡ length ids
    pub feeds : feed_follows t at ≡ true
    pub stops : ends_piece 32 (get_or t at 0) ≡ true
    pub spells : (more : List ℕ) → Spells t at more → Spells t from (ids ++ more)
    pub plains : all_plain (words_after t from) ≡ all_plain (words_after t at)
    pub values : map id_of (words_after t from) ≡ ids ++ map id_of (words_after t at)
    pub ends : end_after t from ≡ end_after t at
    pub small : count ≤ at

  pub passed_none : (from : ℕ) → feed_follows t from ≡ true → ends_piece 32 (get_or t from 0) ≡ true → Passed from from 0
  passed_none from f s = record {
    ids = [];
    many = refl;
    feeds = f;
    stops = s;
    spells = λ more m. m;
    plains = refl;
    values = refl;
    ends = refl;
    small = omega arith;
  }

  number_is : (from v next : ℕ) (piece : List ℕ) → IsNumber from piece v next → number_in from piece ≡ number v next
  number_is from v next piece n =
      ap (λ (x : Bool). elim x as (λ y. Number) [ true ↦ number (value_of 0 piece) (from + length piece) | false ↦ not_plain ]) n.plain
      ∙ ap₂ number (sym n.worth) (sym n.ends)

  module _ (from at count : ℕ) (p : Passed from at count) where
    pub passed_inside : at < length t
    passed_inside = feed_inside t at p.feeds

    module _ (s : get_or t at 0 ≡ 32) where
      pub id_feeds : feed_follows t (at + 1) ≡ true
      id_feeds = feed_past t at p.feeds (λ q. omega arith)

      here : words_after t at ≡ piece_from 32 t (at + 1) ∷ words_after t (piece_end 32 t (at + 1))
      here = (after_space at s).0 ∙ (words_after_lem t (at + 1) (piece_end 32 t (at + 1)) id_feeds refl).0

      pub passed_other : is_plain (piece_from 32 t (at + 1)) ≡ false → IdsAre t from None
      passed_other e =
          p.plains ∙ (ap all_plain here ∙ first_false (is_plain (piece_from 32 t (at + 1))) (all_plain (words_after t (piece_end 32 t (at + 1)))) e)

      module _ (v next : ℕ) (n : IsNumber (at + 1) (piece_from 32 t (at + 1)) v next) where
        pub next_inside : next < length t
        next_inside = word_inside t (at + 1) next id_feeds n.ends

        pub next_further : at + 2 ≤ next + 1
        next_further = let e = n.ends in omega arith

        on : words_after t at ≡ piece_from 32 t (at + 1) ∷ words_after t next
        on = (after_space at s).0 ∙ (words_after_lem t (at + 1) next id_feeds n.ends).0

        pub passed_one : Passed from next (count + 1)
        unfolding id_of
        passed_one = record {
          ids = p.ids ++ (v ∷ []);
          many = let e = length-append p.ids (v ∷ []) in let m = p.many in omega arith;
          feeds = word_feeds t (at + 1) next id_feeds n.ends;
          stops = word_ends t (at + 1) next id_feeds n.ends;
          spells = λ more m. subst (Spells t from) (sym (append_assoc p.ids (v ∷ []) more)) (p.spells (v ∷ more) (p.feeds, s, (next, number_is (at + 1) v next (piece_from 32 t (at + 1)) n, m)));
          plains = p.plains ∙ (ap all_plain on ∙ ap (λ (x : Bool). x && all_plain (words_after t next)) n.plain);
          values =
              p.values
              ∙ (ap (λ (ws : List (List ℕ)). p.ids ++ map id_of ws) on
              ∙ (ap (λ (x : ℕ). p.ids ++ (x ∷ map id_of (words_after t next))) (sym n.worth) ∙ sym (append_assoc p.ids (v ∷ []) (map id_of (words_after t next)))));
          ends = p.ends ∙ ((after_space at s).1 ∙ (words_after_lem t (at + 1) next id_feeds n.ends).1);
          small = let e = n.ends in let m = p.small in omega arith;
        }

    pub passed_all : (get_or t at 0 ≡ 32 → ⊥) → IdsAre t from (Some (record { count = count; next = at + 1 }))
    passed_all n =
        let w = after_none at n in
        let feed = ends_by 32 (get_or t at 0) p.stops n in (
          p.ids,
          subst (Spells t from) (append-nil p.ids) (p.spells [] (p.feeds, feed)),
          p.many,
          p.plains ∙ ap all_plain w.0,
          p.values ∙ (ap (λ (ws : List (List ℕ)). p.ids ++ map id_of ws) w.0 ∙ append-nil p.ids),
          ap (λ (i : ℕ). i + 1) (sym (p.ends ∙ w.1)),
        )
