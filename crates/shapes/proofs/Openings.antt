-- The first line of the form, by its words. Assumes nothing.
use mathlib.Core.Path.{◌≡◌, refl, sym, ap, ◌∙◌}
use mathlib.Core.Bool.{Bool, true, false}
use mathlib.Core.List.{List, [], ◌∷◌}
use mathlib.Core.Option.{Option, none, some}
use Prim.Native.Nat.{ℕ, suc, ◌+◌, ◌<◌}
use native.Mathlib.Omega.{arith}
use lib.ListN.{length, get_or}
use Rattle.std.specs.Prelude.{Some, None}
use Rattle.rules.specs.declared.Answer.TheVariants.{WrongShape}
use Rattle.rules.specs.Text.{feed_follows}
use Rattle.rules.specs.Result.{found, refused, ◌>>=◌}
use Rattle.rules.specs.Case.{Read}
use Rattle.rules.specs.Tokens.{line_of, due_line, shaped, words_of, same_bytes}
use Rattle.rules.specs.Form.{opening_word, opening_of}
use Rattle.tokens.specs.Pieces.{piece_from}
use Rattle.tokens.proofs.Lines.{piece_end}
use Rattle.shapes.specs.Shapes.{words_at, words_after, OpeningIs}
use Rattle.rules.proofs.Import.Says.{same_bytes_lem}
use Rattle.shapes.proofs.Words.{word_inside, word_more, word_last, word_feed_or_space, words_after_lem, words_some}

alone_is : (w : List ℕ) (x : Bool) → same_bytes w opening_word ≡ x → opening_of (w ∷ []) ≡ elim x [ true ↦ some tt | false ↦ none ]
alone_is w x e = ap (λ (y : Bool). elim y as (λ z. Option (Unit {0})) [ true ↦ some tt | false ↦ none ]) e

no_opening_word : (w : List ℕ) (ws : List (List ℕ)) → same_bytes w opening_word ≡ false → opening_of (w ∷ ws) ≡ none
no_opening_word w [] e = alone_is w false e
no_opening_word w (v ∷ ws) e = refl

module _ (t : List ℕ) where
  abbrev line : Bool → Read (List ℕ)
  line y = elim y as (λ z. Read (List ℕ)) [ true ↦ found (line_of t, 2, suc (length (line_of t))) | false ↦ refused (WrongShape 1 0) ]

  due_is : (x : Bool) → feed_follows t 0 ≡ x → due_line t 0 1 0 ≡ line x
  unfolding due_line
  due_is x e =
      let same : 0 + suc (length (line_of t)) ≡ suc (length (line_of t)) = omega arith in
      ap (λ (n : ℕ). elim (feed_follows t 0) as (λ z. Read (List ℕ)) [ true ↦ found (line_of t, 2, n) | false ↦ refused (WrongShape 1 0) ]) same ∙ ap line e

  pub opening_out : feed_follows t 0 ≡ false → OpeningIs t None
  opening_out e = ap (λ (r : Read (List ℕ)). r >>= λ x. shaped 0 1 (opening_of (words_of x.0))) (due_is false e)

  module _ (f : feed_follows t 0 ≡ true) where
    opening_none : opening_of (words_at t 0) ≡ none → OpeningIs t None
    opening_none e =
        ap (λ (r : Read (List ℕ)). r >>= λ x. shaped 0 1 (opening_of (words_of x.0))) (due_is true f) ∙ ap (shaped 0 1) e

    opening_at : same_bytes (piece_from 32 t 0) opening_word ≡ true → 3 ≡ piece_end 32 t 0
    unfolding opening_word
    opening_at is = ap (λ (l : List ℕ). 0 + length l) (sym ((same_bytes_lem (piece_from 32 t 0) opening_word).0 is))

    pub opening_inside : same_bytes (piece_from 32 t 0) opening_word ≡ true → 3 < length t
    opening_inside is = word_inside t 0 3 f (opening_at is)

    pub no_opening : same_bytes (piece_from 32 t 0) opening_word ≡ false → OpeningIs t None
    no_opening e =
        opening_none
        (ap opening_of (words_after_lem t 0 (piece_end 32 t 0) f refl).0 ∙ no_opening_word (piece_from 32 t 0) (words_after t (piece_end 32 t 0)) e)

    module _ (is : same_bytes (piece_from 32 t 0) opening_word ≡ true) where
      pub opening_goes_on : (get_or t 3 0 ≡ 10 → ⊥) → OpeningIs t None
      opening_goes_on m =
          let s = word_feed_or_space t 0 3 f (opening_at is) m in
          let some = words_some t 4 in
          opening_none
          (ap opening_of ((word_more t 0 3 f (opening_at is) s).0 ∙ ap (λ (ws : List (List ℕ)). piece_from 32 t 0 ∷ ws) some.2))

      pub opening_there : get_or t 3 0 ≡ 10 → OpeningIs t (Some 4)
      opening_there q =
          let last = word_last t 0 3 f (opening_at is) (λ z. omega arith) in
          let past : suc (length (line_of t)) ≡ 4 = omega (arith, last.1) in
          (due_is true f ∙ ap (λ (n : ℕ). found (line_of t, 2, n)) past, ap opening_of last.0 ∙ alone_is (piece_from 32 t 0) true is)
