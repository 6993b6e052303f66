-- What is said of what is found and of the answer that refuses, of the two together and of lines (02, Card 6): the line that starts at a place is
-- the one that the text's lines show. Assumes nothing.
use mathlib.Core.Path.{◌≡◌, refl, sym, ap, ap₂, ◌∙◌}
use mathlib.Core.Bool.{Bool, true, false, false≢true}
use mathlib.Core.Logic.{◌↔◌, ⊎_elim}
use mathlib.Core.List.{List, [], ◌∷◌}
use Prim.Native.Nat.{ℕ, suc, ◌+◌, ◌<◌}
use lib.Dec.{eqb, ltb}
use lib.ListN.{length, drop, get_or, drop_of_length-le}
use lib.Seq.{drop-drop}
use borrow.Author.Tests.{eqb-true, eq-eqb, ltb-true, ltb-false}
use Rattle.rules.specs.declared.Answer.{Answer}
use Rattle.rules.specs.declared.Answer.TheVariants.{WrongShape}
use Rattle.rules.specs.Result.{Result, found, refused, ◌>>=◌, ◌>>◌}
use Rattle.rules.specs.Text.{is_feed, has_feed, feed_follows}
use Rattle.rules.specs.Faults.{onto, pieces, Ended, text_line}
use Rattle.rules.specs.Tokens.{line_of, due_line, no_more, same_bytes}
use Rattle.rules.specs.FormFaults.{Stands}
use Rattle.rules.proofs.Tables.{and_both}
use Rattle.rules.proofs.Judgement.Each.{both_true}
use Rattle.rules.proofs.Faults.Fields.{line_in}
use Rattle.rules.proofs.Faults.Line.{Starts, line_is, next_starts, unended, ended_here, surplus_line}

-- ---- What is found, and what refuses

-- P of what is found, R of the answer that refuses.
abbrev pub Says : {A : Type 0} → (A → Type 0) → (Answer → Type 0) → Result A → Type 0
Says P R (found a) = P a
Says P R (refused r) = R r

pub says_bind : {A B : Type 0} (P : A → Type 0) (Q : B → Type 0) (R : Answer → Type 0) (o : Result A) (rest : A → Result B) → Says P R o
    → ((a : A) → P a → Says Q R (rest a)) → Says Q R (o >>= rest)
says_bind P Q R (found a) rest p f = f a p
says_bind P Q R (refused r) rest p f = p

pub says_then : {A B : Type 0} (P : A → Type 0) (Q : B → Type 0) (R : Answer → Type 0) (o : Result A) (m : Result B) → Says P R o
    → ((a : A) → P a → Says Q R m) → Says Q R (o >> m)
says_then P Q R (found a) m p f = f a p
says_then P Q R (refused r) m p f = p

pub says_weaken : {A : Type 0} (P P' : A → Type 0) (R R' : Answer → Type 0) (o : Result A) → ((a : A) → P a → P' a) → ((r : Answer) → R r → R' r)
    → Says P R o → Says P' R' o
says_weaken P P' R R' (found a) f g p = f a p
says_weaken P P' R R' (refused r) f g p = g r p

-- The same of what is found.
pub refusal_weaken : {A : Type 0} (P : A → Type 0) (R R' : Answer → Type 0) (o : Result A) → ((r : Answer) → R r → R' r) → Says P R o → Says P R' o
refusal_weaken P R R' o g p = says_weaken P P R R' o (λ a q. q) g p

-- ---- Lines

-- The line that starts here, and where the next one does.
line_first : (bs : List ℕ) → has_feed bs ≡ true → pieces is_feed bs ≡ line_of bs ∷ pieces is_feed (drop (suc (length (line_of bs))) bs)
line_first [] e = absurd (false≢true e)
line_first (b ∷ bs) e = go (is_feed b) e (line_first bs)
  where
    go : (t : Bool) → elim t as (λ x. Bool) [ true ↦ true | false ↦ has_feed bs ] ≡ true
        → (has_feed bs ≡ true → pieces is_feed bs ≡ line_of bs ∷ pieces is_feed (drop (suc (length (line_of bs))) bs))
        → elim t as (λ x. List (List ℕ)) [ true ↦ [] ∷ pieces is_feed bs | false ↦ onto b (pieces is_feed bs) ]
        ≡ elim t as (λ x. List ℕ) [ true ↦ [] | false ↦ b ∷ line_of bs ]
        ∷ pieces is_feed (drop (suc (length {A = ℕ} (elim t as (λ x. List ℕ) [ true ↦ [] | false ↦ b ∷ line_of bs ]))) (b ∷ bs))
    go true e ih = refl
    go false e ih = ap (onto b) (ih e)

-- Line l of the text, which has a line feed, is this one, and the next line starts at this place.
abbrev pub LineHere : List ℕ → ℕ → List ℕ × ℕ × ℕ → Type 0
LineHere text l (line, n, next) = (line ≡ text_line text l) × Ended text l × (n ≡ l + 1) × Starts text (l + 1) next

module _ (text : List ℕ) (item l place : ℕ) (s : Starts text l place) where
  pub due_says : Says (LineHere text l) (λ a. (a ≡ WrongShape l item) × (Ended text l → ⊥)) (due_line text item l place)
  unfolding due_line feed_follows
  due_says = go (has_feed (drop place text)) refl
    where
      go : (t : Bool) → has_feed (drop place text) ≡ t
          → Says (LineHere text l) (λ a. (a ≡ WrongShape l item) × (Ended text l → ⊥)) (elim t [
            | true ↦ found (line_of (drop place text), l + 1, place + suc (length (line_of (drop place text))))
            | false ↦ refused (WrongShape l item)
          ])
      go true e =
          let first = line_first (drop place text) e in (
            sym (line_is text l place s first),
            ended_here text l place s (line_in (drop place text) e),
            refl,
            next_starts text l place s (line_of (drop place text)) _
                (first ∙ ap (λ (bs : List ℕ). line_of (drop place text) ∷ pieces is_feed bs) (drop-drop _ place text)),
          )
      go false e = (refl, unended text l place s e)

  pub more_says : Says (λ u. Stands text l → ⊥) (λ a. (a ≡ WrongShape l item) × Stands text l) (no_more text item l place)
  unfolding no_more
  more_says = go (ltb place (length text)) refl
    where
      go : (t : Bool) → ltb place (length text) ≡ t
          → Says {A = Unit {0}} (λ u. Stands text l → ⊥) (λ a. (a ≡ WrongShape l item) × Stands text l)
          (elim t [ true ↦ refused (WrongShape l item) | false ↦ found tt ])
      go true e = (refl, surplus_line text l place s (ltb-true place (length text) e))
      go false e =
          let none : drop place text ≡ [] = drop_of_length-le text (ltb-false place (length text) e) in
          let alone : pieces is_feed (drop place text) ≡ [] ∷ [] = ap (pieces is_feed) none in
          ⊎_elim (unended text l place s (ap has_feed none)) (λ some. some (line_is text l place s alone))

-- ---- Names

same_self : (xs : List ℕ) → same_bytes xs xs ≡ true
same_self [] = refl
same_self (x ∷ xs) = and_both (eq-eqb x x refl) (same_self xs)

same_equal : (xs ys : List ℕ) → same_bytes xs ys ≡ true → xs ≡ ys
same_equal [] [] e = refl
same_equal [] (y ∷ ys) e = absurd (false≢true e)
same_equal (x ∷ xs) [] e = absurd (false≢true e)
same_equal (x ∷ xs) (y ∷ ys) e =
    let both = both_true (eqb x y) (same_bytes xs ys) e in
    ap₂ (λ (z : ℕ) (zs : List ℕ). z ∷ zs) (eqb-true x y both.0) (same_equal xs ys both.1)

pub same_bytes_lem : (xs ys : List ℕ) → (same_bytes xs ys ≡ true) ↔ (xs ≡ ys)
same_bytes_lem xs ys = (same_equal xs ys, λ e. ap (same_bytes xs) (sym e) ∙ same_self xs)

-- Names of which no two are the same.
abbrev pub Distinct : List (List ℕ) → Type 0
Distinct names = (i j : ℕ) → i < length names → j < length names → get_or names i [] ≡ get_or names j [] → i ≡ j
