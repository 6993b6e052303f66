-- The bytes of a text as lines and fields: what reading looks at from a place on is the fields that the line there has left. Assumes nothing.
use mathlib.Core.Path.{◌≡◌, refl, sym, ap, ap₂, ◌∙◌, subst}
use mathlib.Core.Bool.{Bool, true, false, ◌||◌, false≢true}
use mathlib.Core.List.{List, [], ◌∷◌, ◌++◌}
use Prim.Native.Nat.{ℕ, ◌+◌}
use lib.ListN.{length, drop}
use lib.Seq.{drop-drop, drop-append_seam}
use borrow.Author.Tests.{eqb-true}
use Rattle.rules.specs.Text.{is_feed, is_comma, ends_field, field_of, missing, number_in, number_after, number_at, ended, surplus, ending_of, ending_at, has_feed}
use Rattle.rules.specs.Faults.{onto, pieces}

-- ---- Splits

split_here : (parts : ℕ → Bool) (b : ℕ) (bs : List ℕ) → parts b ≡ true → pieces parts (b ∷ bs) ≡ [] ∷ pieces parts bs
split_here parts b bs e = rw (e, pieces)

split_on : (parts : ℕ → Bool) (b : ℕ) (bs : List ℕ) → parts b ≡ false → pieces parts (b ∷ bs) ≡ onto b (pieces parts bs)
split_on parts b bs e = rw (e, pieces)

-- ---- Fields

-- The field that starts here, and what follows it, are what stands here.
pub field_split : (bs : List ℕ) → bs ≡ field_of bs ++ drop (length (field_of bs)) bs
field_split [] = refl
field_split (b ∷ bs) = go (ends_field b) (field_split bs)
  where
    go : (e : Bool) → bs ≡ field_of bs ++ drop (length (field_of bs)) bs
        → b ∷ bs ≡ ◌++◌ {A = ℕ} (elim e [ true ↦ [] | false ↦ b ∷ field_of bs ])
        (drop (length {A = ℕ} (elim e [ true ↦ [] | false ↦ b ∷ field_of bs ])) (b ∷ bs))
    go true ih = refl
    go false ih = ap (λ (l : List ℕ). b ∷ l) ih

pub field_here : (b : ℕ) (bs : List ℕ) → ends_field b ≡ true → field_of (b ∷ bs) ≡ []
field_here b bs e = rw (e, field_of)

pub field_on : (b : ℕ) (bs : List ℕ) → ends_field b ≡ false → field_of (b ∷ bs) ≡ b ∷ field_of bs
field_on b bs e = rw (e, field_of)

-- ---- A line

-- The bytes from the end of a field on: the fields that the line has left, its line feed, and the text after it.
abbrev pub Left : List ℕ → List (List ℕ) → List ℕ → Type 0
Left bs [] after = bs ≡ 10 ∷ after
Left bs (f ∷ fs) after = (rest : List ℕ) × (bs ≡ 44 ∷ (f ++ rest)) × (field_of (f ++ rest) ≡ f) × Left rest fs after

-- The line that starts here.
pub record LineIn (bs : List ℕ) : Type 0 where
  pub line : List ℕ
  pub after : List ℕ
  pub fields : List (List ℕ)
  pub lines : pieces is_feed bs ≡ line ∷ pieces is_feed after
  pub parted : pieces is_comma line ≡ field_of bs ∷ fields
  pub left : Left (drop (length (field_of bs)) bs) fields after

ends_by : (b : ℕ) (c f : Bool) → is_comma b ≡ c → is_feed b ≡ f → ends_field b ≡ (c || f)
unfolding ends_field
ends_by b c f p q = ap₂ (λ (x y : Bool). x || y) p q

pub or-true : (c : Bool) → (c || true) ≡ true
or-true true = refl
or-true false = refl

pub line_in : (bs : List ℕ) → has_feed bs ≡ true → LineIn bs
unfolding is_feed is_comma
line_in [] e = absurd (false≢true e)
line_in (b ∷ bs) e = go (is_feed b) (is_comma b) refl refl e (line_in bs)
  where
    go : (f c : Bool) → is_feed b ≡ f → is_comma b ≡ c → elim f as (λ x. Bool) [ true ↦ true | false ↦ has_feed bs ] ≡ true
        → (has_feed bs ≡ true → LineIn bs) → LineIn (b ∷ bs)
    go true c p q e ih =
        let none : field_of (b ∷ bs) ≡ [] = field_here b bs (ends_by b c true q p ∙ or-true c) in
        record {
          line = [];
          after = bs;
          fields = [];
          lines = split_here is_feed b bs p;
          parted = rw none;
          left = rw none (ap (λ (x : ℕ). x ∷ bs) (eqb-true b 10 p));
        }
    go false true p q e ih =
        let w = ih e in
        let none : field_of (b ∷ bs) ≡ [] = field_here b bs (ends_by b true false q p) in
        let rest : bs ≡ field_of bs ++ drop (length (field_of bs)) bs = field_split bs in
        record {
          line = b ∷ w.line;
          after = w.after;
          fields = field_of bs ∷ w.fields;
          lines = split_on is_feed b bs p ∙ ap (onto b) w.lines;
          parted = split_here is_comma b w.line q ∙ ap₂ (λ (x : List ℕ) (y : List (List ℕ)). x ∷ y) (sym none) w.parted;
          left = rw none (drop (length (field_of bs)) bs, ap₂ (λ (x : ℕ) (l : List ℕ). x ∷ l) (eqb-true b 44 q) rest, ap field_of (sym rest), w.left);
        }
    go false false p q e ih =
        let w = ih e in
        let more : field_of (b ∷ bs) ≡ b ∷ field_of bs = field_on b bs (ends_by b false false q p) in
        record {
          line = b ∷ w.line;
          after = w.after;
          fields = w.fields;
          lines = split_on is_feed b bs p ∙ ap (onto b) w.lines;
          parted = split_on is_comma b w.line q ∙ ap (onto b) w.parted ∙ ap (λ (x : List ℕ). x ∷ w.fields) (sym more);
          left = rw more w.left;
        }

-- ---- What reading finds at a place, by the fields that the line has left there

pub tail_at : (text : List ℕ) (place b : ℕ) (bs : List ℕ) → drop place text ≡ b ∷ bs → drop (place + 1) text ≡ bs
tail_at text place b bs e = sym (drop-drop 1 place text) ∙ ap (λ (l : List ℕ). drop 1 l) e

module _ (text after : List ℕ) (place : ℕ) where
  pub number_missing : Left (drop place text) [] after → number_at text place ≡ missing
  unfolding number_at is_comma
  number_missing e = ap (number_after place) e

  pub number_there : (f : List ℕ) (fs : List (List ℕ)) → Left (drop place text) (f ∷ fs) after
      → (number_at text place ≡ number_in (place + 1) f) × Left (drop (place + 1 + length f) text) fs after
  unfolding number_at is_comma
  number_there f fs (rest, e, is, left) = (
    ap (number_after place) e ∙ ap (number_in (place + 1)) is,
    subst (λ (bs : List ℕ). Left bs fs after)
        (sym (sym (drop-drop (length f) (place + 1) text) ∙ ap (drop (length f)) (tail_at text place 44 (f ++ rest) e) ∙ drop-append_seam f rest)) left,
  )

  pub line_over : Left (drop place text) [] after → (ending_at text place ≡ ended (place + 1)) × (drop (place + 1) text ≡ after)
  unfolding ending_at is_feed
  line_over e = (ap (ending_of place) e, tail_at text place 10 after e)

  pub field_over : (f : List ℕ) (fs : List (List ℕ)) → Left (drop place text) (f ∷ fs) after → ending_at text place ≡ surplus
  unfolding ending_at is_feed
  field_over f fs (rest, e, is, left) = ap (ending_of place) e
