-- What the answers of this crate say of a piece: which number it is, whether it is a name and where it ends, and the bytes it has. Assumes
-- nothing.
use mathlib.Core.Path.{◌≡◌, refl, sym, ap, ◌∙◌}
use mathlib.Core.Bool.{Bool, true, false}
use mathlib.Core.List.{List, [], ◌∷◌}
use Prim.Native.Nat.{ℕ, ◌+◌, ◌-◌, ◌<◌}
use native.Mathlib.Omega.{arith}
use lib.ListN.{length, take, drop}
use borrow.Author.Tests.{leb-true}
use lib.Dec.{leb}
use Rattle.rules.specs.Text.{digits_only, value_of, is_plain, Number, number, not_plain, number_in}
use Rattle.rules.specs.Tokens.{all_in_name, is_name}
use Rattle.text.proofs.Scan.{and_right}
use Rattle.std.specs.Prelude.{Option, None, Some}
use Rattle.tokens.specs.declared.Plain.{Plain}
use Rattle.tokens.specs.Pieces.{ends_piece, up_to, piece_from, as_plain, name_end}

apart : {A : Type 0} → ◌≡◌ {A = ℕ} 0 1 → A
apart z = absurd (omega arith)

-- ---- A number

pub record IsNumber (from : ℕ) (piece : List ℕ) (value next : ℕ) : Type 0 where
  pub plain : is_plain piece ≡ true
  pub worth : value ≡ value_of 0 piece
  pub ends : next ≡ from + length piece
  pub small : value < 4294967296

module _ (from : ℕ) (piece : List ℕ) where
  abbrev as_read : Bool → Number
  as_read x = elim x [ true ↦ number (value_of 0 piece) (from + length piece) | false ↦ not_plain ]

  pub number_told : {p : Plain} → Some p ≡ as_plain (number_in from piece) → IsNumber from piece p.value p.next
  unfolding is_plain
  number_told {p} e = go (is_plain piece) refl e
    where
      go : (x : Bool) → is_plain piece ≡ x → Some p ≡ as_plain (as_read x) → IsNumber from piece p.value p.next
      go true q r =
          let same : p ≡ record { value = value_of 0 piece; next = from + length piece } = cc in
          let value : p.value ≡ value_of 0 piece = ap (λ (q : Plain). q.value) same in
          let h = leb-true (value_of 0 piece) 4294967295 (and_right (digits_only piece) (leb (value_of 0 piece) 4294967295) q) in
          record { plain = q; worth = value; ends = ap (λ (q : Plain). q.next) same; small = omega arith }
      go false q r = apart (cc)

  pub other_told : None ≡ as_plain (number_in from piece) → is_plain piece ≡ false
  other_told e = go (is_plain piece) refl e
    where
      go : (x : Bool) → is_plain piece ≡ x → None ≡ as_plain (as_read x) → is_plain piece ≡ false
      go true q r = apart (cc)
      go false q r = q

-- ---- A name

name_all : (piece : List ℕ) → 0 < length piece → is_name piece ≡ all_in_name piece
name_all [] h = absurd (omega arith)
name_all (b ∷ bs) h = refl

module _ (from : ℕ) (piece : List ℕ) where
  abbrev end_if : Bool → Option ℕ
  end_if x = elim x [ true ↦ Some (from + length piece) | false ↦ None ]

  -- What the scan finds: a name that ends past its start; or none.
  pub named : (to : ℕ) → all_in_name piece ≡ true → from + length piece ≡ to → from < to → Some to ≡ name_end from piece
  named to e same h = sym (ap end_if (name_all piece (omega arith) ∙ e) ∙ ap (λ (i : ℕ). Some i) same)

  pub unnamed : is_name piece ≡ false → None ≡ name_end from piece
  unnamed e = sym (ap end_if e)

  pub name_told : {to : ℕ} → Some to ≡ name_end from piece → (is_name piece ≡ true) × (to ≡ from + length piece)
  name_told {to} e = go (is_name piece) refl e
    where
      go : (x : Bool) → is_name piece ≡ x → Some to ≡ end_if x → (is_name piece ≡ true) × (to ≡ from + length piece)
      go true q r = (q, cc)
      go false q r = apart (cc)

  pub no_name_told : None ≡ name_end from piece → is_name piece ≡ false
  no_name_told e = go (is_name piece) refl e
    where
      go : (x : Bool) → is_name piece ≡ x → None ≡ end_if x → is_name piece ≡ false
      go true q r = apart (cc)
      go false q r = q

-- A byte that is no name's keeps the piece from being one.
pub part_unnamed : (piece : List ℕ) → all_in_name piece ≡ false → is_name piece ≡ false
part_unnamed [] e = apart (cc)
part_unnamed (b ∷ bs) e = e

-- ---- Its bytes

-- A piece is that many bytes from its start.
take_up : (ends : ℕ → Bool) (bs : List ℕ) → up_to ends bs ≡ take (length (up_to ends bs)) bs
take_up ends [] = refl
take_up ends (b ∷ bs) = go (take_up ends bs) (ends b)
  where
    go : up_to ends bs ≡ take (length (up_to ends bs)) bs → (x : Bool)
        → ◌≡◌ {A = List ℕ}
        (elim x [ true ↦ [] | false ↦ b ∷ up_to ends bs ])
        (take (length {A = ℕ} (elim x as (λ y. List ℕ) [ true ↦ [] | false ↦ b ∷ up_to ends bs ])) (b ∷ bs))
    go rest true = refl
    go rest false = ap (λ (l : List ℕ). b ∷ l) rest

pub piece_slice : (separator : ℕ) (t : List ℕ) (p q : ℕ) → q ≡ p + length (piece_from separator t p)
    → piece_from separator t p ≡ take (q - p) (drop p t)
unfolding piece_from
piece_slice separator t p q e =
    let n : length (piece_from separator t p) ≡ q - p = omega arith in
    take_up (ends_piece separator) (drop p t) ∙ ap (λ (m : ℕ). take m (drop p t)) n
