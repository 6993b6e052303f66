-- The pieces of a whole line, from its start: a piece that the line feed ends is the last, and one that the separator ends is followed by the
-- pieces past it. Where the line ends, likewise. Assumes nothing.
use mathlib.Core.Path.{◌≡◌, refl, sym, ap, subst, ◌∙◌}
use mathlib.Core.Bool.{Bool, true, false, ◌||◌}
use mathlib.Core.List.{List, [], ◌∷◌}
use Prim.Native.Nat.{ℕ, suc, ◌+◌, ◌<◌}
use native.Mathlib.Omega.{arith}
use lib.Dec.{eqb}
use lib.ListN.{length, get_or, drop}
use lib.Seq.{get_or-drop, drop-drop}
use borrow.Author.Tests.{eq-eqb, eqb-true}
use Rattle.rules.specs.Text.{is_feed, has_feed, feed_follows}
use Rattle.rules.specs.Faults.{onto, pieces}
use Rattle.rules.specs.Tokens.{line_of}
use Rattle.text.proofs.Feeds.{feed_inside, feed_past}
use Rattle.tokens.specs.Pieces.{ends_piece, up_to, piece_from}

apart : {A : Type 0} → ◌≡◌ {A = ℕ} 0 1 → A
apart z = absurd (omega arith)

-- The byte that parts pieces.
abbrev pub parts : ℕ → ℕ → Bool
parts separator b = eqb b separator

module _ (separator : ℕ) where
  abbrev piece : List ℕ → List ℕ
  piece bs = up_to (ends_piece separator) bs

  abbrev all : List ℕ → List (List ℕ)
  all bs = pieces (parts separator) (line_of bs)

  -- A byte ends a piece as the separator, ends it as the line feed, or goes on.
  module _ (b : ℕ) (bs : List ℕ) where
    piece_stops : ends_piece separator b ≡ true → piece (b ∷ bs) ≡ []
    piece_stops e = ap (λ (y : Bool). elim y [ true ↦ [] | false ↦ b ∷ piece bs ]) e

    piece_goes : ends_piece separator b ≡ false → piece (b ∷ bs) ≡ b ∷ piece bs
    piece_goes e = ap (λ (y : Bool). elim y [ true ↦ [] | false ↦ b ∷ piece bs ]) e

    line_stops : is_feed b ≡ true → line_of (b ∷ bs) ≡ []
    line_stops e = ap (λ (y : Bool). elim y [ true ↦ [] | false ↦ b ∷ line_of bs ]) e

    line_goes : is_feed b ≡ false → line_of (b ∷ bs) ≡ b ∷ line_of bs
    line_goes e = ap (λ (y : Bool). elim y [ true ↦ [] | false ↦ b ∷ line_of bs ]) e

  by_either : (b : ℕ) (x y : Bool) → eqb b separator ≡ x → is_feed b ≡ y → ends_piece separator b ≡ (x || y)
  unfolding ends_piece
  by_either b x y e f = ap (λ (z : Bool). z || is_feed b) e ∙ ap (λ (z : Bool). x || z) f

  -- What a list is, whose first byte goes on.
  pieces_goes : (b : ℕ) (l : List ℕ) → eqb b separator ≡ false → pieces (parts separator) (b ∷ l) ≡ onto b (pieces (parts separator) l)
  pieces_goes b l e = ap (λ (y : Bool). elim y [ true ↦ [] ∷ pieces (parts separator) l | false ↦ onto b (pieces (parts separator) l) ]) e

  pieces_parts : (b : ℕ) (l : List ℕ) → eqb b separator ≡ true → pieces (parts separator) (b ∷ l) ≡ [] ∷ pieces (parts separator) l
  pieces_parts b l e = ap (λ (y : Bool). elim y [ true ↦ [] ∷ pieces (parts separator) l | false ↦ onto b (pieces (parts separator) l) ]) e

  abbrev Last : List ℕ → Type 0
  Last bs = (all bs ≡ piece bs ∷ []) × (length (line_of bs) ≡ length (piece bs))

  abbrev More : List ℕ → Type 0
  More bs =
      (all bs ≡ piece bs ∷ all (drop (suc (length (piece bs))) bs))
      × (length (line_of bs) ≡ suc (length (piece bs)) + length (line_of (drop (suc (length (piece bs))) bs)))

  module _ (n : separator ≡ 10 → ⊥) where
    last : (bs : List ℕ) → get_or bs (length (piece bs)) 0 ≡ 10 → Last bs
    unfolding is_feed
    last [] q = absurd (omega arith)
    last (b ∷ bs) q = go (λ r. last bs r) (eqb b separator) (is_feed b) refl refl
      where
        go : (get_or bs (length (piece bs)) 0 ≡ 10 → Last bs) → (x y : Bool) → eqb b separator ≡ x → is_feed b ≡ y → Last (b ∷ bs)
        go rest true y e f =
            let s = piece_stops b bs (by_either b true y e f) in
            let z : b ≡ 10 = sym (ap (λ (l : List ℕ). get_or (b ∷ bs) (length l) 0) s) ∙ q in
            absurd (n (sym (eqb-true b separator e) ∙ z))
        go rest false true e f =
            let s = piece_stops b bs (by_either b false true e f) in
            (ap (pieces (parts separator)) (line_stops b bs f) ∙ ap (λ (l : List ℕ). l ∷ []) (sym s), ap length (line_stops b bs f) ∙ sym (ap length s))
        go rest false false e f =
            let s = piece_goes b bs (by_either b false false e f) in
            let r = rest (sym (ap (λ (l : List ℕ). get_or (b ∷ bs) (length l) 0) s) ∙ q) in (
              ap (pieces (parts separator)) (line_goes b bs f) ∙ (pieces_goes b (line_of bs) e ∙ (ap (onto b) r.0 ∙ ap (λ (l : List ℕ). l ∷ []) (sym s))),
              ap length (line_goes b bs f) ∙ (ap suc r.1 ∙ sym (ap length s)),
            )

    more : (bs : List ℕ) → has_feed bs ≡ true → eqb (get_or bs (length (piece bs)) 0) separator ≡ true → More bs
    unfolding is_feed
    more [] h q = apart (cc)
    more (b ∷ bs) h q = go (λ g r. more bs g r) (eqb b separator) (is_feed b) refl refl
      where
        go : (has_feed bs ≡ true → eqb (get_or bs (length (piece bs)) 0) separator ≡ true → More bs) → (x y : Bool) → eqb b separator ≡ x → is_feed b ≡ y → More (b ∷ bs)
        go rest true true e f = absurd (n (sym (eqb-true b separator e) ∙ eqb-true b 10 f))
        go rest true false e f =
            let s = piece_stops b bs (by_either b true false e f) in
            let one : suc (length (line_of bs)) ≡ suc 0 + length (line_of bs) = omega arith in (
              ap (pieces (parts separator)) (line_goes b bs f)
                  ∙ (pieces_parts b (line_of bs) e ∙ ap (λ (l : List ℕ). l ∷ all (drop (suc (length l)) (b ∷ bs))) (sym s)),
              ap length (line_goes b bs f) ∙ (one ∙ ap (λ (l : List ℕ). suc (length l) + length (line_of (drop (suc (length l)) (b ∷ bs)))) (sym s)),
            )
        go rest false true e f =
            let s = piece_stops b bs (by_either b false true e f) in
            let z : eqb b separator ≡ true = sym (ap (λ (l : List ℕ). eqb (get_or (b ∷ bs) (length l) 0) separator) s) ∙ q in
            let w : ◌≡◌ {A = Bool} true false = sym z ∙ e in
            apart (cc)
        go rest false false e f =
            let s = piece_goes b bs (by_either b false false e f) in
            let g : has_feed bs ≡ true = sym (ap (λ (y : Bool). elim y as (λ z. Bool) [ true ↦ true | false ↦ has_feed bs ]) f) ∙ h in
            let r = rest g (sym (ap (λ (l : List ℕ). eqb (get_or (b ∷ bs) (length l) 0) separator) s) ∙ q) in
            let k = length (piece bs) in
            let j = length (line_of (drop (suc k) bs)) in
            let one : suc (suc k + j) ≡ suc (suc k) + j = omega arith in (
              ap (pieces (parts separator)) (line_goes b bs f)
                  ∙ (pieces_goes b (line_of bs) e
                  ∙ (ap (onto b) r.0 ∙ ap (λ (l : List ℕ). l ∷ all (drop (suc (length l)) (b ∷ bs))) (sym s))),
              ap length (line_goes b bs f) ∙ (ap suc r.1 ∙ (one ∙ ap (λ (l : List ℕ). suc (length l) + length (line_of (drop (suc (length l)) (b ∷ bs)))) (sym s))),
            )

-- ---- At a place of a text

-- Where the piece ends that starts here.
abbrev pub piece_end : ℕ → List ℕ → ℕ → ℕ
piece_end separator t p = p + length (piece_from separator t p)

-- Where the line ends, and its pieces from here on.
abbrev pub line_end : List ℕ → ℕ → ℕ
line_end t p = p + length (line_of (drop p t))

abbrev pub pieces_at : ℕ → List ℕ → ℕ → List (List ℕ)
pieces_at separator t p = pieces (parts separator) (line_of (drop p t))

-- No line feed is passed within a piece, and a byte that ends it stands at its end.
stop_inside : (separator : ℕ) (bs : List ℕ) → has_feed bs ≡ true
    → (has_feed (drop (length (up_to (ends_piece separator) bs)) bs) ≡ true) × (ends_piece separator (get_or bs (length (up_to (ends_piece separator) bs)) 0) ≡ true)
unfolding is_feed
stop_inside separator [] h = apart (cc)
stop_inside separator (b ∷ bs) h = go (λ g. stop_inside separator bs g) (eqb b separator) (is_feed b) refl refl
  where
    Stops : List ℕ → Type 0
    Stops l = (has_feed (drop (length l) (b ∷ bs)) ≡ true) × (ends_piece separator (get_or (b ∷ bs) (length l) 0) ≡ true)

    stop : ends_piece separator b ≡ true → Stops (up_to (ends_piece separator) (b ∷ bs))
    stop e = subst Stops (sym (piece_stops separator b bs e)) (h, e)

    go : (has_feed bs ≡ true → (has_feed (drop (length (up_to (ends_piece separator) bs)) bs) ≡ true) × (ends_piece separator (get_or bs (length (up_to (ends_piece separator) bs)) 0) ≡ true))
        → (x y : Bool) → eqb b separator ≡ x → is_feed b ≡ y → Stops (up_to (ends_piece separator) (b ∷ bs))
    go rest true y e f = stop (by_either separator b true y e f)
    go rest false true e f = stop (by_either separator b false true e f)
    go rest false false e f =
        let g : has_feed bs ≡ true = sym (ap (λ (y : Bool). elim y as (λ z. Bool) [ true ↦ true | false ↦ has_feed bs ]) f) ∙ h in
        subst Stops (sym (piece_goes separator b bs (by_either separator b false false e f))) (rest g)

module _ (separator : ℕ) (t : List ℕ) (p : ℕ) (f : feed_follows t p ≡ true) where
  pub end_feeds : feed_follows t (piece_end separator t p) ≡ true
  unfolding feed_follows piece_from
  end_feeds =
      ap has_feed (sym (drop-drop (length (piece_from separator t p)) p t)) ∙ (stop_inside separator (drop p t) f).0

  pub end_stops : ends_piece separator (get_or t (piece_end separator t p) 0) ≡ true
  unfolding feed_follows piece_from
  end_stops =
      ap (ends_piece separator) (sym (get_or-drop p t (length (piece_from separator t p)) 0)) ∙ (stop_inside separator (drop p t) f).1

  pub end_inside : piece_end separator t p < length t
  end_inside = feed_inside t (piece_end separator t p) end_feeds

  module _ (n : separator ≡ 10 → ⊥) where
    -- The line feed ends it: it is the line's last piece, and the line ends here.
    pub line_last : get_or t (piece_end separator t p) 0 ≡ 10
        → (pieces_at separator t p ≡ piece_from separator t p ∷ []) × (line_end t p ≡ piece_end separator t p)
    unfolding piece_from
    line_last q =
        let r = last separator n (drop p t) (get_or-drop p t (length (piece_from separator t p)) 0 ∙ q) in
        (r.0, ap (λ (m : ℕ). p + m) r.1)

    -- The separator ends it: the pieces past it follow, and the line ends where it ends from there.
    pub line_more : get_or t (piece_end separator t p) 0 ≡ separator
        → (pieces_at separator t p ≡ piece_from separator t p ∷ pieces_at separator t (piece_end separator t p + 1))
        × (line_end t p ≡ line_end t (piece_end separator t p + 1))
        × (feed_follows t (piece_end separator t p + 1) ≡ true)
    unfolding feed_follows piece_from
    line_more q =
        let m = length (piece_from separator t p) in
        let r = more separator n (drop p t) f (ap (λ (b : ℕ). eqb b separator) (get_or-drop p t m 0) ∙ eq-eqb (get_or t (p + m) 0) separator q) in
        let same : p + suc m ≡ p + m + 1 = omega arith in
        let past : drop (suc m) (drop p t) ≡ drop (p + m + 1) t = drop-drop (suc m) p t ∙ ap (λ (i : ℕ). drop i t) same in
        let rest = length (line_of (drop (p + m + 1) t)) in
        let there : p + (suc m + rest) ≡ p + m + 1 + rest = omega arith in (
          r.0 ∙ ap (λ (l : List ℕ). piece_from separator t p ∷ pieces (parts separator) (line_of l)) past,
          ap (λ (i : ℕ). p + i) (r.1 ∙ ap (λ (l : List ℕ). suc m + length (line_of l)) past) ∙ there,
          feed_past t (p + m) end_feeds (λ z. n (sym q ∙ z)),
        )
