-- Stores to the columns: each changes its own record, or the span of its own node, and nothing else that is read. Assumes nothing.
use mathlib.Core.Path.{◌≡◌, refl, sym, subst, ◌∙◌}
use mathlib.Core.Logic.{inl, inr}
use mathlib.Core.List.{List, [], ◌∷◌, ◌++◌}
use Prim.Native.Nat.{ℕ, zero, suc, ◌+◌, ◌*◌, ◌≤◌, ◌<◌}
use native.Mathlib.Nat.{eq-or-lt_of_le}
use native.Mathlib.Omega.{arith}
use lib.ListN.{length, get_or, set, length-set}
use lib.Seq.{get_or-set_same, get_or-set_other}
use Rattle.rules.specs.declared.Node.{Node}
use Rattle.rules.specs.Index.{Span}
use Rattle.tree.specs.Layout.{rows_from}
use Rattle.parts.specs.Spans.{row_span}
use Rattle.records.specs.Records.{starts_from, ends_from, letters_from, labels_from, places_from, record_at, up_to, column_span}

pub up_to_same : {A : Type 0} (f g : ℕ → A) (n : ℕ) → ((j : ℕ) → j < n → f j ≡ g j) → up_to f n ≡ up_to g n
up_to_same f g zero h = refl
up_to_same f g (suc n) h = λ j. up_to_same f g n (λ k l. h k (omega arith)) j ++ (h n (omega arith) j ∷ [])

-- ---- Heads

abbrev pub node_with : ℕ → ℕ → ℕ → Span → Node
node_with code label place s = record { letter = code; label = label; place = place; start = s.start; end = s.end }

-- The work space with the head of node i stored.
abbrev pub head_put : List ℕ → ℕ → ℕ → ℕ → ℕ → List ℕ
head_put w i a b c = set (set (set w (letters_from + i) a) (labels_from + i) b) (places_from + i) c

-- Only heads are stored: below them nothing has changed.
pub record HeadsOnly (start work : List ℕ) : Type 0 where
  pub size : length work ≡ length start
  pub kept : (k : ℕ) → k < letters_from → get_or work k 0 ≡ get_or start k 0

module _ (w : List ℕ) (i a b c : ℕ) where
  head_other : (k : ℕ) → (k ≡ letters_from + i → ⊥) → (k ≡ labels_from + i → ⊥) → (k ≡ places_from + i → ⊥) → get_or (head_put w i a b c) k 0 ≡ get_or w k 0
  head_other k x y z =
      get_or-set_other (set (set w (letters_from + i) a) (labels_from + i) b) (places_from + i) k c 0 z
      ∙ get_or-set_other (set w (letters_from + i) a) (labels_from + i) k b 0 y
      ∙ get_or-set_other w (letters_from + i) k a 0 x

  head_below : (k : ℕ) → k < letters_from → get_or (head_put w i a b c) k 0 ≡ get_or w k 0
  head_below k l = head_other k (λ e. omega arith) (λ e. omega arith) (λ e. omega arith)

  pub heads_on : (start : List ℕ) → HeadsOnly start w → HeadsOnly start (head_put w i a b c)
  heads_on start h = record { size = simp length-set h.size; kept = λ k l. head_below k l ∙ h.kept k l }

  module _ (few : i < 3000) where
    pub head_before : (j : ℕ) → j < i → record_at (head_put w i a b c) j ≡ record_at w j
    unfolding record_at
    head_before j l =
        λ z. record {
          letter = head_other (letters_from + j) (λ e. omega arith) (λ e. omega arith) (λ e. omega arith) z;
          label = head_other (labels_from + j) (λ e. omega arith) (λ e. omega arith) (λ e. omega arith) z;
          place = head_other (places_from + j) (λ e. omega arith) (λ e. omega arith) (λ e. omega arith) z;
          start = head_below (starts_from + j) (omega arith) z;
          end = head_below (ends_from + j) (omega arith) z;
        }

    pub head_here : 16384 ≤ length w → record_at (head_put w i a b c) i ≡ node_with a b c (column_span w i)
    unfolding record_at
    head_here room =
        let one = set w (letters_from + i) a in
        let two = set one (labels_from + i) b in
        let letter : get_or (head_put w i a b c) (letters_from + i) 0 ≡ a =
        get_or-set_other two (places_from + i) (letters_from + i) c 0 (λ e. omega arith)
        ∙ get_or-set_other one (labels_from + i) (letters_from + i) b 0 (λ e. omega arith)
        ∙ get_or-set_same w (letters_from + i) a 0 (omega arith) in
        let label : get_or (head_put w i a b c) (labels_from + i) 0 ≡ b =
        get_or-set_other two (places_from + i) (labels_from + i) c 0 (λ e. omega arith) ∙ get_or-set_same one (labels_from + i) b 0 (simp length-set (omega arith)) in
        let place : get_or (head_put w i a b c) (places_from + i) 0 ≡ c = get_or-set_same two (places_from + i) c 0 (simp length-set (omega arith)) in
        λ z. record {
          letter = letter z;
          label = label z;
          place = place z;
          start = head_below (starts_from + i) (omega arith) z;
          end = head_below (ends_from + i) (omega arith) z;
        }

-- ---- Spans

-- The work space with the span of node i stored.
abbrev pub span_put : List ℕ → ℕ → ℕ → ℕ → List ℕ
span_put w i a b = set (set w (starts_from + i) a) (ends_from + i) b

-- The spans below node i are out of their rows, and the rows stand as they did.
pub record SpansOut (start work : List ℕ) (i : ℕ) : Type 0 where
  pub size : length work ≡ length start
  pub out : (j : ℕ) → j < i → column_span work j ≡ row_span start j
  pub kept : (k : ℕ) → rows_from ≤ k → get_or work k 0 ≡ get_or start k 0

module _ (w : List ℕ) (i a b : ℕ) where
  span_other : (k : ℕ) → (k ≡ starts_from + i → ⊥) → (k ≡ ends_from + i → ⊥) → get_or (span_put w i a b) k 0 ≡ get_or w k 0
  span_other k x y = get_or-set_other (set w (starts_from + i) a) (ends_from + i) k b 0 y ∙ get_or-set_other w (starts_from + i) k a 0 x

pub spans_on : (start w : List ℕ) (i : ℕ) → SpansOut start w i → i < 3000 → 16384 ≤ length start
    → SpansOut start (span_put w i (get_or w (rows_from + 3 * i) 0) (get_or (set w (starts_from + i) (get_or w (rows_from + 3 * i) 0)) (rows_from + 3 * i + 1) 0)) (i + 1)
unfolding rows_from row_span
spans_on start w i s few room =
    let a = get_or w (rows_from + 3 * i) 0 in
    let b = get_or (set w (starts_from + i) a) (rows_from + 3 * i + 1) 0 in
    let size = s.size in
    let first : get_or (span_put w i a b) (starts_from + i) 0 ≡ get_or start (rows_from + 3 * i) 0 =
    get_or-set_other (set w (starts_from + i) a) (ends_from + i) (starts_from + i) b 0 (λ e. omega arith)
    ∙ get_or-set_same w (starts_from + i) a 0 (omega arith)
    ∙ s.kept (rows_from + 3 * i) (omega arith) in
    let last : get_or (span_put w i a b) (ends_from + i) 0 ≡ get_or start (rows_from + 3 * i + 1) 0 =
    get_or-set_same (set w (starts_from + i) a) (ends_from + i) b 0 (simp length-set (omega arith))
    ∙ get_or-set_other w (starts_from + i) (rows_from + 3 * i + 1) a 0 (λ e. omega arith)
    ∙ s.kept (rows_from + 3 * i + 1) (omega arith) in
    record {
      size = simp length-set s.size;
      out = λ j l. elim (eq-or-lt_of_le {n = j} {m = i} (omega arith)) [
        | inl e ↦ subst (λ (k : ℕ). column_span (span_put w i a b) k ≡ row_span start k) (sym e) (λ z. record { start = first z; end = last z })
        | inr before ↦ (λ z. record {
          start = span_other w i a b (starts_from + j) (λ e. omega arith) (λ e. omega arith) z;
          end = span_other w i a b (ends_from + j) (λ e. omega arith) (λ e. omega arith) z;
        }) ∙ s.out j before
      ];
      kept = λ k l. span_other w i a b k (λ e. omega arith) (λ e. omega arith) ∙ s.kept k l;
    }
