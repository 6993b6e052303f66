-- The rows of a tree in preorder: each subtree's row stands at its root's number, and the siblings are found by the numbers of the nodes
-- after them. By recursion on the tree. Assumes nothing.
use mathlib.Core.Path.{◌≡◌, refl, sym, ap, ap₂, subst, ◌∙◌}
use mathlib.Core.List.{List, [], ◌∷◌, ◌++◌, map, append_assoc, append-nil}
use Prim.Native.Nat.{ℕ, zero, suc, ◌+◌, ◌*◌, ◌≤◌, ◌<◌}
use native.Mathlib.Omega.{arith}
use lib.ListN.{length, get_or, length-append, get_or-append}
use lib.Seq.{get_or-append-add}
use Rattle.rules.specs.Index.{Span}
use Rattle.rules.specs.Tree.{Tree, leaf, empty, task, Trees, no_tree, more, preorder, preorders, span, spans, subtask_spans}
use Rattle.rules.proofs.Judgement.Each.{Each, each_nil, each_cons}
use Rattle.tree.specs.Layout.{rows_from, size, sizes, rows, rows_all}
use Rattle.parts.specs.Spans.{row_span, node_after, RowInside, siblings}

-- ---- how many rows there are

mutual
  unfolding rows size

  pub rows_length : (t : Tree) (n : ℕ) → length (rows t n) ≡ 3 * size t
  rows_length (leaf a i) n = refl
  rows_length (empty m g) n = refl
  rows_length (task m ts) n = let e = rows_all_length ts (n + 1) in omega arith

  rows_all_length : (ts : Trees) (n : ℕ) → length (rows_all ts n) ≡ 3 * sizes ts
  rows_all_length no_tree n = refl
  rows_all_length (more t ts) n =
      let e = rows_length t n in let f = rows_all_length ts (n + size t) in omega (arith, length-append (rows t n) (rows_all ts (n + size t)))

mutual
  unfolding preorder size

  pub preorder_length : (t : Tree) → length (preorder t) ≡ size t
  preorder_length (leaf a i) = refl
  preorder_length (empty m g) = refl
  preorder_length (task m ts) = let e = preorders_length ts in omega arith

  preorders_length : (ts : Trees) → length (preorders ts) ≡ sizes ts
  preorders_length no_tree = refl
  preorders_length (more t ts) =
      let e = preorder_length t in let f = preorders_length ts in omega (arith, length-append (preorder t) (preorders ts))

-- ---- which rows they are

-- The row of node n.
pub record RowIs (work : List ℕ) (n : ℕ) (s : Span) (after : ℕ) : Type 0 where
  pub inside : RowInside work n
  pub spanned : row_span work n ≡ s
  pub follows : node_after work n ≡ after

-- The rows of a tree whose root is node n.
abbrev mutual
  pub Held : List ℕ → Tree → ℕ → Type 0
  Held work (leaf a i) n = RowIs work n (span (leaf a i)) (n + 1)
  Held work (empty m g) n = RowIs work n (span (empty m g)) (n + 1)
  Held work (task m ts) n = RowIs work n (span (task m ts)) (n + 1 + sizes ts) × HeldAll work ts (n + 1)

  pub HeldAll : List ℕ → Trees → ℕ → Type 0
  HeldAll work no_tree n = Unit {0}
  HeldAll work (more t ts) n = Held work t n × HeldAll work ts (n + size t)

-- The work space holds a list of numbers from the row of node n on.
abbrev pub Holds : List ℕ → ℕ → List ℕ → Type 0
Holds work n l = ((i : ℕ) → i < length l → get_or work (rows_from + (3 * n + i)) 0 ≡ get_or l i 0) × (rows_from + (3 * n + length l) ≤ length work)

holds_left : (work : List ℕ) (n : ℕ) (l r : List ℕ) → Holds work n (l ++ r) → Holds work n l
holds_left work n l r h = (
  λ i b. h.0 i (omega (arith, length-append l r)) ∙ get_or-append l r 0 i b,
  omega (arith, length-append l r, h.1),
)

holds_right : (work : List ℕ) (n m : ℕ) (l r : List ℕ) → length l ≡ 3 * m → Holds work n (l ++ r) → Holds work (n + m) r
holds_right work n m l r e h = (
  λ i b.
      let same : rows_from + (3 * (n + m) + i) ≡ rows_from + (3 * n + (length l + i)) = omega arith in
      ap (λ (k : ℕ). get_or work k 0) same ∙ h.0 (length l + i) (omega (arith, length-append l r)) ∙ get_or-append-add l r i 0,
  omega (arith, length-append l r, h.1),
)

row_is : (work : List ℕ) (n : ℕ) (s : Span) (after : ℕ) (rest : List ℕ) → Holds work n (s.start ∷ s.end ∷ after ∷ rest) → RowIs work n s after
unfolding row_span node_after RowInside
row_is work n s after rest h =
    let first : rows_from + 3 * n ≡ rows_from + (3 * n + 0) = omega arith in
    let second : rows_from + 3 * n + 1 ≡ rows_from + (3 * n + 1) = omega arith in
    let third : rows_from + 3 * n + 2 ≡ rows_from + (3 * n + 2) = omega arith in
    let a : get_or work (rows_from + 3 * n) 0 ≡ s.start = ap (λ (k : ℕ). get_or work k 0) first ∙ h.0 0 (omega arith) in
    let b : get_or work (rows_from + 3 * n + 1) 0 ≡ s.end = ap (λ (k : ℕ). get_or work k 0) second ∙ h.0 1 (omega arith) in
    record {
      inside = omega (arith, h.1);
      spanned = λ j. record { start = a j; end = b j };
      follows = ap (λ (k : ℕ). get_or work k 0) third ∙ h.0 2 (omega arith);
    }

mutual
  unfolding rows size

  pub held : (work : List ℕ) (t : Tree) (n : ℕ) → Holds work n (rows t n) → Held work t n
  held work (leaf a i) n h = row_is work n (span (leaf a i)) (n + 1) [] h
  held work (empty m g) n h = row_is work n (span (empty m g)) (n + 1) [] h
  held work (task m ts) n h = (
    row_is work n (span (task m ts)) (n + 1 + sizes ts) (rows_all ts (n + 1)) h,
    held_all work ts (n + 1)
        (holds_right work n 1 ((span (task m ts)).start ∷ (span (task m ts)).end ∷ (n + 1 + sizes ts) ∷ []) (rows_all ts (n + 1)) refl h),
  )

  held_all : (work : List ℕ) (ts : Trees) (n : ℕ) → Holds work n (rows_all ts n) → HeldAll work ts n
  held_all work no_tree n h = tt
  held_all work (more t ts) n h = (
    held work t n (holds_left work n (rows t n) (rows_all ts (n + size t)) h),
    held_all work ts (n + size t) (holds_right work n (size t) (rows t n) (rows_all ts (n + size t)) (rows_length t n) h),
  )

-- ---- in preorder

abbrev pub HeldEach : List ℕ → List Tree → ℕ → Type 0
HeldEach work [] n = Unit {0}
HeldEach work (x ∷ xs) n = Held work x n × HeldEach work xs (n + 1)

mutual
  unfolding preorder size

  held_preorder : (work : List ℕ) (t : Tree) (n : ℕ) (rest : List Tree) → Held work t n → HeldEach work rest (n + size t)
      → HeldEach work (preorder t ++ rest) n
  held_preorder work (leaf a i) n rest h r = (h, r)
  held_preorder work (empty m g) n rest h r = (h, r)
  held_preorder work (task m ts) n rest h r =
      let same : n + (1 + sizes ts) ≡ n + 1 + sizes ts = omega arith in
      (h, held_preorders work ts (n + 1) rest h.1 (subst (HeldEach work rest) same r))

  held_preorders : (work : List ℕ) (ts : Trees) (n : ℕ) (rest : List Tree) → HeldAll work ts n → HeldEach work rest (n + sizes ts)
      → HeldEach work (preorders ts ++ rest) n
  held_preorders work no_tree n rest h r = let same : n + 0 ≡ n = omega arith in subst (HeldEach work rest) same r
  held_preorders work (more t ts) n rest h r =
      let same : n + (size t + sizes ts) ≡ n + size t + sizes ts = omega arith in
      subst (λ (l : List Tree). HeldEach work l n) (sym (append_assoc (preorder t) (preorders ts) rest))
      (held_preorder work t n (preorders ts ++ rest) h.0
      (held_preorders work ts (n + size t) rest h.1 (subst (HeldEach work rest) same r)))

held_at : (work : List ℕ) (xs : List Tree) (n j : ℕ) (d : Tree) → HeldEach work xs n → j < length xs → Held work (get_or xs j d) (n + j)
held_at work [] n j d h b = absurd (omega arith)
held_at work (x ∷ xs) n zero d h b = let same : n ≡ n + 0 = omega arith in subst (Held work x) same h.0
held_at work (x ∷ xs) n (suc j) d h b =
    let same : n + 1 + j ≡ n + suc j = omega arith in subst (Held work (get_or xs j d)) same (held_at work xs (n + 1) j d h.1 (omega arith))

-- The row of the j-th tree in preorder is that of node j.
pub held_node : (work : List ℕ) (t : Tree) (j : ℕ) (d : Tree) → Held work t 0 → j < length (preorder t) → Held work (get_or (preorder t) j d) j
held_node work t j d h b =
    let same : 0 + j ≡ j = omega arith in
    subst (Held work (get_or (preorder t) j d)) same
    (held_at work (preorder t) 0 j d (subst (λ (l : List Tree). HeldEach work l 0) (append-nil (preorder t)) (held_preorder work t 0 [] h tt)) b)

-- ---- the subtasks of a node

pub root_row : (work : List ℕ) (t : Tree) (n : ℕ) → Held work t n → RowIs work n (span t) (n + size t)
unfolding size
root_row work (leaf a i) n h = h
root_row work (empty m g) n h = h
root_row work (task m ts) n h =
    let same : n + 1 + sizes ts ≡ n + (1 + sizes ts) = omega arith in subst (RowIs work n (span (task m ts))) same h.0

abbrev pub subtrees_of : Tree → Trees
subtrees_of (leaf a i) = no_tree
subtrees_of (empty m g) = no_tree
subtrees_of (task m ts) = ts

pub held_subtrees : (work : List ℕ) (t : Tree) (n : ℕ) → Held work t n → HeldAll work (subtrees_of t) (n + 1)
held_subtrees work (leaf a i) n h = tt
held_subtrees work (empty m g) n h = tt
held_subtrees work (task m ts) n h = h.1

pub subtrees_spans : (t : Tree) → spans (subtrees_of t) ≡ subtask_spans t
unfolding spans subtask_spans
subtrees_spans (leaf a i) = refl
subtrees_spans (empty m g) = refl
subtrees_spans (task m ts) = refl

abbrev pub count_of : Trees → ℕ
count_of no_tree = 0
count_of (more t ts) = suc (count_of ts)

pub spans_length : (ts : Trees) → length (spans ts) ≡ count_of ts
unfolding spans
spans_length no_tree = refl
spans_length (more t ts) = ap suc (spans_length ts)

module _ (work : List ℕ) where
  next_siblings : (t : Tree) (n count : ℕ) → Held work t n → siblings work (node_after work n) count ≡ siblings work (n + size t) count
  next_siblings t n count h = ap (λ (m : ℕ). siblings work m count) (root_row work t n h).follows

  pub siblings_spans : (ts : Trees) (n : ℕ) → HeldAll work ts n → map (row_span work) (siblings work n (count_of ts)) ≡ spans ts
  unfolding spans
  siblings_spans no_tree n h = refl
  siblings_spans (more t ts) n h =
      ap₂ (λ (s : Span) (l : List Span). s ∷ l) (root_row work t n h.0).spanned
      (ap (map (row_span work)) (next_siblings t n (count_of ts) h.0) ∙ siblings_spans ts (n + size t) h.1)

  pub siblings_inside : (ts : Trees) (n : ℕ) → HeldAll work ts n → Each (RowInside work) (siblings work n (count_of ts))
  siblings_inside no_tree n h = each_nil (RowInside work)
  siblings_inside (more t ts) n h =
      each_cons (RowInside work) n (siblings work (node_after work n) (count_of ts)) (root_row work t n h.0).inside
      (subst (λ (l : List ℕ). Each (RowInside work) l) (sym (next_siblings t n (count_of ts) h.0)) (siblings_inside ts (n + size t) h.1))
