-- The areas of the work space after a run of stores, and the sizes of a tree's rows. Assumes nothing.
use mathlib.Core.Path.{◌≡◌, refl, sym, ap, ◌∙◌}
use mathlib.Core.List.{List, [], ◌∷◌, ◌++◌}
use Prim.Native.Nat.{ℕ, zero, suc, ◌+◌, ◌*◌, ◌≤◌, ◌<◌}
use native.Mathlib.Nat.{add-suc, suc-add, zero-add}
use native.Mathlib.Numerals.{add-one, add-two}
use native.Mathlib.Omega.{arith}
use lib.ListN.{length, get_or, take, drop, set, length-append}
use lib.Seq.{sets, slice, sets-eq, take-nil, take-append_seam, set_comm, take-set-le, take-set-lt, drop-set-lt, drop-set-add, get_or-take, get_or-drop}
use Rattle.rules.specs.Index.{Span}
use Rattle.rules.specs.Tree.{Tree, leaf, empty, task, Trees, no_tree, more}
use Rattle.tree.specs.Layout.{rows_from, marks_from, size, sizes, row, rows, rows_all, directory_of, marks_in}
use Rattle.tree.specs.Standing.{put_row}

-- ---- Runs of stores

set_before : (vs l : List ℕ) (i j v : ℕ) → j < i → set (sets l i vs) j v ≡ sets (set l j v) i vs
set_before [] l i j v h = refl
set_before (x ∷ vs) l i j v h =
    set_before vs (set l i x) (suc i) j v (omega arith) ∙ ap (λ (k : List ℕ). sets k (suc i) vs) (set_comm l i j x v (omega arith))

-- A row before the rows of the nodes after it.
pub in_front : (vs l : List ℕ) (n : ℕ) (s : Span) (after : ℕ)
    → sets (sets l (3 * (n + 1)) vs) (3 * n) (row s after) ≡ sets l (3 * n) (row s after ++ vs)
in_front vs l n s after =
    let e : 3 * (n + 1) ≡ suc (suc (suc (3 * n))) = omega arith in
    let i : ℕ = suc (suc (suc (3 * n))) in
    rw e
    (ap (λ (k : List ℕ). set (set k (suc (3 * n)) s.end) (suc (suc (3 * n))) after) (set_before vs l i (3 * n) s.start (omega arith))
    ∙ ap (λ (k : List ℕ). set k (suc (suc (3 * n))) after) (set_before vs (set l (3 * n) s.start) i (suc (3 * n)) s.end (omega arith))
    ∙ set_before vs (set (set l (3 * n) s.start) (suc (3 * n)) s.end) i (suc (suc (3 * n))) after (omega arith))

pub three_stores : (w : List ℕ) (i a b c : ℕ) → set (set (set w i a) (i + 1) b) (i + 2) c ≡ sets w i (a ∷ b ∷ c ∷ [])
three_stores w i a b c = rw (add-one i, add-two i)

pub drop_sets : (m : ℕ) (w : List ℕ) (i : ℕ) (vs : List ℕ) → drop m (sets w (m + i) vs) ≡ sets (drop m w) i vs
drop_sets m w i [] = refl
drop_sets m w i (v ∷ vs) =
    ap (λ (j : ℕ). drop m (sets (set w (m + i) v) j vs)) (sym (add-suc m i))
    ∙ drop_sets m (set w (m + i) v) (suc i) vs
    ∙ ap (λ (l : List ℕ). sets l (suc i) vs) (drop-set-add m w i v)

take_sets : (m : ℕ) (w : List ℕ) (i : ℕ) (vs : List ℕ) → m ≤ i → take m (sets w i vs) ≡ take m w
take_sets m w i [] h = refl
take_sets m w i (v ∷ vs) h = take_sets m (set w i v) (suc i) vs (omega arith) ∙ take-set-le m w i v h

-- A part of a list that ends before the stores keeps what it has.
pub slice_sets_after : (f t : ℕ) (w : List ℕ) (i : ℕ) (vs : List ℕ) → t ≤ i → slice f t (sets w i vs) ≡ slice f t w
slice_sets_after f t w i vs h = ap (drop f) (take_sets t w i vs h)

pub slice_set_in : (f t : ℕ) (w : List ℕ) (i v : ℕ) → f + i < t → slice f t (set w (f + i) v) ≡ set (slice f t w) i v
slice_set_in f t w i v h = ap (drop f) (take-set-lt t w (f + i) v h) ∙ drop-set-add f (take t w) i v

pub slice_at : (f t : ℕ) (w : List ℕ) (i : ℕ) → f + i < t → get_or w (f + i) 0 ≡ get_or (slice f t w) i 0
slice_at f t w i h = sym (get_or-drop f (take t w) i 0 ∙ get_or-take t w (f + i) 0 h)

pub drop_take : (a c : ℕ) (l : List ℕ) → drop a (take (a + c) l) ≡ take c (drop a l)
drop_take zero c l = ap (λ (x : ℕ). take x l) (zero-add c)
drop_take (suc a) c [] = ap (drop (suc a)) (take-nil (suc a + c)) ∙ sym (take-nil c)
drop_take (suc a) c (x ∷ l) = ap (λ (y : ℕ). drop (suc a) (take y (x ∷ l))) (suc-add a c) ∙ drop_take a c l

-- What is stored at the front stands there.
pub take_sets_all : (vs l : List ℕ) → length vs ≤ length l → take (length vs) (sets l 0 vs) ≡ vs
take_sets_all vs l h =
    ap (take (length vs)) (sets-eq vs l 0 (omega arith)) ∙ take-append_seam vs (drop (0 + length vs) l)

-- ---- A node's row

module _ (n : ℕ) (s : Span) (after : ℕ) (w : List ℕ) where
  pub row_rows : drop rows_from (put_row n s after w) ≡ sets (drop rows_from w) (3 * n) (row s after)
  unfolding put_row
  row_rows = drop_sets rows_from w (3 * n) (row s after)

  row_slice : (f t : ℕ) → t ≤ rows_from → slice f t (put_row n s after w) ≡ slice f t w
  unfolding put_row
  row_slice f t h = slice_sets_after f t w (rows_from + 3 * n) (row s after) (omega arith)

  pub row_directory : directory_of (put_row n s after w) ≡ directory_of w
  unfolding marks_from rows_from
  row_directory = row_slice 0 marks_from (omega arith)

  pub row_marks : (k : ℕ) → k ≤ 1000 → marks_in k (put_row n s after w) ≡ marks_in k w
  unfolding marks_from rows_from
  row_marks k h = row_slice marks_from (marks_from + k) (omega arith)

-- ---- A mark

module _ (w : List ℕ) (i v : ℕ) where
  pub mark_rows : i < 1000 → drop rows_from (set w (marks_from + i) v) ≡ drop rows_from w
  unfolding marks_from rows_from
  mark_rows h = drop-set-lt rows_from w (marks_from + i) v (omega arith)

  pub mark_directory : directory_of (set w (marks_from + i) v) ≡ directory_of w
  unfolding marks_from
  mark_directory = take-set-le marks_from w (marks_from + i) v (omega arith)

  pub mark_marks : (k : ℕ) → i < k → marks_in k (set w (marks_from + i) v) ≡ set (marks_in k w) i v
  mark_marks k h = slice_set_in marks_from (marks_from + k) w i v (omega arith)

-- ---- How many numbers a tree's rows are

mutual
  unfolding rows rows_all size sizes

  pub length_rows : (t : Tree) (n : ℕ) → length (rows t n) ≡ 3 * size t
  length_rows (leaf a i) n = refl
  length_rows (empty m g) n = refl
  length_rows (task m ts) n = omega (arith, length_rows_all ts (n + 1))

  pub length_rows_all : (ts : Trees) (n : ℕ) → length (rows_all ts n) ≡ 3 * sizes ts
  length_rows_all no_tree n = refl
  length_rows_all (more t ts) n = omega (arith, length-append (rows t n) (rows_all ts (n + size t)), length_rows t n, length_rows_all ts (n + size t))
