-- Stores between the directory and the rows leave both; the subtasks' nodes stand first in their places. Assumes nothing.
use mathlib.Core.Path.{◌≡◌, refl, ap, ◌∙◌, fun_ext}
use mathlib.Core.List.{List, [], ◌∷◌, ◌++◌, append_assoc}
use Prim.Native.Nat.{ℕ, zero, suc, ◌+◌, ◌-◌, ◌*◌, ◌≤◌}
use native.Mathlib.Omega.{arith}
use lib.ListN.{length, get_or, take, drop, set}
use lib.Seq.{sets, length-sets, sets-eq, get_or-set_other, take-set-le, take-set-lt, drop-set-lt, take-append-add, drop_at, length-take-le}
use Rattle.tree.specs.Layout.{marks_from, subtasks_from, subtasks_past, rows_from, rows_past}
use Rattle.parts.specs.Spans.{row_span, node_after, siblings, nodes_in}
use Rattle.constraints.specs.Ready.{Leaves}

pub siblings_length : (work : List ℕ) (n count : ℕ) → length (siblings work n count) ≡ count
siblings_length work n zero = refl
siblings_length work n (suc count) = ap suc (siblings_length work (node_after work n) count)

pub sets_past : (l : List ℕ) (i : ℕ) (vs : List ℕ) (j : ℕ) → i + length vs ≤ j → get_or (sets l i vs) j 0 ≡ get_or l j 0
sets_past l i [] j h = refl
sets_past l i (v ∷ vs) j h = sets_past (set l i v) (suc i) vs j (omega arith) ∙ get_or-set_other l i j v 0 (λ e. omega arith)

take_sets : (n : ℕ) (l : List ℕ) (i : ℕ) (vs : List ℕ) → n ≤ i → take n (sets l i vs) ≡ take n l
take_sets n l i [] h = refl
take_sets n l i (v ∷ vs) h = take_sets n (set l i v) (suc i) vs (omega arith) ∙ take-set-le n l i v h

slice_sets : (a b : ℕ) (l : List ℕ) (i : ℕ) (vs : List ℕ) → i + length vs ≤ a → a ≤ b → drop a (take b (sets l i vs)) ≡ drop a (take b l)
slice_sets a b l i [] h le = refl
slice_sets a b l i (v ∷ vs) h le =
    slice_sets a b (set l i v) (suc i) vs (omega arith) le
    ∙ ap (drop a) (take-set-lt b l i v (omega arith)) ∙ drop-set-lt a (take b l) i v (omega arith)

-- ---- what is left as it was

pub leaves_all : (work : List ℕ) → Leaves work work
leaves_all work = record { same_size = refl; directory = refl; rows = refl }

pub leaves_then : {a b c : List ℕ} → Leaves a b → Leaves b c → Leaves a c
leaves_then p q = record {
  same_size = q.same_size ∙ p.same_size;
  directory = q.directory ∙ p.directory;
  rows = q.rows ∙ p.rows;
}

-- Stores between the directory and the rows.
pub leaves_sets : (work : List ℕ) (i : ℕ) (vs : List ℕ) → marks_from ≤ i → i + length vs ≤ rows_from → Leaves work (sets work i vs)
unfolding rows_from rows_past
leaves_sets work i vs a b = record {
  same_size = length-sets work i vs;
  directory = take_sets marks_from work i vs a;
  rows = slice_sets rows_from rows_past work i vs b (omega arith);
}

-- ---- the subtasks' nodes

module _ (work ns : List ℕ) (few : length ns ≤ 32) where
  abbrev pub stored : List ℕ
  stored = sets work subtasks_from ns

  pub leaves_stored : Leaves work stored
  unfolding marks_from subtasks_from rows_from
  leaves_stored = leaves_sets work subtasks_from ns (omega arith) (omega arith)

  pub rows_stored : row_span stored ≡ row_span work
  unfolding row_span subtasks_from rows_from
  rows_stored = fun_ext (λ n.
      let a = sets_past work subtasks_from ns (rows_from + 3 * n) (omega arith) in
      let b = sets_past work subtasks_from ns (rows_from + 3 * n + 1) (omega arith) in
      λ j. record { start = a j; end = b j })

  pub nodes_stored : subtasks_past ≤ length work → nodes_in stored ≡ ns ++ take (32 - length ns) (drop (subtasks_from + length ns) work)
  unfolding nodes_in subtasks_from subtasks_past
  nodes_stored room =
      let before : length (take subtasks_from work) ≡ subtasks_from = length-take-le subtasks_from work (omega arith) in
      let after : List ℕ = drop (subtasks_from + length ns) work in
      let all : subtasks_past ≡ length (take subtasks_from work) + 32 = omega arith in
      let some : 32 ≡ length ns + (32 - length ns) = omega arith in
      ap (λ (l : List ℕ). drop subtasks_from (take subtasks_past l)) (sets-eq ns work subtasks_from (omega arith) ∙ append_assoc (take subtasks_from work) ns after)
      ∙ ap (λ (m : ℕ). drop subtasks_from (take m (take subtasks_from work ++ (ns ++ after)))) all
      ∙ ap (drop subtasks_from) (take-append-add (take subtasks_from work) (ns ++ after) 32)
      ∙ drop_at (take subtasks_from work) (take 32 (ns ++ after)) subtasks_from before
      ∙ ap (λ (m : ℕ). take m (ns ++ after)) some
      ∙ take-append-add ns after (32 - length ns)
