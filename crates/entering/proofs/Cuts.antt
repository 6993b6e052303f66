-- The nodes of a tree in preorder: from a node's line on come the lines of its subtree; and with other gaps it is a tree whose first empty task
-- takes the gap after those of the lines before it. Assumes nothing.
use mathlib.Core.Path.{◌≡◌, refl, sym, ap, ap₂, subst, ◌∙◌}
use mathlib.Core.List.{List, [], ◌∷◌, ◌++◌, map, map-append, append_assoc, append-nil}
use mathlib.Core.List.{Memᴰ as Mem}
use Prim.Native.Nat.{ℕ, zero, suc, ◌+◌, ◌<◌}
use native.Mathlib.Omega.{arith}
use lib.ListN.{length, get_or, take, drop}
use Rattle.rules.specs.Case.{NodeLine, Case}
use Rattle.rules.specs.Fields.{line_fields, lines_fields, node_line}
use Rattle.rules.specs.Tree.{Tree, leaf, empty, task, Trees, no_tree, more, preorder, preorders, root_line}
use Rattle.rules.specs.Constraint.{constraints_of}
use Rattle.rules.specs.Gaps.{empty_count}
use Rattle.rules.proofs.Judgement.Each.{each_at}
use Rattle.rules.proofs.Judgement.Preorder.{lines_of}
use Rattle.rules.proofs.Gaps.Trees.{empties_in, regapped, regapped_all, empty_append, empties_lines}
use Rattle.tree.specs.Layout.{size}
use Rattle.constraints.specs.Ready.{node_of_tree}
use Rattle.constraints.proofs.Held.{preorder_length}

map_take : {A B : Type 0} (f : A → B) (n : ℕ) (l : List A) → map f (take n l) ≡ take n (map f l)
map_take f zero l = refl
map_take f (suc n) [] = refl
map_take {B = B} f (suc n) (x ∷ l) = ap (λ (r : List B). f x ∷ r) (map_take f n l)

map_drop : {A B : Type 0} (f : A → B) (n : ℕ) (l : List A) → map f (drop n l) ≡ drop n (map f l)
map_drop f zero l = refl
map_drop f (suc n) [] = refl
map_drop f (suc n) (x ∷ l) = map_drop f n l

-- The fields of lines in two lots.
pub lines_join : (xs ys : List NodeLine) → lines_fields (map node_line (xs ++ ys)) ≡ lines_fields (map node_line xs) ++ lines_fields (map node_line ys)
lines_join [] ys = refl
lines_join (x ∷ xs) ys =
    ap (λ (l : List ℕ). line_fields (node_line x) ++ l) (lines_join xs ys)
    ∙ sym (append_assoc (line_fields (node_line x)) (lines_fields (map node_line xs)) (lines_fields (map node_line ys)))

-- ---- A node with other gaps

-- The trees of a preorder, each with its first gap.
abbrev regapped_each : List ℕ → ℕ → List Tree → List Tree
regapped_each gs a [] = []
regapped_each gs a (x ∷ xs) = regapped gs a x ∷ regapped_each gs (a + empty_count (root_line x ∷ [])) xs

one_more : (a : ℕ) (x : Tree) (xs : List Tree)
    → a + empty_count (root_line x ∷ []) + empty_count (map root_line xs) ≡ a + empty_count (map root_line (x ∷ xs))
one_more a x xs = let e = empty_append (root_line x ∷ []) (map root_line xs) in omega arith

module _ (gs : List ℕ) where
  each_append : (a : ℕ) (xs ys : List Tree)
      → regapped_each gs a (xs ++ ys) ≡ regapped_each gs a xs ++ regapped_each gs (a + empty_count (map root_line xs)) ys
  each_append a [] ys = let e : a ≡ a + 0 = omega arith in ap (λ (n : ℕ). regapped_each gs n ys) e
  each_append a (x ∷ xs) ys =
      let b : ℕ = a + empty_count (root_line x ∷ []) in
      ap (λ (l : List Tree). regapped gs a x ∷ l)
      (each_append b xs ys ∙ ap (λ (n : ℕ). regapped_each gs b xs ++ regapped_each gs n ys) (one_more a x xs))

  each_get : (a : ℕ) (xs : List Tree) (n : ℕ) (d : Tree) → n < length xs
      → get_or (regapped_each gs a xs) n d ≡ regapped gs (a + empty_count (map root_line (take n xs))) (get_or xs n d)
  each_get a [] n d h = absurd (omega arith)
  each_get a (x ∷ xs) zero d h = let e : a ≡ a + 0 = omega arith in ap (λ (m : ℕ). regapped gs m x) e
  each_get a (x ∷ xs) (suc n) d h =
      each_get (a + empty_count (root_line x ∷ [])) xs n d (omega arith)
      ∙ ap (λ (m : ℕ). regapped gs m (get_or xs n d)) (one_more a x (take n xs))

  each_length : (a : ℕ) (xs : List Tree) → length (regapped_each gs a xs) ≡ length xs
  each_length a [] = refl
  each_length a (x ∷ xs) = ap suc (each_length (a + empty_count (root_line x ∷ [])) xs)

  mutual
    unfolding preorder regapped root_line

    preorder_with : (a : ℕ) (x : Tree) → preorder (regapped gs a x) ≡ regapped_each gs a (preorder x)
    preorder_with a (leaf x i) = refl
    preorder_with a (empty m g) = refl
    preorder_with a (task m xs) =
        let e : a ≡ a + 0 = omega arith in
        ap (λ (l : List Tree). task m (regapped_all gs a xs) ∷ l)
        (preorders_with a xs ∙ ap (λ (n : ℕ). regapped_each gs n (preorders xs)) e)

    preorders_with : (a : ℕ) (xs : Trees) → preorders (regapped_all gs a xs) ≡ regapped_each gs a (preorders xs)
    preorders_with a no_tree = refl
    preorders_with a (more x xs) =
        ap₂ ◌++◌ (preorder_with a x)
        (preorders_with (a + empties_in x) xs ∙ ap (λ (n : ℕ). regapped_each gs (a + n) (preorders xs)) (sym (empties_lines x)))
        ∙ sym (each_append a (preorder x) (preorders xs))

  -- Node n of the tree with other gaps.
  pub node_with_lem : (t : Tree) (n : ℕ) → n < size t
      → Mem (regapped gs (empty_count (take n (lines_of t))) (node_of_tree t n)) (preorder (regapped gs 0 t))
  unfolding node_of_tree
  node_with_lem t n h =
      let xs : List Tree = preorder t in
      let below : n < length xs = omega (arith, preorder_length t) in
      let there : n < length (regapped_each gs 0 xs) = omega (arith, each_length 0 xs) in
      let from : 0 + empty_count (map root_line (take n xs)) ≡ empty_count (take n (lines_of t)) = omega (arith, ap empty_count (map_take root_line n xs)) in
      subst (λ (l : List Tree). Mem (regapped gs (empty_count (take n (lines_of t))) (get_or xs n (leaf 0 0))) l) (sym (preorder_with 0 t))
      (subst (λ (y : Tree). Mem y (regapped_each gs 0 xs))
      (each_get 0 xs n (leaf 0 0) below ∙ ap (λ (m : ℕ). regapped gs m (get_or xs n (leaf 0 0))) from)
      (each_at (λ y. Mem y (regapped_each gs 0 xs)) (regapped_each gs 0 xs) n (leaf 0 0) (λ y m. m) there))

-- Its constraints go by no gap.
pub constraints_with : (k : Case) (gs : List ℕ) (a : ℕ) (x : Tree) → constraints_of k (regapped gs a x) ≡ constraints_of k x
unfolding constraints_of regapped
constraints_with k gs a (leaf x i) = refl
constraints_with k gs a (empty m g) = refl
constraints_with k gs a (task m xs) = refl

-- ---- The lines of a node

-- From each tree of a list on come the trees of its preorder.
abbrev Nested : List Tree → Type 0
Nested [] = Unit {0}
Nested (x ∷ xs) = ((rest : List Tree) × (x ∷ xs ≡ preorder x ++ rest)) × Nested xs

mutual
  unfolding preorder

  nested : (x : Tree) (rest : List Tree) → Nested rest → Nested (preorder x ++ rest)
  nested (leaf x i) rest r = ((rest, refl), r)
  nested (empty m g) rest r = ((rest, refl), r)
  nested (task m xs) rest r = ((rest, refl), nesteds xs rest r)

  nesteds : (xs : Trees) (rest : List Tree) → Nested rest → Nested (preorders xs ++ rest)
  nesteds no_tree rest r = r
  nesteds (more x xs) rest r =
      subst Nested (sym (append_assoc (preorder x) (preorders xs) rest)) (nested x (preorders xs ++ rest) (nesteds xs rest r))

nested_at : (xs : List Tree) (n : ℕ) (d : Tree) → Nested xs → n < length xs → (rest : List Tree) × (drop n xs ≡ preorder (get_or xs n d) ++ rest)
nested_at [] n d w h = absurd (omega arith)
nested_at (x ∷ xs) zero d w h = w.0
nested_at (x ∷ xs) (suc n) d w h = nested_at xs n d w.1 (omega arith)

-- From node n's line on come those of its subtree.
pub node_lines : (t : Tree) (n : ℕ) → n < size t → (rest : List NodeLine) × (drop n (lines_of t) ≡ lines_of (node_of_tree t n) ++ rest)
unfolding node_of_tree
node_lines t n h =
    let all : Nested (preorder t) = subst Nested (append-nil (preorder t)) (nested t [] tt) in
    let cut = nested_at (preorder t) n (leaf 0 0) all (omega (arith, preorder_length t)) in (
      map root_line cut.0,
      sym (map_drop root_line n (preorder t)) ∙ ap (map root_line) cut.1 ∙ map-append root_line (preorder (get_or (preorder t) n (leaf 0 0))) cut.0,
    )
