-- The claimed tree and its lines. The lines of a tree that fits are read back as that tree with the paths of its subtrees; and lines that fit
-- are those of a tree that fits.
use mathlib.Core.Path.{◌≡◌, refl, sym, ◌∙◌, ap, subst}
use mathlib.Core.List.{List, [], ◌∷◌, ◌++◌, map, map-append, append_assoc, append-nil, head-eq_of_cons-eq, tail-eq_of_cons-eq, nil≢cons}
use mathlib.Core.List.Memᴰ.{append_cases as in-cases}
use mathlib.Core.List.Memᴰ.{cases_cons}
use mathlib.Core.List.Memᴰ.{eq_of_singleton as in-single}
use mathlib.Core.List.Memᴰ.{head as here}
use mathlib.Core.List.Memᴰ.{not-nil}
use mathlib.Core.List.Memᴰ.{of_map}
use mathlib.Core.List.Memᴰ.{tail as there}
use mathlib.Core.List.{Memᴰ as Mem, map-map}
use mathlib.Core.Logic.{◌≢◌, ⊎_elim}
use Prim.Native.Nat.{ℕ, suc, ◌≤◌}
use native.Mathlib.Omega.{arith}
use native.Mathlib.Nat.{le_refl}
use Rattle.rules.specs.Case.{method_at, NodeLine, D, E, L, Case}
use Rattle.rules.specs.Tree.{Tree, leaf, empty, task, Trees, no_tree, more, preorder, preorders, root_line}
use Rattle.rules.specs.Rules.{FitsTask, FitsTasks}
use Rattle.rules.specs.Rewriting.{TaskPath, Occurrence, subtasks_of, subtasks_after}
use Rattle.rules.proofs.Rewritings.Statement.{line_names}
use Rattle.rules.proofs.Rewritings.Records.{Named}
use Rattle.rules.proofs.Rewritings.Lines.{waiting, FitLines}

abbrev pub Node : Type 0
Node = TaskPath × Tree

-- Below subtask j.
abbrev pub below : {A : Type 0} → ℕ → List (TaskPath × A) → List (TaskPath × A)
below j l = map (λ x. (j ∷ x.0, x.1)) l

-- The subtrees in preorder, each with the path from the root to it.
unfoldable mutual
  pub nodes : Tree → List Node
  nodes (leaf a i) = ([], leaf a i) ∷ []
  nodes (empty m g) = ([], empty m g) ∷ []
  nodes (task m ts) = ([], task m ts) ∷ nodes_from 0 ts

  -- Of subtasks, from number j on.
  pub nodes_from : ℕ → Trees → List Node
  nodes_from j no_tree = []
  nodes_from j (more t ts) = below j (nodes t) ++ nodes_from (suc j) ts

-- Their lines, with the paths that they have under q.
abbrev pub lines_at : TaskPath → List Node → List Named
lines_at q l = map (λ (x : Node). (q ++ x.0, root_line x.1)) l

pub below_from : {A : Type 0} (j : ℕ) (l : List (TaskPath × A)) (x : TaskPath × A) → Mem x (below j l) → (y : TaskPath × A) × Mem y l × (◌≡◌ {A = TaskPath × A} (j ∷ y.0, y.1) x)
below_from {A} j l x h = of_map {B = TaskPath × A} (λ (y : TaskPath × A). (j ∷ y.0, y.1)) l h

below_path : {A : Type 0} (j : ℕ) (l : List (TaskPath × A)) (x : TaskPath × A) → Mem x (below j l) → (r : TaskPath) × (x.0 ≡ j ∷ r)
below_path {A} j l x h = let (y, _, e) = below_from j l x h in (y.0, ap (λ (z : TaskPath × A). z.0) (sym e))

pub from_path : (j : ℕ) (ts : Trees) (x : Node) → Mem x (nodes_from j ts) → (i : ℕ) × (r : TaskPath) × (x.0 ≡ i ∷ r) × (j ≤ i)
unfolding nodes_from
from_path j no_tree x h = absurd (not-nil h)
from_path j (more t ts) x h =
    ⊎_elim (λ k. let (r, e) = below_path j (nodes t) x k in (j, r, e, le_refl j)) (λ k. let (i, r, e, b) = from_path (suc j) ts x k in (i, r, e, omega arith))
    (in-cases (below j (nodes t)) h)

-- ---- A path names one subtree

abbrev pub Distinct : {A : Type 0} → List (TaskPath × A) → Type 0
Distinct [] = Unit {0}
Distinct {A} (x ∷ l) = ((y : TaskPath × A) → Mem y l → y.0 ≢ x.0) × Distinct l

pub distinct_eq : {A : Type 0} (l : List (TaskPath × A)) (x y : TaskPath × A) → Distinct l → Mem x l → Mem y l → x.0 ≡ y.0 → x ≡ y
distinct_eq [] x y d h k e = absurd (not-nil h)
distinct_eq (z ∷ l) x y d (here p) (here p') e = p ∙ sym p'
distinct_eq {A} (z ∷ l) x y d (here p) (there k) e = absurd (d.0 y k (sym e ∙ ap (λ (w : TaskPath × A). w.0) p))
distinct_eq {A} (z ∷ l) x y d (there h) (here p') e = absurd (d.0 x h (e ∙ ap (λ (w : TaskPath × A). w.0) p'))
distinct_eq (z ∷ l) x y d (there h) (there k) e = distinct_eq l x y d.1 h k e

pub distinct_append : {A : Type 0} (k l : List (TaskPath × A)) → Distinct k → Distinct l → ((x y : TaskPath × A) → Mem x k → Mem y l → y.0 ≢ x.0) → Distinct (k ++ l)
distinct_append [] l d d' f = d'
distinct_append (x ∷ k) l d d' f = (λ y h. ⊎_elim (d.0 y) (f x y (here refl)) (in-cases k h), distinct_append k l d.1 d' (λ y z h h'. f y z (there h) h'))

distinct_map : {A B : Type 0} (f : TaskPath × A → TaskPath × B) → ((x y : TaskPath × A) → (f x).0 ≡ (f y).0 → x.0 ≡ y.0) → (l : List (TaskPath × A)) → Distinct l → Distinct (map f l)
distinct_map f inj [] d = tt
distinct_map {A} {B} f inj (x ∷ l) d = (other, distinct_map f inj l d.1)
  where
    other : (y : TaskPath × B) → Mem y (map f l) → y.0 ≢ (f x).0
    other y h p = let (z, i, e) = of_map f l h in d.0 z i (inj z x (ap (λ (w : TaskPath × B). w.0) e ∙ p))

below_apart : (j : ℕ) (l : List Node) (ts : Trees) (x y : Node) → Mem x (below j l) → Mem y (nodes_from (suc j) ts) → y.0 ≢ x.0
below_apart j l ts x y h h' e =
    let (r, p) = below_path j l x h in
    let (i, r', p', b) = from_path (suc j) ts y h' in
    let z : i ≡ j = head-eq_of_cons-eq (sym p' ∙ e ∙ p) in
    omega arith

mutual
  unfolding nodes

  distinct_nodes : (t : Tree) → Distinct (nodes t)
  distinct_nodes (leaf a i) = (λ y h. absurd (not-nil h), tt)
  distinct_nodes (empty m g) = (λ y h. absurd (not-nil h), tt)
  distinct_nodes (task m ts) = (λ y h e. let (i, r, p, _) = from_path 0 ts y h in nil≢cons (sym e ∙ p), distinct_from 0 ts)

  distinct_from : (j : ℕ) (ts : Trees) → Distinct (nodes_from j ts)
  distinct_from j no_tree = tt
  distinct_from j (more t ts) =
      distinct_append (below j (nodes t)) (nodes_from (suc j) ts)
      (distinct_map {B = Tree} (λ x. (j ∷ x.0, x.1)) (λ x y e. tail-eq_of_cons-eq e) (nodes t) (distinct_nodes t)) (distinct_from (suc j) ts)
      (below_apart j (nodes t) ts)

pub distinct_lines : (t : Tree) → Distinct (lines_at [] (nodes t))
distinct_lines t = distinct_map {B = NodeLine} (λ x. (x.0, root_line x.1)) (λ x y e. e) (nodes t) (distinct_nodes t)

-- ---- The subtrees

abbrev tree_of : Node → Tree
tree_of x = x.1

mutual
  unfolding nodes preorder

  pub nodes_preorder : (t : Tree) → map tree_of (nodes t) ≡ preorder t
  nodes_preorder (leaf a i) = refl
  nodes_preorder (empty m g) = refl
  nodes_preorder (task m ts) = ap (λ l. task m ts ∷ l) (from_preorders 0 ts)

  from_preorders : (j : ℕ) (ts : Trees) → map tree_of (nodes_from j ts) ≡ preorders ts
  from_preorders j no_tree = refl
  from_preorders j (more t ts) =
      map-append tree_of (below j (nodes t)) (nodes_from (suc j) ts) ∙ ap (λ l. l ++ map tree_of (nodes_from (suc j) ts)) (map-map tree_of (λ x. (j ∷ x.0, x.1)) (nodes t) ∙ nodes_preorder t)
      ∙ ap (λ l. preorder t ++ l) (from_preorders (suc j) ts)

lines_below : (q : TaskPath) (j : ℕ) (l : List Node) → lines_at (q ++ (j ∷ [])) l ≡ lines_at q (below j l)
lines_below q j [] = refl
lines_below q j (x ∷ l) = ap {B = List Named} (λ p. (p, root_line x.1) ∷ lines_at (q ++ (j ∷ [])) l) (append_assoc q (j ∷ []) x.0) ∙ ap (λ z. (q ++ (j ∷ x.0), root_line x.1) ∷ z) (lines_below q j l)

abbrev task_of : Occurrence → ℕ
task_of o = o.1

subtask_tasks : (q : TaskPath) (j : ℕ) (ts : List ℕ) (os : List Occurrence) → map task_of (subtasks_of q j ts ++ os) ≡ ts ++ map task_of os
unfolding subtasks_of
subtask_tasks q j [] os = refl
subtask_tasks q j (t ∷ ts) os = ap (λ l. t ∷ l) (subtask_tasks q (suc j) ts os)

module _ (k : Case) where
  -- Each subtree fits some task.
  mutual
    unfolding nodes FitsTask

    pub fits_node : (t : Tree) (u : ℕ) (x : Node) → FitsTask k t u → Mem x (nodes t) → (v : ℕ) × FitsTask k x.1 v
    fits_node (leaf a i) u x f h = (u, subst (λ (y : Node). FitsTask k y.1 u) (sym (in-single h)) f)
    fits_node (empty m g) u x f h = (u, subst (λ (y : Node). FitsTask k y.1 u) (sym (in-single h)) f)
    fits_node (task m ts) u x f h =
        ⊎_elim (λ e. (u, subst (λ (y : Node). FitsTask k y.1 u) (sym e) f)) (λ i. fits_from 0 ts (method_at k.methods m).subtasks x f.1 i) (cases_cons h)

    fits_from : (j : ℕ) (ts : Trees) (us : List ℕ) (x : Node) → FitsTasks k ts us → Mem x (nodes_from j ts) → (v : ℕ) × FitsTask k x.1 v
    fits_from j no_tree us x f h = absurd (not-nil h)
    fits_from j (more t ts) [] x f h = absurd f
    fits_from j (more t ts) (u ∷ us) x f h =
        ⊎_elim (λ i. let (y, i', e) = below_from j (nodes t) x i in
        let (v, g) = fits_node t u y f.0 i' in
        (v, subst (λ (z : Node). FitsTask k z.1 v) e g))
        (λ i. fits_from (suc j) ts us x f.1 i)
        (in-cases (below j (nodes t)) h)

  -- ---- Lines and trees

  mutual
    unfolding FitsTask preorder root_line subtasks_of subtasks_after

    pub tree_fit : (x : Tree) (o : Occurrence) (ls : List NodeLine) (os : List Occurrence) → FitsTask k x o.1 → FitLines k ls os → FitLines k (map root_line (preorder x) ++ ls) (o ∷ os)
    tree_fit (leaf a i) o ls os f g = (f, g)
    tree_fit (empty m i) o ls os f g = (f, g)
    tree_fit (task m ts) o ls os f g = (f.0, trees_fit ts o.0 0 (method_at k.methods m).subtasks ls os f.1 g)

    trees_fit : (xs : Trees) (q : TaskPath) (j : ℕ) (ts : List ℕ) (ls : List NodeLine) (os : List Occurrence) → FitsTasks k xs ts → FitLines k ls os
        → FitLines k (map root_line (preorders xs) ++ ls) (subtasks_of q j ts ++ os)
    trees_fit no_tree q j [] ls os f g = g
    trees_fit no_tree q j (t ∷ ts) ls os f g = absurd f
    trees_fit (more x xs) q j [] ls os f g = absurd f
    trees_fit (more x xs) q j (t ∷ ts) ls os f g =
        rw (map-append, append_assoc) (tree_fit x (q ++ (j ∷ []), t) (map root_line (preorders xs) ++ ls) (subtasks_of q (suc j) ts ++ os) f.0 (trees_fit xs q (suc j) ts ls os f.1 g))

  mutual
    unfolding line_names FitsTask nodes preorder root_line subtasks_of subtasks_after

    pub named_tree : (x : Tree) (o : Occurrence) (ls : List NodeLine) (os : List Occurrence) → FitsTask k x o.1
        → line_names k (map root_line (preorder x) ++ ls) (o ∷ os) ≡ lines_at o.0 (nodes x) ++ line_names k ls os
    named_tree (leaf a i) o ls os f = ap (λ q. (q, L a i) ∷ line_names k ls os) (sym (append-nil o.0))
    named_tree (empty m g) o ls os f = ap (λ q. (q, E m g) ∷ line_names k ls os) (sym (append-nil o.0))
    named_tree (task m ts) o ls os f =
        ap (λ l. (o.0, D m) ∷ l) (named_trees ts o.0 0 (method_at k.methods m).subtasks ls os f.1)
        ∙ ap (λ q. (q, D m) ∷ (lines_at o.0 (nodes_from 0 ts) ++ line_names k ls os)) (sym (append-nil o.0))

    named_trees : (xs : Trees) (q : TaskPath) (j : ℕ) (ts : List ℕ) (ls : List NodeLine) (os : List Occurrence) → FitsTasks k xs ts
        → line_names k (map root_line (preorders xs) ++ ls) (subtasks_of q j ts ++ os) ≡ lines_at q (nodes_from j xs) ++ line_names k ls os
    named_trees no_tree q j [] ls os f = refl
    named_trees no_tree q j (t ∷ ts) ls os f = absurd f
    named_trees (more x xs) q j [] ls os f = absurd f
    named_trees (more x xs) q j (t ∷ ts) ls os f =
        rw (map-append root_line, append_assoc, map-append, append_assoc, ← lines_below q j (nodes x))
        (named_tree x (q ++ (j ∷ []), t) (map root_line (preorders xs) ++ ls) (subtasks_of q (suc j) ts ++ os) f.0
        ∙ ap (λ l. lines_at (q ++ (j ∷ [])) (nodes x) ++ l) (named_trees xs q (suc j) ts ls os f.1))

  -- Trees for two lists of tasks, parted.
  part_trees : (ts us : List ℕ) (x : Trees) → FitsTasks k x (ts ++ us)
      → (y : Trees) × (z : Trees) × (preorders x ≡ preorders y ++ preorders z) × FitsTasks k y ts × FitsTasks k z us
  unfolding preorders FitsTasks
  part_trees [] us x f = (no_tree, x, refl, tt, f)
  part_trees (t ∷ ts) us no_tree f = absurd f
  part_trees (t ∷ ts) us (more w x) f =
      let (y, z, e, g, h) = part_trees ts us x f.1 in
      (more w y, z, ap (λ l. preorder w ++ l) e ∙ sym (append_assoc (preorder w) (preorders y) (preorders z)), (f.0, g), h)

  -- Lines that fit are those of trees that fit.
  fit_trees : (ls : List NodeLine) (os : List Occurrence) → FitLines k ls os → (x : Trees) × (map root_line (preorders x) ≡ ls) × FitsTasks k x (map task_of os)
  unfolding preorders FitsTasks root_line subtasks_after subtasks_of
  fit_trees [] [] f = (no_tree, refl, tt)
  fit_trees [] (o ∷ os) f = absurd f
  fit_trees (l ∷ ls) [] f = absurd f
  fit_trees (D m ∷ ls) (o ∷ os) f =
      let (x, e, g) = fit_trees ls (waiting k (D m) o os) f.1 in
      let (y, z, e', h, i) = part_trees (method_at k.methods m).subtasks (map task_of os) x (subst (λ us. FitsTasks k x us) (subtask_tasks o.0 0 (method_at k.methods m).subtasks os) g) in
      (more (task m y) z, ap (λ l. D m ∷ l) (ap (map root_line) (sym e') ∙ e), ((f.0, h), i))
  fit_trees (E m g ∷ ls) (o ∷ os) f = let (x, e, h) = fit_trees ls os f.1 in (more (empty m g) x, ap (λ l. E m g ∷ l) e, (f.0, h))
  fit_trees (L a i ∷ ls) (o ∷ os) f = let (x, e, h) = fit_trees ls os f.1 in (more (leaf a i) x, ap (λ l. L a i ∷ l) e, (f.0, h))

  one_tree : (t : ℕ) (x : Trees) → FitsTasks k x (t ∷ []) → (y : Tree) × (preorder y ≡ preorders x) × FitsTask k y t
  unfolding preorders FitsTasks
  one_tree t no_tree f = absurd f
  one_tree t (more y no_tree) f = (y, sym (append-nil (preorder y)), f.0)
  one_tree t (more y (more z x)) f = absurd f.1

  pub fit_tree : (ls : List NodeLine) (o : Occurrence) → FitLines k ls (o ∷ []) → (x : Tree) × (map root_line (preorder x) ≡ ls) × FitsTask k x o.1
  fit_tree ls o f =
      let (x, e, g) = fit_trees ls (o ∷ []) f in
      let (y, e', h) = one_tree o.1 x g in
      (y, ap (map root_line) e' ∙ e, h)
