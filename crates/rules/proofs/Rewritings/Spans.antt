-- Spans. The indexes claimed at or below a path are those of the subtree there, part by part; and the extreme of a task's indexes is that of
-- its subtasks' extremes, since each subtask has an index: so the spans by path are those of the rules.
use mathlib.Core.Path.{◌≡◌, refl, sym, ◌∙◌, ap, subst, fun_ext}
use mathlib.Core.List.{List, [], ◌∷◌, ◌++◌, map, flatten, append_assoc, append-nil}
use mathlib.Core.List.Memᴰ.{append_cases as in-cases}
use mathlib.Core.List.Memᴰ.{append_left as in_left}
use mathlib.Core.List.Memᴰ.{cases_cons}
use mathlib.Core.List.Memᴰ.{eq_of_singleton as in-single}
use mathlib.Core.List.Memᴰ.{head as here}
use mathlib.Core.List.Memᴰ.{not-nil}
use mathlib.Core.List.{Memᴰ as Mem}
use mathlib.Core.Logic.{◌≢◌, ⊎_elim}
use mathlib.Core.Bool.{Bool, true, false, cond, ◌&&◌}
use Prim.Native.Nat.{ℕ, suc, ◌<◌}
use native.Mathlib.Omega.{arith}
use lib.Dec.{eqb}
use Rattle.rules.specs.Index.{Span, at, of_cue, of_gap, least, greatest, hull, Part, whole, those, pick, span_of_part}
use Rattle.rules.specs.Case.{method_at, D, Case}
use Rattle.rules.specs.Tree.{Tree, leaf, empty, task, Trees, no_tree, more, root_line, span, spans, subtask_spans}
use Rattle.rules.specs.Constraint.{parts_of}
use Rattle.rules.specs.Rules.{Fits, FitsTask, FitsTasks}
use Rattle.rules.specs.Rewriting.{TaskPath, Place, cue, gap, place_of, places_of, index_of, is_in_part, indexes_in, span_in}
use Rattle.rules.proofs.Rewritings.Lists.{eqb_reflects, sure_reflects, never_reflects, mem_cond}
use Rattle.rules.proofs.Rewritings.Trees.{Node, below, nodes, nodes_from, lines_at, below_from, from_path, fits_node}
use Rattle.rules.proofs.Rewritings.Extremes.{Extreme, Filled, best_flatten, least_extreme, greatest_extreme}

-- ---- The indexes of nodes by path

-- The index of a leaf or an empty task.
abbrev own_indexes : Tree → List ℕ
own_indexes t = map index_of (place_of (root_line t))

-- The indexes claimed by nodes in a part of q.
abbrev indexes_at : List Node → TaskPath → Part → List ℕ
indexes_at [] q part = []
indexes_at (x ∷ l) q part = cond (is_in_part q part x.0) (own_indexes x.1) [] ++ indexes_at l q part

cond_none : (b : Bool) → cond {A = List ℕ} b [] [] ≡ []
cond_none true = refl
cond_none false = refl

cond_one : (b : Bool) (x : ℕ) (l r : List ℕ) → cond b (x ∷ []) [] ++ (cond b l [] ++ r) ≡ cond b (x ∷ l) [] ++ r
cond_one true x l r = refl
cond_one false x l r = refl

places_indexes : (r : TaskPath) (ps : List Place) (l : List (TaskPath × Place)) (q : TaskPath) (part : Part)
    → indexes_in (map (λ p. (r, p)) ps ++ l) q part ≡ cond (is_in_part q part r) (map index_of ps) [] ++ indexes_in l q part
unfolding indexes_in
places_indexes r [] l q part = ap (λ z. z ++ indexes_in l q part) (sym (cond_none (is_in_part q part r)))
places_indexes r (p ∷ ps) l q part =
    ap (λ z. cond (is_in_part q part r) (index_of p ∷ []) [] ++ z) (places_indexes r ps l q part) ∙ cond_one (is_in_part q part r) (index_of p) (map index_of ps) (indexes_in l q part)

lines_indexes : (l : List Node) (q : TaskPath) (part : Part) → indexes_in (places_of (lines_at [] l)) q part ≡ indexes_at l q part
unfolding indexes_in places_of
lines_indexes [] q part = refl
lines_indexes (x ∷ l) q part =
    places_indexes x.0 (place_of (root_line x.1)) (places_of (lines_at [] l)) q part
    ∙ ap (λ z. cond (is_in_part q part x.0) (own_indexes x.1) [] ++ z) (lines_indexes l q part)

at_append : (k l : List Node) (q : TaskPath) (part : Part) → indexes_at (k ++ l) q part ≡ indexes_at k q part ++ indexes_at l q part
at_append [] l q part = refl
at_append (x ∷ k) l q part = rw (at_append k l q part, append_assoc)

cond_and : (b c : Bool) (l r : List ℕ) → cond (b && c) l [] ++ cond b r [] ≡ cond b (cond c l [] ++ r) []
cond_and true c l r = refl
cond_and false c l r = refl

cond_append : (b : Bool) (l r : List ℕ) → cond b l [] ++ cond b r [] ≡ cond b (l ++ r) []
cond_append true l r = refl
cond_append false l r = refl

-- Nodes below subtask j, from a path into subtask i.
at_below : (j : ℕ) (l : List Node) (i : ℕ) (q : TaskPath) (part : Part) → indexes_at (below j l) (i ∷ q) part ≡ cond (eqb i j) (indexes_at l q part) []
unfolding is_in_part
at_below j [] i q part = sym (cond_none (eqb i j))
at_below j (x ∷ l) i q part = rw (at_below j l i q part) (cond_and (eqb i j) (is_in_part q part x.0) (own_indexes x.1) (indexes_at l q part))

at_below_same : (j : ℕ) (l : List Node) (q : TaskPath) (part : Part) → indexes_at (below j l) (j ∷ q) part ≡ indexes_at l q part
at_below_same j l q part = at_below j l j q part ∙ ap (λ b. cond b (indexes_at l q part) []) (sure_reflects (eqb_reflects j j) refl)

at_below_other : (j : ℕ) (l : List Node) (i : ℕ) (q : TaskPath) (part : Part) → i ≢ j → indexes_at (below j l) (i ∷ q) part ≡ []
at_below_other j l i q part n = at_below j l i q part ∙ ap (λ b. cond b (indexes_at l q part) []) (never_reflects (eqb_reflects i j) n)

-- From the path of the task itself, some of its subtasks or the whole.
at_below_members : (j : ℕ) (l : List Node) (b : ℕ → Bool) → indexes_at (below j l) [] (those b) ≡ cond (b j) (indexes_at l [] whole) []
unfolding is_in_part
at_below_members j [] b = sym (cond_none (b j))
at_below_members j (x ∷ l) b = rw (at_below_members j l b) (cond_append (b j) (own_indexes x.1) (indexes_at l [] whole))

at_below_whole : (j : ℕ) (l : List Node) → indexes_at (below j l) [] whole ≡ indexes_at l [] whole
unfolding is_in_part
at_below_whole j [] = refl
at_below_whole j (x ∷ l) = ap (λ z. own_indexes x.1 ++ z) (at_below_whole j l)

-- Nothing of later subtasks.
at_from_none : (j : ℕ) (ts : Trees) (i : ℕ) (q : TaskPath) (part : Part) → i < j → indexes_at (nodes_from j ts) (i ∷ q) part ≡ []
unfolding nodes_from
at_from_none j no_tree i q part b = refl
at_from_none j (more t ts) i q part b =
    at_append (below j (nodes t)) (nodes_from (suc j) ts) (i ∷ q) part
    ∙ ap (λ z. z ++ indexes_at (nodes_from (suc j) ts) (i ∷ q) part) (at_below_other j (nodes t) i q part (omega arith)) ∙ at_from_none (suc j) ts i q part (omega arith)

abbrev Found : Tree → Part → Node → Type 0
Found t part x = indexes_at (nodes t) x.0 part ≡ indexes_at (nodes x.1) [] part

-- What is claimed in a part of a subtree's path is claimed in that part of the subtree.
mutual
  unfolding nodes root_line place_of

  at_node : (t : Tree) (part : Part) (x : Node) → Mem x (nodes t) → Found t part x
  at_node (leaf a i) part x h = subst (Found (leaf a i) part) (sym (in-single h)) refl
  at_node (empty m g) part x h = subst (Found (empty m g) part) (sym (in-single h)) refl
  at_node (task m ts) part x h =
      ⊎_elim (λ e. subst (Found (task m ts) part) (sym e) refl)
      (λ i. ap (λ z. z ++ indexes_at (nodes_from 0 ts) x.0 part) (cond_none (is_in_part x.0 part [])) ∙ at_from 0 ts part x i) (cases_cons h)

  at_from : (j : ℕ) (ts : Trees) (part : Part) (x : Node) → Mem x (nodes_from j ts) → indexes_at (nodes_from j ts) x.0 part ≡ indexes_at (nodes x.1) [] part
  at_from j no_tree part x h = absurd (not-nil h)
  at_from j (more t ts) part x h =
      at_append (below j (nodes t)) (nodes_from (suc j) ts) x.0 part
      ∙ ⊎_elim
      (λ i. let (y, i', e) = below_from j (nodes t) x i in
      subst (λ (z : Node). indexes_at (below j (nodes t)) z.0 part ++ indexes_at (nodes_from (suc j) ts) z.0 part ≡ indexes_at (nodes z.1) [] part) e
      (rw (at_below_same j (nodes t) y.0 part, at_from_none (suc j) ts j y.0 part (omega arith), append-nil) (at_node t part y i')))
      (λ i. let (n, r, e, b) = from_path (suc j) ts x i in
      ap (λ z. z ++ indexes_at (nodes_from (suc j) ts) x.0 part) (ap (λ q. indexes_at (below j (nodes t)) q part) e ∙ at_below_other j (nodes t) n r part (omega arith))
      ∙ at_from (suc j) ts part x i)
      (in-cases (below j (nodes t)) h)

-- ---- The indexes of a task, subtask by subtask

abbrev indexes : Tree → List ℕ
indexes t = indexes_at (nodes t) [] whole

-- Those of the members, from subtask j on.
abbrev chosen : (ℕ → Bool) → ℕ → Trees → List (List ℕ)
chosen b j no_tree = []
chosen b j (more t ts) = cond (b j) (indexes t ∷ []) [] ++ chosen b (suc j) ts

abbrev all : ℕ → Bool
all j = true

flatten_cond : (b : Bool) (l : List ℕ) (ls : List (List ℕ)) → cond b l [] ++ flatten ls ≡ flatten (cond b (l ∷ []) [] ++ ls)
unfolding flatten
flatten_cond true l ls = refl
flatten_cond false l ls = refl

at_members : (b : ℕ → Bool) (j : ℕ) (ts : Trees) → indexes_at (nodes_from j ts) [] (those b) ≡ flatten (chosen b j ts)
unfolding nodes_from flatten
at_members b j no_tree = refl
at_members b j (more t ts) =
    at_append (below j (nodes t)) (nodes_from (suc j) ts) [] (those b)
    ∙ rw (at_below_members j (nodes t) b, at_members b (suc j) ts) (flatten_cond (b j) (indexes t) (chosen b (suc j) ts))

at_whole : (j : ℕ) (ts : Trees) → indexes_at (nodes_from j ts) [] whole ≡ flatten (chosen all j ts)
unfolding nodes_from flatten
at_whole j no_tree = refl
at_whole j (more t ts) =
    at_append (below j (nodes t)) (nodes_from (suc j) ts) [] whole ∙ rw (at_below_whole j (nodes t), at_whole (suc j) ts)

pick_all : (j : ℕ) (l : List Span) → pick all j l ≡ l
unfolding pick
pick_all j [] = refl
pick_all j (s ∷ l) = ap (λ z. s ∷ z) (pick_all (suc j) l)

module _ (k : Case) where
  has_subtasks : (m t : ℕ) → Fits k (D m) t → (method_at k.methods m).subtasks ≡ [] → ⊥
  unfolding Fits
  has_subtasks m t f e = f.1 e

  -- A tree that fits has an index.
  mutual
    unfolding nodes root_line place_of FitsTask is_in_part

    tree_filled : (t : Tree) (u : ℕ) → FitsTask k t u → Filled (indexes t)
    tree_filled (leaf a i) u f = (index_of (cue i), here refl)
    tree_filled (empty m g) u f = (index_of (gap g), here refl)
    tree_filled (task m ts) u f = from_filled 0 ts (method_at k.methods m).subtasks f.1 (has_subtasks m u f.0)

    from_filled : (j : ℕ) (ts : Trees) (us : List ℕ) → FitsTasks k ts us → us ≢ [] → Filled (indexes_at (nodes_from j ts) [] whole)
    from_filled j no_tree [] f n = absurd (n refl)
    from_filled j no_tree (u ∷ us) f n = absurd f
    from_filled j (more t ts) [] f n = absurd f
    from_filled j (more t ts) (u ∷ us) f n =
        let (x, h) = tree_filled t u f.0 in
        (x, rw (at_append (below j (nodes t)) (nodes_from (suc j) ts) [] whole, at_below_whole j (nodes t)) (in_left (indexes_at (nodes_from (suc j) ts) [] whole) h))

  chosen_filled : (b : ℕ → Bool) (j : ℕ) (ts : Trees) (us : List ℕ) → FitsTasks k ts us → (l : List ℕ) → Mem l (chosen b j ts) → Filled l
  unfolding FitsTasks
  chosen_filled b j no_tree us f l h = absurd (not-nil h)
  chosen_filled b j (more t ts) [] f l h = absurd f
  chosen_filled b j (more t ts) (u ∷ us) f l h =
      ⊎_elim (λ i. subst (λ z. Filled z) (sym (mem_cond (b j) i).1) (tree_filled t u f.0)) (chosen_filled b (suc j) ts us f.1 l) (in-cases (cond (b j) (indexes t ∷ []) []) h)

  -- One end of a span: the start with the least, the end with the greatest.
  module _ (best : List ℕ → ℕ) (x : Extreme best) (side : Span → ℕ) (point : (i : ℕ) → side (at i) ≡ i) (hulled : (l : List Span) → side (hull l) ≡ best (map side l)) where
    side_cond : (b : Bool) (s : Span) (l : List ℕ) (ss : List Span) (ls : List (List ℕ)) → side s ≡ best l → map side ss ≡ map best ls
        → map side (cond b (s ∷ []) [] ++ ss) ≡ map best (cond b (l ∷ []) [] ++ ls)
    side_cond true s l ss ls e e' = cc
    side_cond false s l ss ls e e' = e'

    mutual
      unfolding span FitsTask nodes root_line place_of is_in_part index_of pick

      side_tree : (t : Tree) (u : ℕ) → FitsTask k t u → side (span t) ≡ best (indexes t)
      side_tree (leaf a i) u f = point (of_cue i) ∙ sym (x.single (of_cue i))
      side_tree (empty m g) u f = point (of_gap g) ∙ sym (x.single (of_gap g))
      side_tree (task m ts) u f =
          let us = (method_at k.methods m).subtasks in
          hulled (spans ts) ∙ ap (λ l. best (map side l)) (sym (pick_all 0 (spans ts))) ∙ ap best (side_chosen all 0 ts us f.1)
          ∙ sym (best_flatten best x (chosen all 0 ts) (chosen_filled all 0 ts us f.1)) ∙ ap best (sym (at_whole 0 ts))

      side_chosen : (b : ℕ → Bool) (j : ℕ) (ts : Trees) (us : List ℕ) → FitsTasks k ts us → map side (pick b j (spans ts)) ≡ map best (chosen b j ts)
      side_chosen b j no_tree us f = refl
      side_chosen b j (more t ts) [] f = absurd f
      side_chosen b j (more t ts) (u ∷ us) f =
          side_cond (b j) (span t) (indexes t) (pick b (suc j) (spans ts)) (chosen b (suc j) ts) (side_tree t u f.0) (side_chosen b (suc j) ts us f.1)

    side_part : (t : Tree) (u : ℕ) → FitsTask k t u → (part : Part) → best (indexes_at (nodes t) [] part) ≡ side (parts_of t part)
    unfolding parts_of span_of_part subtask_spans FitsTask nodes is_in_part pick
    side_part t u f whole = sym (side_tree t u f)
    side_part (leaf a i) u f (those b) = sym (hulled [])
    side_part (empty m g) u f (those b) = sym (hulled [])
    side_part (task m ts) u f (those b) =
        let us = (method_at k.methods m).subtasks in
        ap best (at_members b 0 ts) ∙ best_flatten best x (chosen b 0 ts) (chosen_filled b 0 ts us f.1) ∙ ap best (sym (side_chosen b 0 ts us f.1))
        ∙ sym (hulled (pick b 0 (spans ts)))

  -- The spans at the path of a subtree are those of its parts.
  pub span_parts : (t : Tree) (u : ℕ) → FitsTask k t u → (q : TaskPath) (x : Tree) → Mem (q, x) (nodes t) → span_in (places_of (lines_at [] (nodes t))) q ≡ parts_of x
  unfolding span_in at hull
  span_parts t u f q x h = fun_ext part_eq
    where
      ends : (best : List ℕ → ℕ) → Extreme best → (side : Span → ℕ) → ((i : ℕ) → side (at i) ≡ i) → ((l : List Span) → side (hull l) ≡ best (map side l))
          → (part : Part) → best (indexes_in (places_of (lines_at [] (nodes t))) q part) ≡ side (parts_of x part)
      ends best e side point hulled part =
          let (v, g) = fits_node k t u (q, x) f h in
          ap best (lines_indexes (nodes t) q part ∙ at_node t part (q, x) h) ∙ side_part best e side point hulled x v g part

      part_eq : (part : Part) → span_in (places_of (lines_at [] (nodes t))) q part ≡ parts_of x part
      part_eq part = λ i. record {
        start = ends least least_extreme (λ s. s.start) (λ i. refl) (λ l. refl) part i;
        end = ends greatest greatest_extreme (λ s. s.end) (λ i. refl) (λ l. refl) part i;
      }
