-- A tree whose node lines are those made from a form, with whatever gaps, is the one that hangs from the root's id (02, Card 6): it takes the
-- nodes of one id after the other, as a compound line has as many ids as its method has subtasks. Assumes nothing.
use mathlib.Core.Path.{◌≡◌, refl, sym, ap, ◌∙◌}
use mathlib.Core.Bool.{Bool, true, false, ◌||◌, false≢true}
use mathlib.Core.List.{List, [], ◌∷◌, ◌++◌, map, append_assoc, append-nil, nil≢cons, head-eq_of_cons-eq, tail-eq_of_cons-eq}
use mathlib.Core.List.Memᴰ.{head as here}
use mathlib.Core.List.Memᴰ.{tail as there}
use mathlib.Core.List.{Memᴰ as Mem}
use mathlib.Core.Option.{some}
use Prim.Native.Nat.{ℕ, zero, suc}
use native.Mathlib.Omega.{arith}
use lib.Dec.{eqb}
use lib.ListN.{length}
use borrow.Author.Tests.{eqb-true}
use Rattle.rules.specs.Case.{method_at, NodeLine, D, E, L, Case}
use Rattle.rules.specs.Tree.{Tree, leaf, empty, task, Trees, no_tree, more, preorder, root_line, is_in}
use Rattle.rules.specs.Rules.{FitsTask, FitsTasks}
use Rattle.rules.specs.Gaps.{with_gaps}
use Rattle.rules.specs.Form.{FormLine, cue_line, task_line, Form, defines, uses, form_lines, all_defined}
use Rattle.rules.specs.Import.{line_defining, node_for, subtasks_first, nodes_of, made_nodes, TreeFor, TreesFor}
use Rattle.rules.proofs.Judgement.Each.{Each, each_tail}
use Rattle.rules.proofs.Judgement.Preorder.{lines_of, lines_of_all, lines_more}
use Rattle.rules.proofs.Import.Lines.{Counts}
use Rattle.rules.proofs.Import.Ids.{Defined, RightIds}

-- ---- The line of an id

-- The line that defines an id, if there is one, is among the lines and defines it.
record Is (es : List FormLine) (id : ℕ) (e : FormLine) : Type 0 where
  line : line_defining es id ≡ some e
  among : Mem e es
  same : defines e ≡ id

line_of : (es : List FormLine) (id : ℕ) → Defined es id → (e : FormLine) × Is es id e
unfolding is_in all_defined
line_of [] id d = absurd (false≢true d)
line_of (e ∷ es) id d = go (eqb (defines e) id) refl d (line_of es id)
  where
    go : (b : Bool) → eqb (defines e) id ≡ b → (b || is_in id (map defines es)) ≡ true → (Defined es id → (x : FormLine) × Is es id x)
        → (x : FormLine) × Is (e ∷ es) id x
    go true q d rest = (e, record { line = rw (q, line_defining); among = here refl; same = eqb-true (defines e) id q })
    go false q d rest = let (x, w) = rest d in (x, record { line = rw (q, line_defining) w.line; among = there w.among; same = w.same })

-- ---- A tree and an id

-- A line of nodes is that of a line of the form, with whatever gap.
abbrev NodeIs : FormLine → NodeLine → Type 0
NodeIs (cue_line line id a i) x = x ≡ L a i
NodeIs (task_line line id m []) x = (g : ℕ) × (x ≡ E m g)
NodeIs (task_line line id m (s ∷ ss)) x = x ≡ D m

module _ (es : List FormLine) (gs : List ℕ) where
  -- These are nodes of ids in turn, with gaps of a choice from one on.
  abbrev Made : List ℕ → List NodeLine → Type 0
  Made ids xs = (left : ℕ) × (a : ℕ) × (with_gaps gs a (nodes_of left es ids) ≡ xs)

  -- The first node is that of the first id's line, and the ids of its subtasks come next.
  abbrev Starts : ℕ → List ℕ → NodeLine → List NodeLine → FormLine → Type 0
  Starts id ids x xs e = Is es id e × NodeIs e x × Made (subtasks_first e ids) xs

  starts : (id : ℕ) (ids : List ℕ) (x : NodeLine) (xs : List NodeLine) → Defined es id → Made (id ∷ ids) (x ∷ xs) → (e : FormLine) × Starts id ids x xs e
  starts id ids x xs d (zero, a, q) = absurd (nil≢cons q)
  starts id ids x xs d (suc left, a, q) =
      let (e, w) = line_of es id d in
      let step : nodes_of (suc left) es (id ∷ ids) ≡ node_for e ∷ nodes_of left es (subtasks_first e ids) = rw (w.line, nodes_of) in
      (e, go e w (sym (ap (λ (l : List NodeLine). with_gaps gs a l) step) ∙ q))
    where
      go : (e : FormLine) → Is es id e → with_gaps gs a (node_for e ∷ nodes_of left es (subtasks_first e ids)) ≡ x ∷ xs → Starts id ids x xs e
      go (cue_line line i b j) w q = (w, sym (head-eq_of_cons-eq q), (left, a, tail-eq_of_cons-eq q))
      go (task_line line i m []) w q = (w, (_, sym (head-eq_of_cons-eq q)), (left, suc a, tail-eq_of_cons-eq q))
      go (task_line line i m (s ∷ ss)) w q = (w, sym (head-eq_of_cons-eq q), (left, a, tail-eq_of_cons-eq q))

  leaf_for : (b j id : ℕ) (ids : List ℕ) (rest : List NodeLine) (e : FormLine) → Starts id ids (L b j) rest e
      → TreeFor es (leaf b j) id × Made ids rest
  unfolding TreeFor
  leaf_for b j id ids rest (cue_line line i c h) (w, n, l) = let p = w.line in let q = w.same in ((line, cc), l)
  leaf_for b j id ids rest (task_line line i m []) (w, (g, n), l) = let z : ◌≡◌ {A = ℕ} 0 1 = cc in absurd (omega arith)
  leaf_for b j id ids rest (task_line line i m (s ∷ ss)) (w, n, l) = let z : ◌≡◌ {A = ℕ} 0 1 = cc in absurd (omega arith)

  empty_for : (m g id : ℕ) (ids : List ℕ) (rest : List NodeLine) (e : FormLine) → Starts id ids (E m g) rest e
      → TreeFor es (empty m g) id × Made ids rest
  unfolding TreeFor
  empty_for m g id ids rest (cue_line line i c h) (w, n, l) = let z : ◌≡◌ {A = ℕ} 0 1 = cc in absurd (omega arith)
  empty_for m g id ids rest (task_line line i o []) (w, (h, n), l) = let p = w.line in let q = w.same in ((line, cc), l)
  empty_for m g id ids rest (task_line line i o (s ∷ ss)) (w, n, l) = let z : ◌≡◌ {A = ℕ} 0 1 = cc in absurd (omega arith)

module _ (k : Case) (es : List FormLine) (gs : List ℕ) (counts : Each (Counts k.methods) es)
    (defined : Each (λ e. Each (Defined es) (uses e)) es) where
  -- The trees of ids in turn, and then other ids.
  abbrev TreesOf : Trees → List ℕ → List ℕ → List NodeLine → Type 0
  TreesOf ts ss ids rest = TreesFor es ts ss × Made es gs ids rest

  task_for : (m id : ℕ) (ts : Trees) (ids : List ℕ) (xs rest : List NodeLine) (e : FormLine) → Starts es gs id ids (D m) xs e
      → ((ss : List ℕ) → length (method_at k.methods m).subtasks ≡ length ss → Each (Defined es) ss → Made es gs (ss ++ ids) xs → TreesOf ts ss ids rest)
      → TreeFor es (task m ts) id × Made es gs ids rest
  unfolding TreeFor
  task_for m id ts ids xs rest (cue_line line i c h) (w, n, l) f = let z : ◌≡◌ {A = ℕ} 0 1 = cc in absurd (omega arith)
  task_for m id ts ids xs rest (task_line line i o []) (w, (h, n), l) f = let z : ◌≡◌ {A = ℕ} 0 1 = cc in absurd (omega arith)
  task_for m id ts ids xs rest (task_line line i o (s ∷ ss)) (w, n, l) f =
      let p = w.line in
      let q = w.same in
      let o≡m : o ≡ m = cc in
      let (t, r) = f (s ∷ ss) (ap (λ (x : ℕ). length (method_at k.methods x).subtasks) (sym o≡m) ∙ counts _ w.among) (defined _ w.among) l in
      ((line, s ∷ ss, cc, t), r)

  mutual
    unfolding FitsTask FitsTasks TreesFor preorder root_line

    tree_for : (t : Tree) (u id : ℕ) (ids : List ℕ) (rest : List NodeLine) → FitsTask k t u → Defined es id → Made es gs (id ∷ ids) (lines_of t ++ rest)
        → TreeFor es t id × Made es gs ids rest
    tree_for (leaf b j) u id ids rest w d n = let (e, s) = starts es gs id ids (L b j) rest d n in leaf_for es gs b j id ids rest e s
    tree_for (empty m g) u id ids rest w d n = let (e, s) = starts es gs id ids (E m g) rest d n in empty_for es gs m g id ids rest e s
    tree_for (task m ts) u id ids rest w d n =
        let us = (method_at k.methods m).subtasks in
        let (e, s) = starts es gs id ids (D m) (lines_of_all ts ++ rest) d n in
        task_for m id ts ids (lines_of_all ts ++ rest) rest e s (λ ss c f l. trees_for ts us ss ids rest w.1 c f l)

    trees_for : (ts : Trees) (us ss ids : List ℕ) (rest : List NodeLine) → FitsTasks k ts us → length us ≡ length ss → Each (Defined es) ss
        → Made es gs (ss ++ ids) (lines_of_all ts ++ rest) → TreesOf ts ss ids rest
    trees_for no_tree [] [] ids rest w c d n = (tt, n)
    trees_for no_tree [] (s ∷ ss) ids rest w c d n = absurd (omega arith)
    trees_for no_tree (u ∷ us) ss ids rest w c d n = absurd w
    trees_for (more t ts) [] ss ids rest w c d n = absurd w
    trees_for (more t ts) (u ∷ us) [] ids rest w c d n = absurd (omega arith)
    trees_for (more t ts) (u ∷ us) (s ∷ ss) ids rest w c d (left, a, q) =
        let e = ap (λ (l : List NodeLine). l ++ rest) (lines_more t ts) ∙ append_assoc (lines_of t) (lines_of_all ts) rest in
        let (x, n) = tree_for t u s (ss ++ ids) (lines_of_all ts ++ rest) w.0 (d s (here refl)) (left, a, q ∙ e) in
        let (xs, l) = trees_for ts us ss ids rest w.1 (omega arith) (each_tail (Defined es) s ss d) n in
        ((x, xs), l)

-- A tree that fits some task and whose lines are the form's nodes, with whatever gaps, hangs from the root.
pub tree_hangs : (k : Case) (f : Form) (gs : List ℕ) → Each (Counts k.methods) (form_lines f) → RightIds f → (t : Tree) (u : ℕ) → FitsTask k t u
    → lines_of t ≡ with_gaps gs 0 (made_nodes f) → TreeFor (form_lines f) t f.root
unfolding made_nodes
tree_hangs k f gs counts right t u w e =
    let es = form_lines f in
    (tree_for k es gs counts (λ e m. (right.lines e m).defined) t u f.root [] [] w right.root_there (length es, 0, sym (append-nil (lines_of t) ∙ e))).0
