-- A tree that fits, whose claims pass and whose lines stand there, is what the walk finds, unless it is higher than the levels left: then
-- the walk refuses a level. By recursion on the tree, since its lines lead the walk through it.
use mathlib.Core.Path.{◌≡◌, refl, sym, ◌∙◌, ap, subst}
use mathlib.Core.Bool.{Bool, true, false, false≢true}
use mathlib.Core.List.{List, [], ◌∷◌, ◌++◌, append_assoc, append-nil}
use Prim.Native.Nat.{ℕ, zero, suc, ◌+◌, ◌≤◌, ◌<◌, max}
use native.Mathlib.Omega.{arith}
use lib.Dec.{leb}
use lib.ListN.{length, length-append}
use borrow.Author.Tests.{leb-true, leb-false}
use Rattle.rules.specs.declared.Answer.TheVariants.{TooDeep}
use Rattle.rules.specs.Case.{method_at, NodeLine, D, E, L, Case}
use Rattle.rules.specs.Tree.{Tree, leaf, empty, task, Trees, no_tree, more, preorder, root_line, of_task, right_letter, Walk, Walker, walk_subtasks, ClaimTest, walk_fitting, node_fits, walk_node, none_over, level_count, walk_tree}
use Rattle.rules.specs.Result.{Result, found, refused, ◌>>=◌, ◌>>◌}
use Rattle.rules.specs.Rules.{FitsTask, FitsTasks}
use Rattle.rules.specs.Verdict.{reported, refused_not_by}
use Rattle.rules.proofs.Statements.{fits, fits_iff}
use Rattle.rules.proofs.Tables.{and_left, and_right}
use Rattle.rules.proofs.Judgement.Preorder.{lines_of, lines_of_all, lines_more, height, heights, claimed_by, ClaimsPass, claimed_append, claims_left, claims_right, TreeOf}

-- The walk at so many levels, for the subtasks.
abbrev walker : ℕ → Case → ClaimTest → Walker
walker levels k ok t line left c = walk_node levels k ok t line left c

-- The walk after lines have been taken.
abbrev walked : Tree → ℕ → List NodeLine → List ℕ → Walk Tree
walked x line rest c = found (x, line + length (lines_of x), rest, claimed_by (lines_of x) c)

abbrev walked_all : Trees → ℕ → List NodeLine → List ℕ → Walk Trees
walked_all xs line rest c = found (xs, line + length (lines_of_all xs), rest, claimed_by (lines_of_all xs) c)

-- The task of a method whose subtasks are walked; trees after a first one.
abbrev as_task : ℕ → Walk Trees → Walk Tree
as_task m ws = ws >>= λ (ts, line, nodes, claimed). found (task m ts, line, nodes, claimed)

abbrev with_tree : Tree → Walk Trees → Walk Trees
with_tree x ws = ws >>= λ (xs, line, nodes, claimed). found (more x xs, line, nodes, claimed)

abbrev follow_tree : Walk Tree → (ℕ → List NodeLine → List ℕ → Walk Trees) → Walk Trees
follow_tree w rest = w >>= λ (x, line, nodes, claimed). with_tree x (rest line nodes claimed)

abbrev none_left : Walk Tree → Result (Tree × List ℕ)
none_left w = w >>= λ (t, line, nodes, claimed). none_over line nodes >> found (t, claimed)

-- A node that fits passes both tests.
node_passes : (k : Case) (x : NodeLine) (t line : ℕ) → fits k x t ≡ true → node_fits (of_task k x t) (right_letter k x) line ≡ found tt
node_passes k x t line e =
    λ j. node_fits (and_left (of_task k x t) (right_letter k x) e j) (and_right (of_task k x t) (right_letter k x) e j) line

module _ (k : Case) (ok : ClaimTest) where
  -- A node that fits, where a level is left and where none is.
  pub node_fits_lem : (levels t line : ℕ) (x : NodeLine) (left : List NodeLine) (c : List ℕ) → fits k x t ≡ true
      → walk_node (suc levels) k ok t line (x ∷ left) c ≡ walk_fitting k ok (walker levels k ok) x line left c
  unfolding walk_node
  node_fits_lem levels t line x left c e =
      ap (λ (r : Result (Unit {0})). r >> walk_fitting k ok (walker levels k ok) x line left c) (node_passes k x t line e)

  pub node_deep : (t line : ℕ) (x : NodeLine) (left : List NodeLine) (c : List ℕ) → fits k x t ≡ true
      → walk_node zero k ok t line (x ∷ left) c ≡ refused (TooDeep line)
  unfolding walk_node
  node_deep t line x left c e = ap (λ (r : Result (Unit {0})). r >> refused (TooDeep line)) (node_passes k x t line e)

  leaf_passes : (a i line : ℕ) (left : List NodeLine) (c : List ℕ) (walk : Walker) → ok a i c ≡ true
      → walk_fitting k ok walk (L a i) line left c ≡ found (leaf a i, line + 1, left, i ∷ c)
  leaf_passes a i line left c walk e = rw (walk_fitting, e)

  -- The lines of a first tree and of the rest, and the claims of both.
  lines_then : (x : Tree) (xs : Trees) (rest : List NodeLine) → lines_of_all (more x xs) ++ rest ≡ lines_of x ++ (lines_of_all xs ++ rest)
  lines_then x xs rest = ap (λ (l : List NodeLine). l ++ rest) (lines_more x xs) ∙ append_assoc (lines_of x) (lines_of_all xs) rest

  passes_then : (x : Tree) (xs : Trees) (c : List ℕ) → ClaimsPass ok (lines_of_all (more x xs)) c
      → ClaimsPass ok (lines_of x) c × ClaimsPass ok (lines_of_all xs) (claimed_by (lines_of x) c)
  passes_then x xs c p =
      let q = subst (λ (ls : List NodeLine). ClaimsPass ok ls c) (lines_more x xs) p in
      (claims_left ok (lines_of x) (lines_of_all xs) c q, claims_right ok (lines_of x) (lines_of_all xs) c q)

  -- The first of several trees has been walked; or its walk is refused.
  subtasks_then : (x : Tree) (xs : Trees) (levels t : ℕ) (ts : List ℕ) (line : ℕ) (rest : List NodeLine) (c : List ℕ) (w : Walk Tree)
      → walk_node levels k ok t line (lines_of x ++ (lines_of_all xs ++ rest)) c ≡ w
      → walk_subtasks (walker levels k ok) (t ∷ ts) line (lines_of_all (more x xs) ++ rest) c ≡ follow_tree w (walk_subtasks (walker levels k ok) ts)
  subtasks_then x xs levels t ts line rest c w e =
      ap (λ (ls : List NodeLine). walk_subtasks (walker levels k ok) (t ∷ ts) line ls c) (lines_then x xs rest)
      ∙ ap (λ (z : Walk Tree). follow_tree z (walk_subtasks (walker levels k ok) ts)) e

  found_then : (x : Tree) (xs : Trees) (line : ℕ) (rest : List NodeLine) (c : List ℕ)
      → with_tree x (walked_all xs (line + length (lines_of x)) rest (claimed_by (lines_of x) c)) ≡ walked_all (more x xs) line rest c
  found_then x xs line rest c =
      let whole = lines_more x xs in
      let n : line + length (lines_of x) + length (lines_of_all xs) ≡ line + length (lines_of_all (more x xs)) =
      omega (arith, length-append (lines_of x) (lines_of_all xs), ap length whole) in
      let e : claimed_by (lines_of_all xs) (claimed_by (lines_of x) c) ≡ claimed_by (lines_of_all (more x xs)) c =
      sym (ap (λ (ls : List NodeLine). claimed_by ls c) whole ∙ claimed_append (lines_of x) (lines_of_all xs) c) in
      λ j. found (more x xs, n j, rest, e j)

  mutual
    unfolding FitsTask FitsTasks preorder root_line height

    tree_found : (x : Tree) (levels t line : ℕ) (rest : List NodeLine) (c : List ℕ) → FitsTask k x t → height x ≤ levels → ClaimsPass ok (lines_of x) c
        → walk_node levels k ok t line (lines_of x ++ rest) c ≡ walked x line rest c
    tree_found (leaf a i) zero t line rest c f h p = absurd (omega arith)
    tree_found (leaf a i) (suc levels) t line rest c f h p =
        node_fits_lem levels t line (L a i) rest c ((fits_iff k (L a i) t).1 f) ∙ leaf_passes a i line rest c (walker levels k ok) p.0
    tree_found (empty m g) zero t line rest c f h p = absurd (omega arith)
    tree_found (empty m g) (suc levels) t line rest c f h p = node_fits_lem levels t line (E m g) rest c ((fits_iff k (E m g) t).1 f)
    tree_found (task m xs) zero t line rest c f h p = absurd (omega arith)
    tree_found (task m xs) (suc levels) t line rest c f h p =
        let e : line + 1 + length (lines_of_all xs) ≡ line + suc (length (lines_of_all xs)) = omega arith in
        let ts = (method_at k.methods m).subtasks in
        node_fits_lem levels t line (D m) (lines_of_all xs ++ rest) c ((fits_iff k (D m) t).1 f.0)
        ∙ ap (λ (w : Walk Trees). as_task m w) (trees_found xs levels ts (line + 1) rest c f.1 (omega arith) p.1)
        ∙ ap (λ (n : ℕ). found (task m xs, n, rest, claimed_by (lines_of_all xs) c)) e

    trees_found : (xs : Trees) (levels : ℕ) (ts : List ℕ) (line : ℕ) (rest : List NodeLine) (c : List ℕ) → FitsTasks k xs ts → heights xs ≤ levels
        → ClaimsPass ok (lines_of_all xs) c → walk_subtasks (walker levels k ok) ts line (lines_of_all xs ++ rest) c ≡ walked_all xs line rest c
    trees_found no_tree levels [] line rest c f h p = let e : line ≡ line + 0 = omega arith in ap (λ (n : ℕ). found (no_tree, n, rest, c)) e
    trees_found no_tree levels (t ∷ ts) line rest c f h p = absurd f
    trees_found (more x xs) levels [] line rest c f h p = absurd f
    trees_found (more x xs) levels (t ∷ ts) line rest c f h p =
        let q = passes_then x xs c p in
        let first = tree_found x levels t line (lines_of_all xs ++ rest) c f.0 (omega arith) q.0 in
        let later = trees_found xs levels ts (line + length (lines_of x)) rest (claimed_by (lines_of x) c) f.1 (omega arith) q.1 in
        subtasks_then x xs levels t ts line rest c (walked x line (lines_of_all xs ++ rest) c) first
        ∙ ap (λ (w : Walk Trees). with_tree x w) later ∙ found_then x xs line rest c

  -- The first of several trees is too high; or it is found, and the rest is too high.
  deep_then : (x : Tree) (xs : Trees) (levels t : ℕ) (ts : List ℕ) (line : ℕ) (rest : List NodeLine) (c : List ℕ) (b : Bool)
      → leb (height x) levels ≡ b
      → (height x ≤ levels → walk_node levels k ok t line (lines_of x ++ (lines_of_all xs ++ rest)) c ≡ walked x line (lines_of_all xs ++ rest) c)
      → (levels < height x → (n : ℕ) × (walk_node levels k ok t line (lines_of x ++ (lines_of_all xs ++ rest)) c ≡ refused (TooDeep n)))
      → (height x ≤ levels → (n : ℕ) × (walk_subtasks (walker levels k ok) ts (line + length (lines_of x)) (lines_of_all xs ++ rest)
      (claimed_by (lines_of x) c) ≡ refused (TooDeep n)))
      → (n : ℕ) × (walk_subtasks (walker levels k ok) (t ∷ ts) line (lines_of_all (more x xs) ++ rest) c ≡ refused (TooDeep n))
  deep_then x xs levels t ts line rest c true e there first later =
      let h = leb-true (height x) levels e in
      let w = later h in
      (w.0, subtasks_then x xs levels t ts line rest c (walked x line (lines_of_all xs ++ rest) c) (there h) ∙ ap (λ (z : Walk Trees). with_tree x z) w.1)
  deep_then x xs levels t ts line rest c false e there first later =
      let w = first (leb-false (height x) levels e) in
      (w.0, subtasks_then x xs levels t ts line rest c (refused (TooDeep w.0)) w.1)

  mutual
    unfolding FitsTask FitsTasks preorder root_line height

    tree_deep : (x : Tree) (levels t line : ℕ) (rest : List NodeLine) (c : List ℕ) → FitsTask k x t → levels < height x → ClaimsPass ok (lines_of x) c
        → (n : ℕ) × (walk_node levels k ok t line (lines_of x ++ rest) c ≡ refused (TooDeep n))
    tree_deep (leaf a i) zero t line rest c f h p = (line, node_deep t line (L a i) rest c ((fits_iff k (L a i) t).1 f))
    tree_deep (leaf a i) (suc levels) t line rest c f h p = absurd (omega arith)
    tree_deep (empty m g) zero t line rest c f h p = (line, node_deep t line (E m g) rest c ((fits_iff k (E m g) t).1 f))
    tree_deep (empty m g) (suc levels) t line rest c f h p = absurd (omega arith)
    tree_deep (task m xs) zero t line rest c f h p = (line, node_deep t line (D m) (lines_of_all xs ++ rest) c ((fits_iff k (D m) t).1 f.0))
    tree_deep (task m xs) (suc levels) t line rest c f h p =
        let w = trees_deep xs levels (method_at k.methods m).subtasks (line + 1) rest c f.1 (omega arith) p.1 in
        (w.0, node_fits_lem levels t line (D m) (lines_of_all xs ++ rest) c ((fits_iff k (D m) t).1 f.0) ∙ ap (λ (ws : Walk Trees). as_task m ws) w.1)

    trees_deep : (xs : Trees) (levels : ℕ) (ts : List ℕ) (line : ℕ) (rest : List NodeLine) (c : List ℕ) → FitsTasks k xs ts → levels < heights xs
        → ClaimsPass ok (lines_of_all xs) c
        → (n : ℕ) × (walk_subtasks (walker levels k ok) ts line (lines_of_all xs ++ rest) c ≡ refused (TooDeep n))
    trees_deep no_tree levels ts line rest c f h p = absurd (omega arith)
    trees_deep (more x xs) levels [] line rest c f h p = absurd f
    trees_deep (more x xs) levels (t ∷ ts) line rest c f h p =
        let q = passes_then x xs c p in
        deep_then x xs levels t ts line rest c (leb (height x) levels) refl
        (λ g. tree_found x levels t line (lines_of_all xs ++ rest) c f.0 g q.0)
        (λ g. tree_deep x levels t line (lines_of_all xs ++ rest) c f.0 g q.0)
        (λ g. trees_deep xs levels ts (line + length (lines_of x)) rest (claimed_by (lines_of x) c) f.1 (omega arith) q.1)

  -- ---- The whole tree

  whole : (x : Tree) → lines_of x ≡ k.nodes
      → walk_node level_count k ok k.head.goal (k.plan_line + 1) k.nodes []
      ≡ walk_node level_count k ok k.head.goal (k.plan_line + 1) (lines_of x ++ []) []
  whole x e = ap (λ (ls : List NodeLine). walk_node level_count k ok k.head.goal (k.plan_line + 1) ls []) (sym (append-nil (lines_of x) ∙ e))

  pub walk_finds : (x : Tree) → TreeOf k ok x → walk_tree k ok ≡ found (x, claimed_by k.nodes [])
  unfolding walk_tree
  walk_finds x t =
      let p = subst (λ (ls : List NodeLine). ClaimsPass ok ls []) (sym t.preordered) t.passing in
      ap none_left (whole x t.preordered ∙ tree_found x level_count k.head.goal (k.plan_line + 1) [] [] t.fitting t.shallow p)
      ∙ ap (λ (ls : List NodeLine). found (x, claimed_by ls [])) t.preordered

  pub walk_too_deep : (x : Tree) → lines_of x ≡ k.nodes → FitsTask k x k.head.goal → level_count < height x → ClaimsPass ok k.nodes []
      → (n : ℕ) × (walk_tree k ok ≡ refused (TooDeep n))
  unfolding walk_tree
  walk_too_deep x e f h p =
      let w = tree_deep x level_count k.head.goal (k.plan_line + 1) [] [] f h (subst (λ (ls : List NodeLine). ClaimsPass ok ls []) (sym e) p) in
      (w.0, ap none_left (whole x e ∙ w.1))

-- ---- Every claim let pass

abbrev pub any_claim : ClaimTest
any_claim a i c = true

any_passes : (xs : List NodeLine) (c : List ℕ) → ClaimsPass any_claim xs c
any_passes [] c = tt
any_passes (D m ∷ xs) c = (tt, any_passes xs c)
any_passes (E m g ∷ xs) c = (tt, any_passes xs c)
any_passes (L a i ∷ xs) c = (refl, any_passes xs (i ∷ c))

-- The levels of a tree that fits are within the limit exactly if its rows alone, with every claim let pass, don't say 7.
pub levels_within : (k : Case) (x : Tree) → lines_of x ≡ k.nodes → FitsTask k x k.head.goal → refused_not_by 7 (walk_tree k any_claim) ≡ true
    → height x ≤ level_count
unfolding reported
levels_within k x e f h = go (leb (height x) level_count) refl
  where
    go : (b : Bool) → leb (height x) level_count ≡ b → height x ≤ level_count
    go true q = leb-true (height x) level_count q
    go false q =
        let w = walk_too_deep k any_claim x e f (leb-false (height x) level_count q) (any_passes k.nodes []) in
        absurd (false≢true (sym (ap (λ (z : Result (Tree × List ℕ)). refused_not_by 7 z) w.1) ∙ h))

pub within_levels : (k : Case) (x : Tree) → lines_of x ≡ k.nodes → FitsTask k x k.head.goal → height x ≤ level_count
    → refused_not_by 7 (walk_tree k any_claim) ≡ true
within_levels k x e f h =
    let t : TreeOf k any_claim x = record { preordered = e; fitting = f; shallow = h; passing = any_passes k.nodes [] } in
    ap (λ (z : Result (Tree × List ℕ)). refused_not_by 7 z) (walk_finds k any_claim x t)

-- A tree that fits is found, unless those rows say 7 or a claim doesn't pass.
pub walk_finds_within : (k : Case) (ok : ClaimTest) (x : Tree) → lines_of x ≡ k.nodes → FitsTask k x k.head.goal
    → refused_not_by 7 (walk_tree k any_claim) ≡ true → ClaimsPass ok k.nodes []
    → walk_tree k ok ≡ found (x, claimed_by k.nodes [])
walk_finds_within k ok x e f h p = walk_finds k ok x (record { preordered = e; fitting = f; shallow = levels_within k x e f h; passing = p })

-- ---- One tree at most

walked_tree : Walk Tree → Tree → Tree
walked_tree (found (x, line, left, c)) y = x
walked_tree (refused r) y = y

-- Trees that fit one task and have the same lines are the same.
pub tree_unique : (k : Case) (t : ℕ) (x y : Tree) → lines_of x ≡ lines_of y → FitsTask k x t → FitsTask k y t → x ≡ y
unfolding walked_tree
tree_unique k t x y e f g =
    let levels = max (height x) (height y) in
    ap (λ (w : Walk Tree). walked_tree w x)
    (sym (tree_found k any_claim x levels t 0 [] [] f (omega arith) (any_passes (lines_of x) []))
    ∙ ap (λ (ls : List NodeLine). walk_node levels k any_claim t 0 (ls ++ []) []) e
    ∙ tree_found k any_claim y levels t 0 [] [] g (omega arith) (any_passes (lines_of y) []))
