-- The claimed tree: its walk, its spans and its claims (01, "The tree" and rows 6 to 9 of its table; 02, Card 7). Assumes nothing.
use Rattle.std.specs.Prelude.{Bool, true, false, ◌&&◌, ◌||◌, not, List, [], ◌∷◌, ◌++◌, ℕ, zero, suc, ◌+◌, ◌-◌, eqb, leb, ltb, length, get_or}
use Rattle.std.proofs.Math.Option.{Option, none, some}
use Rattle.rules.specs.declared.Answer.{Answer}
use Rattle.rules.specs.declared.Answer.TheVariants.{WrongTask, TooDeep, WrongClaim, WrongLetter, SurplusNode, MissingNode}
use Rattle.rules.specs.Index.{Span, at, of_cue, of_gap, hull}
use Rattle.rules.specs.Result.{Result, found, refused, ◌>>=◌, ◌>>◌}
use Rattle.rules.specs.Case.{Method, method_at, NodeLine, D, E, L, Case}

mutual
  -- Action a at position i; empty method m in gap g; method m with the trees of its subtasks.
  pub data Tree : Type 0 where
    leaf : (a i : ℕ) → Tree
    empty : (m g : ℕ) → Tree
    task : (m : ℕ) → Trees → Tree

  pub data Trees : Type 0 where
    no_tree : Trees
    more : Tree → Trees → Trees

-- "Nodes come in preorder: a node, then the subtrees of its subtasks in the method's order." All subtrees, each before those below it.
unfoldable mutual
  pub preorder : Tree → List Tree
  preorder (leaf a i) = leaf a i ∷ []
  preorder (empty m g) = empty m g ∷ []
  preorder (task m ts) = task m ts ∷ preorders ts

  pub preorders : Trees → List Tree
  preorders no_tree = []
  preorders (more t ts) = preorder t ++ preorders ts

-- The line of a tree's root.
unfoldable pub root_line : Tree → NodeLine
root_line (leaf a i) = L a i
root_line (empty m g) = E m g
root_line (task m ts) = D m

-- The span of a tree's root, and those of its subtasks.
unfoldable mutual
  pub span : Tree → Span
  span (leaf a i) = at (of_cue i)
  span (empty m g) = at (of_gap g)
  span (task m ts) = hull (spans ts)

  pub spans : Trees → List Span
  spans no_tree = []
  spans (more t ts) = span t ∷ spans ts

unfoldable pub subtask_spans : Tree → List Span
subtask_spans (leaf a i) = []
subtask_spans (empty m g) = []
subtask_spans (task m ts) = spans ts

-- ---- The walk

unfoldable pub no_subtasks : Method → Bool
no_subtasks m = eqb (length m.subtasks) 0

-- "for a compound task one of its own methods"
unfoldable pub is_method_of : Case → ℕ → ℕ → Bool
is_method_of k m t = ltb m (length k.methods) && (leb k.head.actions t && eqb (method_at k.methods m).task t)

-- "each node fits the task expected there (an action leaf for an action; for a compound task one of its own methods)": it is of that task,
unfoldable pub of_task : Case → NodeLine → ℕ → Bool
of_task k (D m) t = is_method_of k m t
of_task k (E m g) t = is_method_of k m t
of_task k (L a i) t = ltb t k.head.actions && eqb a t

-- and its letter is right: D,m with a method that is not empty, E,m,g with one that is.
unfoldable pub right_letter : Case → NodeLine → Bool
right_letter k (D m) = not (no_subtasks (method_at k.methods m))
right_letter k (E m g) = no_subtasks (method_at k.methods m)
right_letter k (L a i) = true

-- What a walk finds, with the line and the nodes after it and the positions claimed so far.
abbrev pub Walk : Type 0 → Type 0
Walk A = Result (A × ℕ × List NodeLine × List ℕ)

-- A walk of one task: the task expected, the line, the nodes from there on, the positions claimed.
abbrev pub Walker : Type 0
Walker = ℕ → ℕ → List NodeLine → List ℕ → Walk Tree

-- "the subtasks by walking each node among them in turn"
abbrev pub walk_subtasks : Walker → List ℕ → ℕ → List NodeLine → List ℕ → Walk Trees
walk_subtasks walk [] line nodes claimed = found (no_tree, line, nodes, claimed)
walk_subtasks walk (t ∷ ts) line nodes claimed = do
  (x, line', nodes', claimed') ← walk t line nodes claimed
  (xs, line'', nodes'', claimed'') ← walk_subtasks walk ts line' nodes' claimed'
  found (more x xs, line'', nodes'', claimed'')

unfoldable pub is_in : ℕ → List ℕ → Bool
is_in i [] = false
is_in i (x ∷ l) = eqb x i || is_in i l

-- Whether a leaf of action a may claim position i, after the claims so far.
abbrev pub ClaimTest : Type 0
ClaimTest = ℕ → ℕ → List ℕ → Bool

-- "leaf's position has another action or was claimed earlier"
unfoldable pub may_claim : List ℕ → ClaimTest
may_claim plan a i claimed = eqb (get_or plan (i - 1) 0) a && not (is_in i claimed)

-- A node that fits, above level 65: "A node is walked by walking its subtasks".
abbrev pub walk_fitting : Case → ClaimTest → Walker → NodeLine → ℕ → List NodeLine → List ℕ → Walk Tree
walk_fitting k ok walk (D m) line nodes claimed = do
  (ts, line', nodes', claimed') ← walk_subtasks walk (method_at k.methods m).subtasks (line + 1) nodes claimed
  found (task m ts, line', nodes', claimed')
walk_fitting k ok walk (E m g) line nodes claimed = found (empty m g, line + 1, nodes, claimed)
walk_fitting k ok walk (L a i) line nodes claimed =
    elim (ok a i claimed) [ true ↦ found (leaf a i, line + 1, nodes, i ∷ claimed) | false ↦ refused (WrongClaim line i) ]

-- A test that is passed, or the answer that refuses.
abbrev pub passes : Bool → Answer → Result (Unit {0})
passes true wrong = found tt
passes false wrong = refused wrong

-- A node that is or isn't of the task expected, with a letter that is or isn't right: "a node of another task than expected", then "a D line with an
-- empty method or an E line with one that isn't" (02, Card 7).
abbrev pub node_fits : Bool → Bool → ℕ → Result (Unit {0})
node_fits own letter line = do
  passes own (WrongTask line)  -- 6
  passes letter (WrongLetter line)  -- 20

-- A node where so many levels are left: "nodes over too soon" (22) if none is there; 6 and 20; 7 if no level is left; 8.
unfoldable pub walk_node : ℕ → Case → ClaimTest → Walker
walk_node zero k ok t line [] claimed = refused (MissingNode line)
walk_node zero k ok t line (x ∷ nodes) claimed = node_fits (of_task k x t) (right_letter k x) line >> refused (TooDeep line)
walk_node (suc levels) k ok t line [] claimed = refused (MissingNode line)
walk_node (suc levels) k ok t line (x ∷ nodes) claimed =
    node_fits (of_task k x t) (right_letter k x) line
    >> walk_fitting k ok (λ t' line' nodes' claimed'. walk_node levels k ok t' line' nodes' claimed') x line nodes claimed

-- "a surplus node, whatever its line holds" (02, Card 7)
abbrev pub none_over : ℕ → List NodeLine → Result (Unit {0})
none_over line [] = found tt
none_over line (x ∷ nodes) = refused (SurplusNode line)

-- "The root is level 1, its subtasks level 2, and so on to 64."
unfoldable pub level_count : ℕ
level_count = 64

-- The whole tree, and the positions that its leaves claim.
unfoldable pub walk_tree : Case → ClaimTest → Result (Tree × List ℕ)
walk_tree k ok = do
  (t, line, nodes, claimed) ← walk_node level_count k ok k.head.goal (k.plan_line + 1) k.nodes []
  none_over line nodes
  found (t, claimed)

-- "after the walk: least position unclaimed", of the n positions from i on.
abbrev pub least_unclaimed : List ℕ → ℕ → ℕ → Option ℕ
least_unclaimed claimed zero i = none
least_unclaimed claimed (suc n) i = elim (is_in i claimed) [ true ↦ least_unclaimed claimed n (i + 1) | false ↦ some i ]
