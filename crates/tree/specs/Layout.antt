-- How the walk keeps the claimed tree in the lent work space: a mark for each position, and a row for each node. Assumes nothing.
use Rattle.std.specs.Prelude.{cond, List, [], ◌∷◌, ◌++◌, map, ℕ, ◌+◌, drop}
use Rattle.std.proofs.Math.Seq.{slice}
use Rattle.rules.specs.State.{tabulate}
use Rattle.rules.specs.Index.{Span}
use Rattle.rules.specs.Result.{Result, found, refused}
use Rattle.rules.specs.Case.{Case}
use Rattle.rules.specs.Fields.{lines_fields, node_line}
use Rattle.rules.specs.Tree.{Tree, leaf, empty, task, Trees, no_tree, more, span, is_in}
use Rattle.fields.specs.Standing.{Stands}

-- The areas of the work space, after the directory of lines (0 to 3,072): marks of the positions (1,000), the subtasks' nodes of the
-- node under test (32), rows of three numbers for up to 3,000 nodes.
unfoldable pub marks_from : ℕ
marks_from = 3072

unfoldable pub subtasks_from : ℕ
subtasks_from = 4072

unfoldable pub subtasks_past : ℕ
subtasks_past = 4104

unfoldable pub rows_from : ℕ
rows_from = 7168

unfoldable pub rows_past : ℕ
rows_past = 16168

-- How many nodes a tree has.
unfoldable mutual
  pub size : Tree → ℕ
  size (leaf a i) = 1
  size (empty m g) = 1
  size (task m ts) = 1 + sizes ts

  pub sizes : Trees → ℕ
  sizes no_tree = 0
  sizes (more t ts) = size t + sizes ts

abbrev pub row : Span → ℕ → List ℕ
row s after = s.start ∷ s.end ∷ after ∷ []

-- The rows of a tree whose root is node n, in preorder: doubled start, doubled end, and the node after the subtree.
unfoldable mutual
  pub rows : Tree → ℕ → List ℕ
  rows (leaf a i) n = row (span (leaf a i)) (n + 1)
  rows (empty m g) n = row (span (empty m g)) (n + 1)
  rows (task m ts) n = row (span (task m ts)) (n + 1 + sizes ts) ++ rows_all ts (n + 1)

  pub rows_all : Trees → ℕ → List ℕ
  rows_all no_tree n = []
  rows_all (more t ts) n = rows t n ++ rows_all ts (n + size t)

-- A mark for each of the k positions from 1 on: 1 where it is claimed.
unfoldable pub marks_of : ℕ → List ℕ → List ℕ
marks_of k claimed = tabulate k 1 (λ i. cond (is_in i claimed) 1 0)

-- The areas of a work space.
abbrev pub directory_of : List ℕ → List ℕ
directory_of work = slice 0 marks_from work

abbrev pub marks_in : ℕ → List ℕ → List ℕ
marks_in k work = slice marks_from (marks_from + k) work

abbrev pub rows_in : List ℕ → List ℕ
rows_in work = slice rows_from rows_past work

-- The node lines from node n on stand among the fields from a place on.
abbrev pub NodesFrom : Case → List ℕ → ℕ → ℕ → Type 0
NodesFrom k fields n place = Stands fields place (lines_fields (map node_line (drop n k.nodes)))

-- The tree that node lines claim, asked of trees that are walked.
unfoldable pub tree_of : Result (Tree × List ℕ) → Tree
tree_of (found (t, claimed)) = t
tree_of (refused r) = leaf 0 0
