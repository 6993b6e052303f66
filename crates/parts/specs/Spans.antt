-- The rows of the nodes in the lent work space, and the nodes of the subtasks of the node under test. Assumes nothing.
use Rattle.std.specs.Prelude.{List, [], ◌∷◌, map, ℕ, zero, suc, ◌+◌, ◌*◌, ◌<◌, ◌≤◌, length, get_or}
use Rattle.std.proofs.Math.Seq.{slice}
use Rattle.rules.specs.Index.{Span}
use Rattle.tree.specs.Layout.{subtasks_from, subtasks_past, rows_from}

-- The span in the row of node n, and the node after its subtree.
unfoldable pub row_span : List ℕ → ℕ → Span
row_span work n = record { start = get_or work (rows_from + 3 * n) 0; end = get_or work (rows_from + 3 * n + 1) 0 }

unfoldable pub node_after : List ℕ → ℕ → ℕ
node_after work n = get_or work (rows_from + 3 * n + 2) 0

-- The row of node n lies inside the work space.
unfoldable pub RowInside : List ℕ → ℕ → Type 0
RowInside work n = rows_from + 3 * n + 3 ≤ length work

-- So many nodes, each the node after the subtree of the one before it.
abbrev pub siblings : List ℕ → ℕ → ℕ → List ℕ
siblings work n zero = []
siblings work n (suc count) = n ∷ siblings work (node_after work n) count

-- The nodes of the subtasks of the node under test: 32 places, of which a node uses as many as it has subtasks.
unfoldable pub nodes_in : List ℕ → List ℕ
nodes_in work = slice subtasks_from subtasks_past work

-- Their spans.
unfoldable pub subtask_span : List ℕ → ℕ → Span
subtask_span work j = row_span work (get_or (nodes_in work) j 0)

unfoldable pub spans_in : List ℕ → List Span
spans_in work = map (row_span work) (nodes_in work)

-- The row of the node of subtask j lies inside the work space.
pub record SubtaskInside (work : List ℕ) (j : ℕ) : Type 0 where
  pub few : j < 32
  pub row : RowInside work (get_or (nodes_in work) j 0)
