-- What the phases before the constraints left, and what the constraints leave to those after them. Assumes nothing.
use Rattle.std.specs.Prelude.{◌≡◌, Bool, true, false, ◌||◌, ℕ, ◌+◌, ◌*◌, ◌<◌, ◌≤◌, eqb, length, get_or, take}
use mathlib.Core.List.{List, flatten}
use Rattle.std.proofs.Math.Option.{Option}
use Prim.Native.Char.{code}
use Rattle.rules.specs.declared.Header.{Header}
use Rattle.rules.specs.declared.Answer.{Answer}
use Rattle.rules.specs.Result.{found}
use Rattle.rules.specs.Case.{NodeLine, D, E, L, Case}
use Rattle.rules.specs.Tree.{Tree, leaf, preorder, root_line, may_claim, walk_tree}
use Rattle.rules.specs.Constraint.{holds_in, constraints_of, parts_of, first_broken_of, first_broken}
use Rattle.rules.specs.Verdict.{state_need, work_need, states_of, filled}
use Rattle.fields.specs.Directory.{IsRead, Finds}
use Rattle.tree.specs.Layout.{size, rows, directory_of, rows_in}

-- The fields of a case, the directory of its lines, its states and the rows of its tree, where they were left.
pub record Ready (k : Case) (t : Tree) (fields : List ℕ) (header : Header) (plan_line nodes : ℕ) (states work : List ℕ) : Type 0 where
  pub read : IsRead k
  pub head : header ≡ k.head
  pub plans : plan_line ≡ k.plan_line
  pub initial : ℕ
  pub plan : ℕ
  pub finds : Finds k fields work initial plan nodes
  pub room : work_need ≤ length work
  pub walks : (claimed : List ℕ) × (walk_tree k (may_claim k.plan) ≡ found (t, claimed))
  pub rows_held : take (3 * size t) (rows_in work) ≡ rows t 0
  pub state_size : ℕ
  pub state_room : state_need ≤ state_size
  pub states_held : states ≡ filled state_size 0 (flatten (states_of k))

-- The directory and the rows are left as they were.
pub record Leaves (before after : List ℕ) : Type 0 where
  pub same_size : length after ≡ length before
  pub directory : directory_of after ≡ directory_of before
  pub rows : rows_in after ≡ rows_in before

-- Whether a node line's letter names a method: D and E.
unfoldable pub names_method : ℕ → Bool
names_method letter = eqb letter (code "D") || eqb letter (code "E")

-- A node line's letter and its first number.
abbrev pub Labels : ℕ → ℕ → NodeLine → Type 0
Labels letter label (D m) = (names_method letter ≡ true) × (label ≡ m)
Labels letter label (E m g) = (names_method letter ≡ true) × (label ≡ m)
Labels letter label (L a i) = names_method letter ≡ false

-- The tree of node n, and its first broken constraint.
unfoldable pub node_of_tree : Tree → ℕ → Tree
node_of_tree t n = get_or (preorder t) n (leaf 0 0)

unfoldable pub broken_of_node : Case → Tree → ℕ → ℕ → Option Answer
broken_of_node k t line n = first_broken_of (holds_in (states_of k)) (parts_of (node_of_tree t n)) line 0 (constraints_of k (node_of_tree t n))

-- Node n, whose line has this letter and first number, among what the phases before left, with so many states.
pub record NodeReady (k : Case) (t : Tree) (fields : List ℕ) (held : ℕ) (states work : List ℕ) (n letter label : ℕ) : Type 0 where
  pub header : Header
  pub plan_line : ℕ
  pub nodes : ℕ
  pub ready : Ready k t fields header plan_line nodes states work
  pub counted : held ≡ k.head.cues + 1
  pub below : n < size t
  pub labels : Labels letter label (root_line (node_of_tree t n))

-- The first broken constraint of the tree.
unfoldable pub broken_of_tree : Case → Tree → Option Answer
broken_of_tree k t = first_broken k (holds_in (states_of k)) (k.plan_line + 1) (preorder t)
