-- A node's line, a method's line, and how the one fits the task expected there, as the code takes them from the fields. Assumes nothing.
use Rattle.std.specs.Prelude.{Bool, true, false, not, List, ℕ, ◌+◌, ◌≤◌, ◌<◌, eqb, ltb, length, get_or, take, drop, Result, Ok, Err}
use Rattle.rules.specs.declared.Answer.{Answer}
use Rattle.rules.specs.declared.Answer.TheVariants.{WrongTask, WrongLetter}
use Rattle.rules.specs.Case.{NodeLine, D, E, L, node_of, Case}
use Rattle.fields.specs.Directory.{methods_from}
use Rattle.tree.specs.declared.fit.Place.{Place}
use Rattle.tree.specs.declared.fit.Subtasks.{Subtasks}
use Rattle.tree.specs.declared.fit.Entry.{Entry}
use Rattle.tree.specs.declared.fit.Entry.TheVariants.{Task, Empty, Leaf}
use Rattle.tree.specs.declared.fit.MethodHead.{MethodHead}
use Rattle.tree.specs.declared.fit.Fit.{Fit}
use Rattle.tree.specs.declared.fit.Fit.TheVariants.{Open, Empty as EmptyFit, Leaf as LeafFit}
use Rattle.tree.specs.Layout.{NodesFrom}

-- The line of a node, where the P line has the number `plan`.
unfoldable pub line_at : ℕ → ℕ → ℕ
line_at plan n = plan + 1 + n

-- A place where the node lines stand, from its node on.
pub record Follows (k : Case) (fields : List ℕ) (p : Place) : Type 0 where
  pub nodes : NodesFrom k fields p.node p.at
  pub within : p.node ≤ k.head.nodes

-- A node line as an entry, and the one that stands at a place: its letter and two numbers, of which D has only the first.
abbrev pub as_entry : NodeLine → Entry
as_entry (D m) = Task m
as_entry (E m g) = Empty m g
as_entry (L a i) = Leaf a i

unfoldable pub entry_at : List ℕ → ℕ → Entry
entry_at fields at = as_entry (node_of (get_or fields at 0) (get_or fields (at + 1) 0) (get_or fields (at + 2) 0))

-- The method line at a place: its letter, its compound task, its subtask count, its subtasks.
unfoldable pub method_head : List ℕ → ℕ → MethodHead
method_head fields at = record { task = get_or fields (at + 1) 0; subtasks = record { count = get_or fields (at + 2) 0; at = at + 3 } }

abbrev pub head_in : List ℕ → List ℕ → ℕ → MethodHead
head_in fields directory m = method_head fields (get_or directory (methods_from + m) 0)

-- The directory has a place for method m, and the head of a method line lies inside the fields there.
pub record HeadWithin (fields directory : List ℕ) (m : ℕ) : Type 0 where
  pub low : m < 2048
  pub room : 3072 ≤ length directory
  pub inside : get_or directory (methods_from + m) 0 + 3 ≤ length fields

abbrev pub MethodWithin : List ℕ → List ℕ → Entry → Type 0
MethodWithin fields directory (Task m) = HeadWithin fields directory m
MethodWithin fields directory (Empty m g) = HeadWithin fields directory m
MethodWithin fields directory (Leaf a i) = Unit {0}

abbrev pub pick_fit : Bool → Result Fit Answer → Result Fit Answer → Result Fit Answer
pick_fit true f g = f
pick_fit false f g = g

-- A fit, if the node is of the task and its letter is right: 6, then 20.
abbrev pub fit_if : Bool → Bool → Fit → ℕ → Result Fit Answer
fit_if own letter fit line = pick_fit own (pick_fit letter (Ok fit) (Err (WrongLetter line))) (Err (WrongTask line))

-- "an action leaf for an action; for a compound task one of its own methods", not empty for D and empty for E
unfoldable pub fit_of : List ℕ → List ℕ → Entry → Place → ℕ → ℕ → Result Fit Answer
fit_of fields directory (Task m) next task line =
    fit_if (eqb (head_in fields directory m).task task) (not (eqb (head_in fields directory m).subtasks.count 0))
    (Open (head_in fields directory m).subtasks next) line
fit_of fields directory (Empty m g) next task line =
    fit_if (eqb (head_in fields directory m).task task) (eqb (head_in fields directory m).subtasks.count 0) (EmptyFit g next) line
fit_of fields directory (Leaf a i) next task line = fit_if (eqb a task) true (LeafFit a i next) line

-- At level 65 nothing fits.
unfoldable pub at_level : ℕ → Fit → Answer → Result Fit Answer
at_level level fit deep = pick_fit (ltb level 65) (Ok fit) (Err deep)

-- The subtasks: the numbers that stand there.
abbrev pub subtasks_in : List ℕ → Subtasks → List ℕ
subtasks_in fields s = take s.count (drop s.at fields)

-- There is one at least, and all lie inside the fields.
pub record SubtasksWithin (fields : List ℕ) (s : Subtasks) : Type 0 where
  pub some : 0 < s.count
  pub inside : s.at + s.count ≤ length fields
