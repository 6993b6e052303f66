-- The fields of a case that was read, and the directory of its lines: what every phase after reading goes by. Assumes nothing.
use Rattle.std.specs.Prelude.{◌≡◌, true, false, List, map, ℕ, ◌+◌, ◌*◌, ◌<◌, ◌≤◌, eqb, length, get_or}
use Prim.Native.Char.{code}
use Rattle.rules.specs.State.{action_at}
use Rattle.rules.specs.Result.{found}
use Rattle.rules.specs.Case.{Case, method_at, read_case}
use Rattle.rules.specs.Fields.{line_fields, lines_fields, initial_line, action_line, method_lines, cues_line, node_line, fields_of}
use Rattle.rules.specs.Verdict.{text_most}
use Rattle.fields.specs.Standing.{Stands}

-- Every field takes at least two bytes, so that half as many places as the text has bytes suffice.
abbrev pub Roomy : List ℕ → List ℕ → Type 0
Roomy text fields = length text < 2 * length fields

-- Where the places of the methods start in the directory, after those of the actions (01: at most 1,024 actions, 2,048 methods).
unfoldable pub methods_from : ℕ
methods_from = 1024

unfoldable pub directory_size : ℕ
directory_size = 3072

-- The case is what some text reads as.
pub record IsRead (k : Case) : Type 0 where
  pub text : List ℕ
  pub short : length text ≤ text_most
  pub reads : read_case text ≡ found k

-- The directory of a case: the place of each action's line among the fields, and from `methods_from` on that of each method's; and the places
-- of the I line, the P line and the first node line.
pub record Finds (k : Case) (fields directory : List ℕ) (initial plan nodes : ℕ) : Type 0 where
  pub initial_here : Stands fields initial (line_fields (initial_line k.initial))
  pub action_here : (a : ℕ) → a < k.head.actions → Stands fields (get_or directory a 0) (line_fields (action_line (action_at k.actions a)))
  pub method_here : (m : ℕ) → m < k.head.methods
      → Stands fields (get_or directory (methods_from + m) 0) (lines_fields (method_lines (method_at k.methods m)))
  pub plan_here : Stands fields plan (line_fields (cues_line k.plan))
  pub nodes_here : Stands fields nodes (lines_fields (map node_line k.nodes))

-- The node lines, whose first stands at a place, come last among the fields.
abbrev pub NodesLast : Case → ℕ → Type 0
NodesLast k nodes = nodes + length (lines_fields (map node_line k.nodes)) ≡ length (fields_of k)

-- How many fields a node line has, by its letter: D has two, E and L three.
unfoldable pub node_size : ℕ → ℕ
node_size letter = elim (eqb letter (code "D")) [ true ↦ 2 | false ↦ 3 ]
