-- The fields of a case, in the order of its text: the other way from reading (Table, Case), by the same table. A field is one number: a
-- line's letter as its byte, any other field as its value. Assumes nothing.
use Rattle.std.specs.Prelude.{true, false, ℕ, zero, suc, ◌+◌, ◌*◌, length}
use mathlib.Core.List.{List, [], ◌∷◌, ◌++◌, map, flatten}
use Rattle.std.proofs.Math.Option.{Option, none, some}
use Prim.Native.Char.{Char, code}
use Rattle.rules.specs.declared.Header.{Header}
use Rattle.rules.specs.declared.Sign.{Sign}
use Rattle.rules.specs.declared.Sign.TheVariants.{Positive, Negative}
use Rattle.rules.specs.State.{State, Action, word_count, member}
use Rattle.rules.specs.Table.{Item, one, set, subtaskList, cues, Row, row_of, Value, scalar, listed, number_of}
use Rattle.rules.specs.Case.{Constraint, O, B, F, W, Method, NodeLine, D, E, L, Case, Valued, list_of}

-- ---- A line

-- "A list is its count followed by its members"; the k actions of the plan have no count.
abbrev pub item_fields : Item → Value → List ℕ
item_fields (one kind) v = number_of v ∷ []
item_fields set v = number_of v ∷ list_of v
item_fields subtaskList v = number_of v ∷ list_of v
item_fields cues v = list_of v

abbrev pub items_fields : List Item → List Value → List ℕ
items_fields [] vs = []
items_fields (i ∷ is) [] = []
items_fields (i ∷ is) (v ∷ vs) = item_fields i v ++ items_fields is vs

abbrev pub row_items : Option Row → List Item
row_items none = []
row_items (some r) = r.items

-- A line's letter, and its values by the items of the letter's row.
unfoldable pub line_fields : Valued → List ℕ
line_fields x = x.0 ∷ items_fields (row_items (row_of x.0)) x.1

-- Lines in turn.
abbrev pub lines_fields : List Valued → List ℕ
lines_fields [] = []
lines_fields (x ∷ xs) = line_fields x ++ lines_fields xs

-- ---- What a case keeps, as the letters and values of its lines

-- Of the n numbers from p on, those that are in a set.
abbrev pub propositions_from : State → ℕ → ℕ → List ℕ
propositions_from s zero p = []
propositions_from s (suc n) p = elim (member s p) [ true ↦ p ∷ propositions_from s n (suc p) | false ↦ propositions_from s n (suc p) ]

-- "Sets are strictly ascending": the propositions of a set, whose words have 64 bits each.
unfoldable pub propositions_of : State → List ℕ
propositions_of s = propositions_from s (64 * word_count) 0

abbrev pub set_value : State → Value
set_value s = listed (propositions_of s)

-- "N, propositions [..], actions [..], compound tasks [..], methods [..], goal, k [..], nodes"
unfoldable pub header_line : Header → Valued
header_line h = (
  code "N",
  scalar h.propositions ∷ scalar h.actions ∷ scalar h.compounds ∷ scalar h.methods ∷ scalar h.goal ∷ scalar h.cues
      ∷ scalar h.nodes ∷ [],
)

-- "I, initial set."
unfoldable pub initial_line : State → Valued
initial_line s = (code "I", set_value s ∷ [])

-- "One A line per action: needed, forbidden, added, deleted."
unfoldable pub action_line : Action → Valued
action_line a = (code "A", set_value a.needed ∷ set_value a.forbidden ∷ set_value a.added ∷ set_value a.deleted ∷ [])

-- Of a condition's two letters the one of its sign.
abbrev pub signed_letter : Sign → Char → Char → ℕ
signed_letter Positive large small = code large
signed_letter Negative large small = code small

-- "O,i,j (i before j, i ≠ j, both subtask numbers); B,p,U (before); F,p,U (after); W,U,p,V (between)." "Lines b, f and w take the fields
-- of B, F and W" (02, Card 1).
unfoldable pub constraint_line : Constraint → Valued
constraint_line (O i j) = (code "O", scalar i ∷ scalar j ∷ [])
constraint_line (B s p u) = (signed_letter s "B" "b", scalar p ∷ scalar u ∷ [])
constraint_line (F s p u) = (signed_letter s "F" "f", scalar p ∷ scalar u ∷ [])
constraint_line (W s u p v) = (signed_letter s "W" "w", scalar u ∷ scalar p ∷ scalar v ∷ [])

-- "One M line per method: compound task, list of subtasks [..], constraint count c (0 to 64); then c lines of its own"
unfoldable pub method_lines : Method → List Valued
method_lines m =
    (code "M", scalar m.task ∷ listed m.subtasks ∷ scalar (length m.constraints) ∷ []) ∷ map constraint_line m.constraints

-- "P, then k actions"
unfoldable pub cues_line : List ℕ → Valued
cues_line plan = (code "P", listed plan ∷ [])

-- "D,m (method m, not empty); E,m,g (empty method m in gap g, 0 to k); L,a,i (action a at position i, 1 to k)."
unfoldable pub node_line : NodeLine → Valued
node_line (D m) = (code "D", scalar m ∷ [])
node_line (E m g) = (code "E", scalar m ∷ scalar g ∷ [])
node_line (L a i) = (code "L", scalar a ∷ scalar i ∷ [])

-- ---- The whole

-- The lines of a case, in their fixed order.
unfoldable pub lines_of : Case → List Valued
lines_of k =
    header_line k.head ∷ initial_line k.initial
    ∷ (map action_line k.actions ++ (flatten (map method_lines k.methods) ++ (cues_line k.plan ∷ map node_line k.nodes)))

unfoldable pub fields_of : Case → List ℕ
fields_of k = lines_fields (lines_of k)

-- The number of the P line: it comes after the header, the initial line, the actions' lines and the methods'.
unfoldable pub plan_line_of : List Action → List Method → ℕ
plan_line_of actions methods = 3 + length actions + length (flatten (map method_lines methods))
