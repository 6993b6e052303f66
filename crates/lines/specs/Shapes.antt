-- How the line reader's constant table writes the rows of 01's table: a number with a byte for the line's role and one for each of its items.
-- Assumes nothing.
use Rattle.std.specs.Prelude.{true, false, List, [], ◌∷◌, ℕ, zero, suc, ◌/◌, ◌%◌, eqb, ltb, get_or}
use Rattle.std.proofs.Math.Option.{Option, none, some}
use Rattle.rules.specs.State.{proposition_most}
use Rattle.rules.specs.Table as T
use Rattle.rules.specs.Table.{Kind, Item, one, set, subtaskList, cues, Row, role_number}

-- The kinds of numbers by their bytes, from 0 to 19. The two that ask for more than a range come early, and a task comes twice.
abbrev pub kinds : List Kind
kinds =
    T.task
    ∷ T.goal
    ∷ T.otherSubtask
    ∷ T.up_to proposition_most
    ∷ T.up_to 1024
    ∷ T.up_to 2048
    ∷ T.up_to 1000
    ∷ T.one_up_to 3000
    ∷ T.compound
    ∷ T.up_to 64
    ∷ T.subtask
    ∷ T.proposition
    ∷ T.subtaskSet
    ∷ T.aMethod
    ∷ T.gap
    ∷ T.an_action
    ∷ T.position
    ∷ T.up_to 32
    ∷ T.memberCount
    ∷ T.task
    ∷ []

unfoldable pub kind_of : ℕ → Kind
kind_of b = get_or kinds b T.task

-- The item that a byte stands for: a number of a kind, a set, a list of subtasks, and from 22 on the cues.
unfoldable pub item_of : ℕ → Item
item_of b =
    elim (ltb b 20) [
      | true ↦ one (kind_of b)
      | false ↦ elim (eqb b 20) [ true ↦ set | false ↦ elim (eqb b 21) [ true ↦ subtaskList | false ↦ cues ] ]
    ]

-- The items of the bytes of a number, lowest first, up to its last byte that is not 0.
abbrev pub items_in : ℕ → ℕ → List Item
items_in zero rest = []
items_in (suc n) rest = elim (eqb rest 0) [ true ↦ [] | false ↦ item_of (rest % 256) ∷ items_in n (rest / 256) ]

-- A line has at most seven items.
unfoldable pub items_of : ℕ → List Item
items_of rest = items_in 7 rest

-- The role and the items that a shape stands for.
unfoldable pub shape_row : ℕ → ℕ × List Item
shape_row shape = (shape % 256, items_of (shape / 256))

-- The same of a row of 01's table: nothing for a byte that starts no line.
unfoldable pub row_shown : Option Row → ℕ × List Item
row_shown none = (0, [])
row_shown (some r) = (role_number r.role, r.items)
