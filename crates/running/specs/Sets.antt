-- The sets that stand among the fields, and an action's four sets as words of a table. Assumes nothing.
use Rattle.std.specs.Prelude.{◌≡◌, Bool, List, [], ◌∷◌, ℕ, ◌+◌, ◌*◌, ◌≤◌, ◌<◌, length, get_or, take, drop}
use Rattle.rules.specs.State.{State, Action}
use Rattle.rules.specs.Fields.{propositions_of, line_fields, action_line}
use Rattle.rules.specs.Refusals.{Each}
use Rattle.rules.proofs.Judgement.Sound.{GoodAction}
use Rattle.state.specs.Words.{widened_action, Steps}
use Rattle.fields.specs.Standing.{Stands}
use Rattle.rows.specs.Rows.{stretch_at}

-- "A list is its count followed by its members": so many numbers after the count, and the place after them.
unfoldable pub members_at : List ℕ → ℕ → List ℕ
members_at fields at = take (get_or fields at 0) (drop (at + 1) fields)

unfoldable pub past : List ℕ → ℕ → ℕ
past fields at = at + 1 + get_or fields at 0

-- A set whose propositions lie in its first n words.
abbrev pub Fits : ℕ → State → Type 0
Fits n s = Each (λ p. p < 64 * n) (propositions_of s)

-- The four sets of an action.
abbrev pub sets_of : Action → List State
sets_of a = a.needed ∷ a.forbidden ∷ a.added ∷ a.deleted ∷ []

-- Some action's line stands at a place, with sets of n words.
abbrev pub HasAction : ℕ → List ℕ → ℕ → Type 0
HasAction n fields at = (a : Action) × Each (Fits n) (sets_of a) × Stands fields at (line_fields (action_line a))

-- x is the action whose line stands at a place.
abbrev pub IsAction : List ℕ → ℕ → Action → Type 0
IsAction fields at x = (a : Action) → GoodAction a → Stands fields at (line_fields (action_line a)) → x ≡ a

-- The step of that action makes t of the first words s of a state.
abbrev pub IsStep : List ℕ → ℕ → List ℕ → Bool → List ℕ → Type 0
IsStep fields at s ok t = (a : Action) → GoodAction a → Stands fields at (line_fields (action_line a)) → Steps s a ok t

-- "An action has four sets"
abbrev pub set_count : ℕ
set_count = 4

-- The action whose sets are words, n for each set.
unfoldable pub action_in : ℕ → List ℕ → Action
action_in n words = widened_action (stretch_at n words 0) (stretch_at n words 1) (stretch_at n words 2) (stretch_at n words 3)

-- The table has the sets of the first `count` actions, whose lines the directory finds.
pub record Holds (fields directory table : List ℕ) (n count : ℕ) : Type 0 where
  pub room : set_count * n * count ≤ length table
  pub right : (i : ℕ) → i < count → IsAction fields (get_or directory i 0) (action_in n (stretch_at (set_count * n) table i))
