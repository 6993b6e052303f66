-- Sets in fewer words than a state has, and a step in those words. Assumes nothing.
use Rattle.std.specs.Prelude.{◌≡◌, Bool, List, ◌++◌, ℕ, ◌+◌, ◌-◌, length, replicate}
use Rattle.rules.specs.State.{State, Action, word_count, step}

-- The set whose first words these are: the words past them are zero.
unfoldable pub widened : List ℕ → State
widened ws = ws ++ replicate (word_count - length ws) 0

-- The action with such sets.
abbrev pub widened_action : List ℕ → List ℕ → List ℕ → List ℕ → Action
widened_action needed forbidden added deleted =
    record { needed = widened needed; forbidden = widened forbidden; added = widened added; deleted = widened deleted }

-- A step that makes t of the first words s of a state, and leaves the rest of it.
abbrev pub Steps : List ℕ → Action → Bool → List ℕ → Type 0
Steps s a ok t = (rest : List ℕ) → length s + length rest ≡ word_count → (ok, t ++ rest) ≡ step (s ++ rest) a
