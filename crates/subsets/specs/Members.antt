-- The members of a set of up to 32 subtasks that is one number, bit j for subtask j. Assumes nothing.
use Rattle.std.specs.Prelude.{Bool, cond, List, [], ◌∷◌, ◌++◌, ℕ, zero, suc}
use Rattle.rules.specs.State.{bit}

-- Of the n numbers from j on, those of which the test holds.
unfoldable pub chosen : (ℕ → Bool) → ℕ → ℕ → List ℕ
chosen in? zero j = []
chosen in? (suc n) j = cond (in? j) (j ∷ []) [] ++ chosen in? n (suc j)

-- The members of u, lowest first.
unfoldable pub members_of : ℕ → List ℕ
members_of u = chosen (bit u) 32 0
