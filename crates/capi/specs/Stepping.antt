-- What the step call takes and answers, as numbers. Assumes nothing.
use Rattle.std.specs.Prelude.{Bool, true, false, ℕ}
use Rattle.rules.specs.State.{State, Action}

-- A step's answer as a number, 1 for yes, beside the state.
abbrev pub step_reply : Bool × State → ℕ × State
step_reply x = (elim x.0 [ true ↦ 1 | false ↦ 0 ], x.1)

-- The action whose four sets are lent.
abbrev pub lent_action : State → State → State → State → Action
lent_action needed forbidden added deleted = record { needed = needed; forbidden = forbidden; added = added; deleted = deleted }
