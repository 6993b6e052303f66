-- The first cue that doesn't apply, if any: state 0 is where the run starts and the later states are those of the rest of the plan, so by
-- recursion on the plan each cue is tried in its own state.
use mathlib.Core.Path.{◌≡◌, refl, sym, ◌∙◌}
use mathlib.Core.Bool.{Bool, true, false, false≢true}
use mathlib.Core.List.{List, [], ◌∷◌}
use mathlib.Core.Option.{Option, none, some}
use Prim.Native.Nat.{ℕ, zero, suc, ◌+◌, ◌<◌}
use native.Mathlib.Omega.{arith}
use lib.ListN.{length, get_or}
use Rattle.rules.specs.State.{State, Action, applies, next, action_at, states, state_at, first_stop}

-- Cue j + 1 applies in state j.
abbrev pub applies_at : List Action → List ℕ → State → ℕ → Bool
applies_at actions plan s j = applies (state_at (states actions plan s) j) (action_at actions (get_or plan j 0))

-- Of the cues, counted from i: all apply; or the first that doesn't.
abbrev pub StopSays : List Action → List ℕ → State → ℕ → Option ℕ → Type 0
StopSays actions plan s i none = (j : ℕ) → j < length plan → applies_at actions plan s j ≡ true
StopSays actions plan s i (some p) =
    (j : ℕ) × (p ≡ i + j) × (j < length plan) × (applies_at actions plan s j ≡ false) × ((l : ℕ) → l < j → applies_at actions plan s l ≡ true)

pub stop_says : (actions : List Action) (plan : List ℕ) (s : State) (i : ℕ) → StopSays actions plan s i (first_stop actions plan s i)
unfolding states state_at first_stop
stop_says actions [] s i = λ j h. absurd (omega arith)
stop_says actions (a ∷ plan) s i =
    go (applies s (action_at actions a)) refl (first_stop actions plan s' (i + 1)) (stop_says actions plan s' (i + 1))
  where
    s' : State
    s' = next s (action_at actions a)

    first : applies s (action_at actions a) ≡ true → (j : ℕ) → ((l : ℕ) → l < j → applies_at actions plan s' l ≡ true) → (l : ℕ) → l < suc j
        → applies_at actions (a ∷ plan) s l ≡ true
    first e j f zero h = e
    first e j f (suc l) h = f l (omega arith)

    later : applies s (action_at actions a) ≡ true → (o : Option ℕ) → StopSays actions plan s' (i + 1) o → StopSays actions (a ∷ plan) s i o
    later e none f = first e (length plan) f
    later e (some p) w = (suc w.0, omega arith, omega arith, w.3, first e w.0 w.4)

    go : (b : Bool) → applies s (action_at actions a) ≡ b → (o : Option ℕ) → StopSays actions plan s' (i + 1) o
        → StopSays actions (a ∷ plan) s i (elim b [ true ↦ o | false ↦ some i ])
    go true e o f = later e o f
    go false e o f = (0, omega arith, omega arith, e, λ l h. absurd (omega arith))

pub no_stop : (actions : List Action) (plan : List ℕ) (s : State) (i : ℕ) → ((j : ℕ) → j < length plan → applies_at actions plan s j ≡ true)
    → first_stop actions plan s i ≡ none
no_stop actions plan s i f = go (first_stop actions plan s i) (stop_says actions plan s i)
  where
    go : (o : Option ℕ) → StopSays actions plan s i o → o ≡ none
    go none w = refl
    go (some p) w = absurd (false≢true (sym w.3 ∙ f w.0 w.2))
