-- `decode_actions`: the stretches below a have the sets of their actions, and the others are zero (Filling). Assumes nothing.
use Prim.Native.Nat.{ℕ, ◌*◌}
use Rattle.rows.proofs.Filling.{Filling}
use Rattle.running.specs.Sets.{IsAction, set_count, action_in}
use lib.ListN.{length, get_or}
use mathlib.Core.List.{List}
use Rattle.running.proofs.table.decode_actions.Given as goal

-- s has the sets of action j.
abbrev pub IsHeld : List ℕ → List ℕ → ℕ → ℕ → List ℕ → Type 0
IsHeld fields directory n j s = IsAction fields (get_or directory j 0) (action_in n s)

abbrev pub invariant-loop-a : goal.invariant-loop-a
invariant-loop-a l = Filling (set_count * l.size) l.count (length l.initial.table) (IsHeld l.fields l.directory l.size) l.table l.a
