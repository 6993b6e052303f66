-- `decode`: the rows below i have the sets of the line, and the others are zero (Filling). Assumes nothing.
use Prim.Native.Nat.{ℕ, ◌+◌, ◌*◌}
use Rattle.rows.proofs.Filling.{Filling}
use Rattle.rules.specs.State.{insert_all}
use Rattle.running.proofs.SetFields.{place_of}
use Rattle.running.specs.Sets.{members_at, set_count}
use lib.ListN.{replicate}
use mathlib.Core.List.{List}
use mathlib.Core.Path.{◌≡◌}
use Rattle.running.proofs.sets.decode.Given as goal

-- s is set j of the line, in n words.
abbrev pub IsSetOf : List ℕ → ℕ → ℕ → ℕ → List ℕ → Type 0
IsSetOf fields at n j s = s ≡ insert_all (replicate n 0) (members_at fields (place_of fields (at + 1) j))

abbrev pub invariant-loop-i : goal.invariant-loop-i
invariant-loop-i l =
    (l.place ≡ place_of l.fields (l.at + 1) l.i) × Filling l.size set_count (set_count * l.size) (IsSetOf l.fields l.at l.size) l.words l.i
