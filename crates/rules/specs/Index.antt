-- Indexes and spans (01, "Indexes"). Every index here is doubled: twice 01's index. Assumes nothing.
use Rattle.std.specs.Prelude.{Bool, cond, ℕ, zero, suc, ◌+◌, ◌*◌, ◌/◌, min, max, eqb, ltb}
use mathlib.Core.List.{List, [], ◌∷◌, ◌++◌, map, foldr}
use Rattle.rules.specs.State.{bit}

-- The start and the end of a task.
pub record Span : Type 0 where
  pub start : ℕ
  pub end : ℕ

-- "The program carries twice the index: cue i is 2i, gap g is 2g + 1."
unfoldable pub of_cue : ℕ → ℕ
of_cue i = 2 * i

unfoldable pub of_gap : ℕ → ℕ
of_gap g = 2 * g + 1

-- "Cue i has start = end = i. A task decomposed by an empty method sits in a gap g, 0 to k, with start = end = g + 1/2."
unfoldable pub at : ℕ → Span
at index = record { start = index; end = index }

-- "Any other compound task starts at the least start and ends at the greatest end of its subtasks, empty ones counted."
unfoldable pub least : List ℕ → ℕ
least [] = 0
least (x ∷ l) = foldr min x l

unfoldable pub greatest : List ℕ → ℕ
greatest l = foldr max 0 l

unfoldable pub hull : List Span → Span
hull l = record { start = least (map (λ s. s.start) l); end = greatest (map (λ s. s.end) l) }

-- A part of a task: the whole of it, or some of its subtasks, by their numbers from 0.
pub data Part : Type 0 where
  whole : Part
  those : (ℕ → Bool) → Part

-- "sets of subtasks as one number, bit j for subtask j, [..]; 0 is the whole task"
unfoldable pub part_of : ℕ → Part
part_of zero = whole
part_of (suc u) = those (bit (suc u))

-- Subtask i alone.
unfoldable pub only : ℕ → Part
only i = those (eqb i)

-- Of the spans of the subtasks from j on, those of the members.
unfoldable pub pick : (ℕ → Bool) → ℕ → List Span → List Span
pick in? j [] = []
pick in? j (s ∷ l) = cond (in? j) (s ∷ []) [] ++ pick in? (suc j) l

-- "A set of subtasks does the same over its members." The span of a part, from the task's own and those of its subtasks.
unfoldable pub span_of_part : Span → List Span → Part → Span
span_of_part own subtasks whole = own
span_of_part own subtasks (those in?) = hull (pick in? 0 subtasks)

-- "With c = start rounded up and f = end rounded down": the only ways from a doubled index to a state's number.
unfoldable pub rounded_up : ℕ → ℕ
rounded_up index = (index + 1) / 2

unfoldable pub rounded_down : ℕ → ℕ
rounded_down index = index / 2

unfoldable pub c : Span → ℕ
c s = rounded_up s.start

unfoldable pub f : Span → ℕ
f s = rounded_down s.end

-- "T before V holds if f(T) < c(V)."
unfoldable pub is_before : Span → Span → Bool
is_before t v = ltb (f t) (c v)
