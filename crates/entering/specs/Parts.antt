-- The parts of a task: those of its subtasks in a list, and that of a set of subtasks. Assumes nothing.
use Rattle.std.specs.Prelude.{◌≡◌, ℕ, zero, suc, ◌<◌, ◌≤◌, min, max, length, get_or}
use mathlib.Core.List.{List, [], ◌∷◌, head_d, tail}
use Rattle.std.specs.Int.Bits.{bit_or}
use Rattle.rules.specs.Index.{Span}
use Rattle.subsets.specs.Members.{members_of}
use Rattle.entering.specs.declared.sums.Part.{Part}
use Rattle.entering.specs.Entering.{Tells}

-- Two parts together.
unfoldable pub joined : Part → Part → Part
joined p q = record { low = min p.low q.low; high = max p.high q.high; set = bit_or p.set q.set }

-- What a subtask has that is not there.
abbrev pub absent : Part
absent = record { low = 0; high = 0; set = 0 }

-- The part of subtask j.
abbrev pub part_in : List Part → ℕ → Part
part_in sums j = get_or sums j absent

-- A part with those of some subtasks, one at a time.
abbrev pub joined_with : List Part → Part → List ℕ → Part
joined_with sums p [] = p
joined_with sums p (m ∷ ms) = joined_with sums (joined p (part_in sums m)) ms

-- The part of a set of subtasks: "0 is the whole task".
unfoldable pub part_of_set : List Part → Part → ℕ → Part
part_of_set sums own zero = own
part_of_set sums own (suc u) = joined_with sums (part_in sums (head_d (members_of (suc u)) 32)) (tail (members_of (suc u)))

-- What a subtask that is not there has.
unfoldable pub no_span : Span
no_span = record { start = 0; end = 0 }

-- The parts tell the spans that a task and its subtasks have with every choice.
pub record PartsTell (k e : ℕ) (owns : List ℕ → Span) (subs : List ℕ → List Span) (count : ℕ) (own : Part) (sums : List Part) : Type 0 where
  pub few : count ≤ 32
  pub counted : (gs : List ℕ) → length (subs gs) ≡ count
  pub whole : Tells k e owns own
  pub each : (j : ℕ) → j < count → Tells k e (λ gs. get_or (subs gs) j no_span) (part_in sums j)
