-- What the test of a constraint reads of the lists. Assumes nothing.
use Rattle.std.specs.Prelude.{List, ℕ, ◌≤◌, ◌<◌}
use Rattle.rules.specs.Index.{Span, part_of, span_of_part, c, f}
use Rattle.rules.specs.Case.{Constraint, O, B, F, W}
use Rattle.rules.specs.Refusals.{Each}
use Rattle.subsets.specs.Members.{members_of}
use Rattle.parts.specs.Spans.{spans_in, SubtaskInside}

-- The states around a span are among the first n: c - 1 and f, and those before c.
pub record Timed (n : ℕ) (s : Span) : Type 0 where
  pub past_first : 1 ≤ c s
  pub before_start : c s ≤ n
  pub at_end : f s < n

-- The subtasks of a set lie inside the work space, and the states around it are among the first n.
pub record PartInside (work : List ℕ) (n : ℕ) (own : Span) (u : ℕ) : Type 0 where
  pub subtasks : Each (SubtaskInside work) (members_of u)
  pub timed : Timed n (span_of_part own (spans_in work) (part_of u))

-- What the test of a constraint reads, of a state list that holds n states.
abbrev pub Tested : List ℕ → ℕ → Span → Constraint → Type 0
Tested work n own (O i j) = SubtaskInside work i × SubtaskInside work j
Tested work n own (B s p u) = PartInside work n own u
Tested work n own (F s p u) = PartInside work n own u
Tested work n own (W s u p v) = PartInside work n own u × PartInside work n own v
