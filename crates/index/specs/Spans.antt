-- The numbers of the code's indexes and state numbers, and its spans as those of the definitions. Assumes nothing.
use Rattle.std.specs.Prelude.{ℕ}
use Rattle.rules.specs.Index as rules
use Rattle.index.specs.declared.Doubled.{Doubled}
use Rattle.index.specs.declared.StateNumber.{StateNumber}
use Rattle.index.specs.declared.Span.{Span}

-- The number of a doubled index, and the doubled index of a number.
abbrev pub index_in : Doubled → ℕ
index_in d = d.0

abbrev pub doubled : ℕ → Doubled
doubled n = record { 0 = n }

-- The number of a state.
abbrev pub state_of : StateNumber → ℕ
state_of l = l.0

abbrev pub span_of : Span → rules.Span
span_of s = record { start = index_in s.start; end = index_in s.end }

-- A span of the code, from one of the definitions.
abbrev pub as_span : rules.Span → Span
as_span s = record { start = doubled s.start; end = doubled s.end }
