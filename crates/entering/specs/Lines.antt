-- The entry of a constraint, by its line and by the parts of its task. Assumes nothing.
use Rattle.std.specs.Prelude.{Bool, true, false, ℕ, ◌<◌}
use mathlib.Core.List.{List, Memᴰ as Mem}
use Rattle.rules.specs.Case.{Constraint, O, B, F, W, is_either}
use Rattle.rules.specs.Constraint.{Holds}
use Rattle.blames.specs.declared.entry.Entry.{Entry}
use Rattle.blames.specs.Entries.{EntryFits, EntrySound}
use Rattle.constraints.specs.declared.method.Line.{Line}
use Rattle.constraints.specs.Methods.{meant}
use Rattle.entering.specs.declared.sums.Part.{Part}
use Rattle.entering.specs.Parts.{part_in, part_of_set}

-- The subtasks that O names are among 32.
abbrev pub InSums : Constraint → Type 0
InSums (O i j) = (i < 32) × (j < 32)
InSums (B s p u) = Unit {0}
InSums (F s p u) = Unit {0}
InSums (W s u p v) = Unit {0}

-- One entry from the end part and the start part: of B only the start counts, of F only the end.
abbrev pub entry_from : Line → ℕ → Part → Part → Entry
entry_from d p ends starts = record { letter = d.letter; p = p; end = ends.high; ends = ends.set; start = starts.low; starts = starts.set }

-- A part that says nothing, at the end and at the start.
abbrev pub no_part : Part
no_part = record { low = 1; high = 0; set = 0 }

abbrev pub between_entry : Line → Part → List Part → Entry
between_entry d own sums = entry_from d d.second (part_of_set sums own d.first) (part_of_set sums own d.third)

abbrev pub after_entry : Line → Part → List Part → Entry
after_entry d own sums = entry_from d d.first (part_of_set sums own d.second) no_part

abbrev pub before_entry : Line → Part → List Part → Entry
before_entry d own sums = entry_from d d.first no_part (part_of_set sums own d.second)

abbrev pub order_entry : Line → List Part → Entry
order_entry d sums = entry_from d 0 (part_in sums d.first) (part_in sums d.second)

unfoldable pub entry_of : Line → Part → List Part → Entry
entry_of d own sums =
    elim (is_either d.letter 87 119) [
      | true ↦ between_entry d own sums
      | false ↦
          elim (is_either d.letter 70 102) [
            | true ↦ after_entry d own sums
            | false ↦ elim (is_either d.letter 66 98) [ true ↦ before_entry d own sums | false ↦ order_entry d sums ]
          ]
    ]

-- The entries of constraints are sound where they fit.
abbrev pub EntriesSound : Holds → (List ℕ → Bool) → ℕ → ℕ → Part → List Part → List Constraint → Type 0
EntriesSound holds passing k e own sums cs =
    (d : Line) → Mem (meant d) cs → EntryFits k e (entry_of d own sums) → EntrySound holds passing k e (entry_of d own sums)
