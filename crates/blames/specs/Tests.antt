-- What the tests of entries say of a choice of gaps. Assumes nothing.
use Rattle.std.specs.Prelude.{◌≡◌, false, List, ℕ, ◌<◌, Option, Some, None}
use Rattle.rules.specs.Constraint.{Holds}
use Rattle.blames.specs.declared.entry.Entry.{Entry}
use Rattle.blames.specs.declared.pool.Hit.{Hit}
use Rattle.blames.specs.Entries.{SlotInside, entry_at, entry_keeps, BrokenEntry}

-- A slot that is named is broken, and its turn is one of n.
abbrev pub Broken : Holds → List Entry → List ℕ → ℕ → Option Hit → Type 0
Broken holds pool gs n None = Unit {0}
Broken holds pool gs n (Some h) = SlotInside pool h.slot × (h.turn < n) × (entry_keeps holds (entry_at pool h.slot) gs ≡ false)

-- Positions that are named are those of a broken entry. Nothing is said where none is named.
abbrev pub Says : Holds → List Entry → List ℕ → Option ℕ → Type 0
Says holds pool gs None = Unit {0}
Says holds pool gs (Some m) = BrokenEntry holds pool gs m
