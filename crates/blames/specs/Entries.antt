-- A constraint of a node whatever the gaps (02, Card 4): the index that its end part ends at and the one that its start part starts at, each
-- from a cue and from the gaps of some empty tasks; and what a list of such entries says of a choice of gaps. Assumes nothing.
use Rattle.std.specs.Prelude.{◌≡◌, Bool, true, false, List, [], ◌∷◌, ◌≢◌, ℕ, ◌+◌, ◌*◌, ◌^◌, ◌<◌, ◌≤◌, min, max, eqb, length, get_or}
use Rattle.std.specs.Int.Bits.{bit_or}
use Rattle.rules.specs.Index.{Span, Part, part_of, only, of_gap}
use Rattle.rules.specs.Case.{Constraint, O, B, F, W, constraint_of}
use Rattle.rules.specs.Constraint.{Holds, keeps}
use Rattle.rules.specs.Gaps.{Choice}
use Rattle.subsets.specs.Members.{members_of}
use Rattle.blames.specs.declared.entry.Entry.{Entry}

-- The least of an index and of the gaps of a choice at the positions of a list; the greatest.
abbrev pub lowest : ℕ → List ℕ → List ℕ → ℕ
lowest v [] gs = v
lowest v (s ∷ ss) gs = lowest (min v (of_gap (get_or gs s 0))) ss gs

abbrev pub highest : ℕ → List ℕ → List ℕ → ℕ
highest v [] gs = v
highest v (s ∷ ss) gs = highest (max v (of_gap (get_or gs s 0))) ss gs

-- Where the start part starts and the end part ends, with the gaps of a choice.
unfoldable pub edges : Entry → List ℕ → Span
edges x gs = record { start = lowest x.start (members_of x.starts) gs; end = highest x.end (members_of x.ends) gs }

-- The constraint of an entry's letter and proposition: of a span that starts where its start part does and ends where its end part does, it is
-- no matter which parts it names.
abbrev pub meant : Entry → Constraint
meant x = constraint_of x.letter x.p x.p x.p

-- Where a constraint's start part starts, and where its end part ends: of F the start is no matter, of B the end.
abbrev pub StartsAt : (Part → Span) → Constraint → ℕ → Type 0
StartsAt at (O i j) start = start ≡ (at (only j)).start
StartsAt at (B s p u) start = start ≡ (at (part_of u)).start
StartsAt at (F s p u) start = Unit {0}
StartsAt at (W s u p v) start = start ≡ (at (part_of v)).start

abbrev pub EndsAt : (Part → Span) → Constraint → ℕ → Type 0
EndsAt at (O i j) end = end ≡ (at (only i)).end
EndsAt at (B s p u) end = Unit {0}
EndsAt at (F s p u) end = end ≡ (at (part_of u)).end
EndsAt at (W s u p v) end = end ≡ (at (part_of u)).end

-- Whether p is the proposition that a constraint names: one that names none takes any.
abbrev pub Names : Constraint → ℕ → Type 0
Names (O i j) q = Unit {0}
Names (B s p u) q = q ≡ p
Names (F s p u) q = q ≡ p
Names (W s u p v) q = q ≡ p

-- Whether the constraint holds, with the gaps of a choice. An entry without a letter says nothing.
unfoldable pub entry_keeps : Holds → Entry → List ℕ → Bool
entry_keeps holds x gs = elim (eqb x.letter 0) [ true ↦ true | false ↦ keeps holds (λ part. edges x gs) (meant x) ]

-- The positions that it goes by.
unfoldable pub positions_of : Entry → ℕ
positions_of x = bit_or x.ends x.starts

-- Its indexes lie between the first gap and the last one of k cues, and its positions are below e.
pub record EntryFits (k e : ℕ) (x : Entry) : Type 0 where
  pub start_least : 1 ≤ x.start
  pub start_most : x.start ≤ 2 * k + 1
  pub end_most : x.end ≤ 2 * k + 1
  pub starts_below : x.starts < 2 ^ e
  pub ends_below : x.ends < 2 ^ e

-- Where it is broken the choice fails.
abbrev pub EntrySound : Holds → (List ℕ → Bool) → ℕ → ℕ → Entry → Type 0
EntrySound holds passing k e x = (gs : List ℕ) → Choice k e gs → entry_keeps holds x gs ≡ false → passing gs ≡ false

-- ---- Entries in a list of slots

-- No entry: what a slot past the list has.
abbrev pub no_entry : Entry
no_entry = record { letter = 0; p = 0; end = 0; ends = 0; start = 0; starts = 0 }

abbrev pub entry_at : List Entry → ℕ → Entry
entry_at pool i = get_or pool i no_entry

-- Slot i lies inside the list.
abbrev pub SlotInside : List Entry → ℕ → Type 0
SlotInside pool i = i < length pool

-- Every entry that has a letter fits; every entry is sound.
abbrev pub PoolFits : ℕ → ℕ → List Entry → Type 0
PoolFits k e pool = (i : ℕ) → SlotInside pool i → (entry_at pool i).letter ≢ 0 → EntryFits k e (entry_at pool i)

abbrev pub PoolSound : Holds → (List ℕ → Bool) → ℕ → ℕ → List Entry → Type 0
PoolSound holds passing k e pool = (i : ℕ) → SlotInside pool i → EntrySound holds passing k e (entry_at pool i)

-- An entry in the list is broken with the gaps of a choice, and these are the positions that it goes by.
pub record BrokenEntry (holds : Holds) (pool : List Entry) (gs : List ℕ) (m : ℕ) : Type 0 where
  pub slot : ℕ
  pub inside : SlotInside pool slot
  pub broken : entry_keeps holds (entry_at pool slot) gs ≡ false
  pub positions : m ≡ positions_of (entry_at pool slot)
