-- Entries in a list: a store into a slot is a store of an entry, and leaves the others. Assumes nothing.
use mathlib.Core.Path.{◌≡◌, sym, ap, subst, ◌∙◌}
use mathlib.Core.List.{List}
use Prim.Native.Nat.{ℕ, ◌<◌}
use native.Mathlib.Decide.{ℕ_discrete}
use lib.ListN.{length, set}
use lib.Seq.{get_or-set_same, get_or-set_other}
use Rattle.blames.specs.declared.entry.Entry.{Entry}
use Rattle.blames.specs.Entries.{no_entry, entry_at, SlotInside}

-- ---- an entry

-- The store of `push`.
abbrev pub put : List Entry → ℕ → Entry → List Entry
put pool at x = set pool at x

module _ (pool : List Entry) (slot : ℕ) (x : Entry) where
  pub put_same : SlotInside pool slot → entry_at (put pool slot x) slot ≡ x
  put_same r = get_or-set_same pool slot x no_entry r

  pub put_other : (i : ℕ) → (i ≡ slot → ⊥) → entry_at (put pool slot x) i ≡ entry_at pool i
  put_other i n = get_or-set_other pool slot i x no_entry n

-- ---- what holds of every entry

-- After a store it holds of every entry if it does of the one that is stored.
pub each_put : (P : Entry → Type 0) (pool pool' : List Entry) (slot : ℕ) (x : Entry) → length pool' ≡ length pool → entry_at pool' slot ≡ x
    → ((i : ℕ) → (i ≡ slot → ⊥) → entry_at pool' i ≡ entry_at pool i) → P x → ((i : ℕ) → SlotInside pool i → P (entry_at pool i))
    → (i : ℕ) → SlotInside pool' i → P (entry_at pool' i)
each_put P pool pool' slot x size same others h all i inside = go (ℕ_discrete i slot)
  where
    go : Dec (i ≡ slot) → P (entry_at pool' i)
    go (yes e) = subst P (sym (ap (entry_at pool') e ∙ same)) h
    go (no n) = subst P (sym (others i n)) (all i (subst (λ (k : ℕ). i < k) size inside))
