-- A table by hash with open addressing, over any keys. A key is a test of entries: whether the entry e has it. Assumes nothing.
use Rattle.std.specs.Prelude.{◌≡◌, Bool, true, false, List, [], ◌∷◌, ℕ, zero, suc, ◌+◌, ◌-◌, ◌≤◌, ltb, length, get_or, set, Option, None, Some}
use Rattle.probing.specs.declared.Look.{Look}
use Rattle.probing.specs.declared.Look.TheVariants.{Empty, Same, Other}
use Rattle.probing.specs.declared.Walk.{Walk}
use Rattle.probing.specs.declared.Walk.TheVariants.{Hit, Free, Full}

-- ---- What is right, with no table in it

-- What was found so far stays; else it is the entry n if that one has the key.
abbrev pub earlier : Option ℕ → Bool → ℕ → Option ℕ
earlier (Some e) b n = Some e
earlier None true n = Some n
earlier None false n = None

-- The first of the entries 0 to n - 1 that has the key.
abbrev pub first : (ℕ → Bool) → ℕ → Option ℕ
first same zero = None
first same (suc n) = earlier (first same n) (same n) n

-- ---- What the table does

-- The one or the other, by a test.
abbrev pub pick_spot : Bool → ℕ → ℕ → ℕ
pick_spot true a b = a
pick_spot false a b = b

-- The slot that is d further than slot h of `size`, slot 0 after the last.
unfoldable pub spot_of : ℕ → ℕ → ℕ → ℕ
spot_of size h d = pick_spot (ltb (h + d) size) (h + d) (h + d - size)

-- What a slot with the entry e tells, by whether e has the key.
abbrev pub looked : Bool → ℕ → Look
looked true e = Same e
looked false e = Other

-- What a slot with the number v tells: 0 is a free one, e + 1 the entry e.
abbrev pub look_of : (ℕ → Bool) → ℕ → Look
look_of same zero = Empty
look_of same (suc e) = looked (same e) e

-- One step of a walk: it ends at slot p, or is the walk w from the next slot on.
abbrev pub turn : Look → ℕ → Walk → Walk
turn Empty p w = Free p
turn (Same e) p w = Hit e
turn Other p w = w

-- A walk over f slots, from the one that is d further than h.
abbrev pub walk_from : (ℕ → Bool) → List ℕ → ℕ → ℕ → ℕ → ℕ → Walk
walk_from same slots size h zero d = Full
walk_from same slots size h (suc f) d =
    turn (look_of same (get_or slots (spot_of size h d) 0)) (spot_of size h d) (walk_from same slots size h f (d + 1))

-- The walk from slot h over all slots.
abbrev pub walk : (ℕ → Bool) → List ℕ → ℕ → Walk
walk same slots h = walk_from same slots (length slots) h (length slots) 0

-- What a walk has found.
abbrev pub answer : Walk → Option ℕ
answer (Hit e) = Some e
answer (Free p) = None
answer Full = None

-- What a test answers of each entry that the slots hold is whether it has the key.
abbrev pub Tells : (ℕ → Bool → Type 0) → List ℕ → (ℕ → Bool) → Type 0
Tells gives slots same = (i e : ℕ) (b : Bool) → get_or slots i 0 ≡ suc e → gives e b → b ≡ same e

-- The slots with the entry n where a walk ended, if it ended at a free one.
abbrev pub with_entry : Walk → ℕ → List ℕ → List ℕ
with_entry (Hit e) n slots = slots
with_entry (Free p) n slots = set slots p (suc n)
with_entry Full n slots = slots

-- How many slots are taken.
abbrev pub used : List ℕ → ℕ
used [] = 0
used (zero ∷ l) = used l
used (suc v ∷ l) = suc (used l)

-- The table has the entries 0 to n - 1: for every key the walk from its hash finds the first of them that has it. (The slots hold no later
-- entry, and no more of them are taken than there are entries.)
pub record Kept {K : Type 0} (same : K → ℕ → Bool) (hash : K → ℕ) (slots : List ℕ) (n : ℕ) : Type 0 where
  pub finds : (k : K) → answer (walk (same k) slots (hash k)) ≡ first (same k) n
  pub low : (i : ℕ) → get_or slots i 0 ≤ n
  pub room : used slots ≤ n
