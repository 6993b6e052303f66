-- What the steps of linking keep, a line or an id at a time. Assumes nothing.
use Rattle.std.specs.Prelude.{◌≡◌, Bool, true, false, ◌||◌, List, [], ◌∷◌, ◌++◌, map, ◌⊎◌, ℕ, suc, ◌+◌, ◌≤◌, ◌<◌, eqb, length, get_or, take, Option, None, Some}
use Rattle.rules.specs.Form.{times}
use Rattle.probing.specs.Probing.{first}
use Rattle.ids.specs.Ids.{same_id}

-- The link that the table's answer stands for.
abbrev pub link_to : Option ℕ → ℕ
link_to (Some e) = suc e
link_to None = 0

-- The link of an id, by the list of the ids that lines define.
abbrev pub link_in : List ℕ → ℕ → ℕ → ℕ
link_in ids count id = link_to (first (same_id ids id) count)

-- The line d is the first that defines its id.
abbrev pub Opens : List ℕ → ℕ → Type 0
Opens ids d = (c : ℕ) → c < d → same_id ids (get_or ids d 0) c ≡ false

-- The twins of the first n lines, as far as these go: each line is the first with its id or the twin of another. For the first line with an id
-- `last` has the last one, which has no twin yet.
pub record Paired (ids : List ℕ) (n : ℕ) (twin last : List ℕ) : Type 0 where
  pub later : (e d : ℕ) → get_or twin e 0 ≡ suc d → (e < d) × (d < n) × (get_or ids d 0 ≡ get_or ids e 0)
  pub chained : (d : ℕ) → d < n → Opens ids d ⊎ ((e : ℕ) × (get_or twin e 0 ≡ suc d))
  pub ends : (f : ℕ) → f < n → Opens ids f
      → (get_or last f 0 < n) × (get_or ids (get_or last f 0) 0 ≡ get_or ids f 0) × (get_or twin (get_or last f 0) 0 ≡ 0)

-- The first n links are stored, and each is counted at the line that it links to.
pub record Tallied (count n : ℕ) (links used : List ℕ) : Type 0 where
  pub within : n ≤ length links
  pub low : (u : ℕ) → get_or links u 0 ≤ count
  pub tally : (d : ℕ) → get_or used d 0 ≡ times (suc d) (take n links)

-- Some of these links is none: no line defines the id.
abbrev pub any_none : List ℕ → Bool
any_none [] = false
any_none (l ∷ ls) = eqb l 0 || any_none ls

-- The links of these ids are stored after the first `start`: `end` links then, and whether one of the new ones is none.
pub record Stored (link_of : ℕ → ℕ) (ids : List ℕ) (start : ℕ) (before : List ℕ) (end : ℕ) (missing : Bool) (after : List ℕ) : Type 0 where
  pub ends : end ≡ start + length ids
  pub taken : take end after ≡ take start before ++ map link_of ids
  pub none : missing ≡ any_none (map link_of ids)

-- Of the first n of `count` lines w is the first that fails; `count`, if none does.
pub record FirstOf (fails : ℕ → Bool) (count n w : ℕ) : Type 0 where
  pub most : w ≤ count
  pub passed : (d : ℕ) → d < n → d < w → fails d ≡ false
  pub failed : w < count → (w < n) × (fails w ≡ true)
