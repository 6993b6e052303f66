-- Lines whose values are what the table says, so that their letters and counts tell how many fields they have. Assumes nothing.
use Rattle.std.specs.Prelude.{◌≡◌, List, [], ◌∷◌, ℕ, ◌<◌, length}
use Rattle.rules.specs.Table.{Item, one, set, subtaskList, cues, Value, scalar, listed, row_of}
use Rattle.rules.specs.Case.{Valued}
use Rattle.rules.specs.Fields.{row_items}

-- A value of an item, where the plan has k cues: a number; a list; the k actions of the plan.
abbrev pub IsOf : ℕ → Item → Value → Type 0
IsOf k (one kind) (scalar v) = Unit {0}
IsOf k (one kind) (listed vs) = ⊥
IsOf k set (scalar v) = ⊥
IsOf k set (listed vs) = Unit {0}
IsOf k subtaskList (scalar v) = ⊥
IsOf k subtaskList (listed vs) = Unit {0}
IsOf k cues (scalar v) = ⊥
IsOf k cues (listed vs) = length vs ≡ k

-- A value for each item.
abbrev pub Shaped : ℕ → List Item → List Value → Type 0
Shaped k [] [] = Unit {0}
Shaped k [] (v ∷ vs) = ⊥
Shaped k (i ∷ is) [] = ⊥
Shaped k (i ∷ is) (v ∷ vs) = IsOf k i v × Shaped k is vs

-- The letter is a byte, and the values are those of its row.
pub record IsLine (k : ℕ) (x : Valued) : Type 0 where
  pub byte : x.0 < 256
  pub shaped : Shaped k (row_items (row_of x.0)) x.1

abbrev pub AreLines : ℕ → List Valued → Type 0
AreLines k [] = Unit {0}
AreLines k (x ∷ xs) = IsLine k x × AreLines k xs
