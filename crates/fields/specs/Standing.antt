-- Numbers that stand in a list from a place on. Assumes nothing.
use Rattle.std.specs.Prelude.{◌≡◌, List, ◌++◌, ℕ, drop}

pub record Stands (fields : List ℕ) (at : ℕ) (xs : List ℕ) : Type 0 where
  pub rest : List ℕ
  pub here : drop at fields ≡ xs ++ rest
