-- What the functions that test whether a case is tidy answer. Assumes nothing.
use Rattle.std.specs.Prelude.{◌≡◌, List, ◌↔◌, ℕ, ◌+◌, length, Option, IsSome, IfSome}
use Rattle.rules.specs.Case.{Constraint}
use Rattle.rules.specs.Writing.{Ascending}

-- Whether constraints are in order; where the fields that have them end is said only if they are.
pub record Orders (cs : List Constraint) (from : ℕ) (fields : List ℕ) (r : Option ℕ) : Type 0 where
  pub answer : IsSome r ↔ Ascending cs
  pub past : IfSome r (λ next. next ≡ from + length fields)
