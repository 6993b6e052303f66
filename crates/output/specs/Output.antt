-- The fields of a case's lines, from the first field up to an end. Assumes nothing.
use Rattle.std.specs.Prelude.{◌≡◌, List, ℕ, length}
use Rattle.rules.specs.Case.{Valued}
use Rattle.rules.specs.Fields.{lines_fields}
use Rattle.fields.specs.Standing.{Stands}
use Rattle.sizes.specs.Sizes.{AreLines}

-- The first `end` fields are those of these lines, where the plan has k cues.
pub record HasLines (k : ℕ) (fields : List ℕ) (end : ℕ) (xs : List Valued) : Type 0 where
  pub lines : AreLines k xs
  pub here : Stands fields 0 (lines_fields xs)
  pub whole : end ≡ length (lines_fields xs)
