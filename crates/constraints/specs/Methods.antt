-- The constraints of a method among the fields, and the answer that they give. Assumes nothing.
use Rattle.std.specs.Prelude.{◌≡◌, List, map, ℕ, length, Result, Ok, Err}
use Rattle.std.proofs.Math.Option.{Option, none, some}
use Rattle.rules.specs.declared.Answer.{Answer}
use Rattle.rules.specs.Case.{Constraint, constraint_of}
use Rattle.rules.specs.Fields.{lines_fields, constraint_line}
use Rattle.fields.specs.Standing.{Stands}
use Rattle.constraints.specs.declared.method.Line.{Line}

-- The answer for the first broken constraint, if there is one.
abbrev pub kept_as : Option Answer → Result (Unit {0}) Answer
kept_as none = Ok tt
kept_as (some answer) = Err answer

-- A method's constraints, so many, stand line by line from a place on.
pub record ConstraintsHere (fields : List ℕ) (at count : ℕ) (cs : List Constraint) : Type 0 where
  pub here : Stands fields at (lines_fields (map constraint_line cs))
  pub counted : length cs ≡ count

-- The constraint of a line's letter and numbers.
abbrev pub meant : Line → Constraint
meant x = constraint_of x.letter x.first x.second x.third

-- What a line says, and where the line after it stands.
pub record Says (fields : List ℕ) (x : Line) (d : Constraint) (ds : List Constraint) : Type 0 where
  pub means : meant x ≡ d
  pub later : Stands fields x.next (lines_fields (map constraint_line ds))
