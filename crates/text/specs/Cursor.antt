-- What reading finds, as the types of the code. Assumes nothing.
use Rattle.std.specs.Prelude.{ℕ, Option, Some, None, Result, Ok, Err}
use Rattle.rules.specs.Text.{Number as NumberRead, number, not_plain, missing, letter, no_letter, Ending, ended, surplus, Letter as LetterRead}
use Rattle.text.specs.declared.Cursor.{Cursor}
use Rattle.text.specs.declared.Number.{Number}
use Rattle.text.specs.declared.FieldError.{FieldError}
use Rattle.text.specs.declared.FieldError.TheVariants.{NotPlain, Missing}
use Rattle.text.specs.declared.Letter.{Letter}

abbrev pub cursor : ℕ → Cursor
cursor n = record { at = n }

abbrev pub as_field : NumberRead → Result Number FieldError
as_field (number value next) = Ok (record { value = value; next = cursor next })
as_field not_plain = Err NotPlain
as_field missing = Err Missing

abbrev pub as_letter : LetterRead → Option Letter
as_letter (letter byte next) = Some (record { byte = byte; next = cursor next })
as_letter no_letter = None

abbrev pub as_ending : Ending → Option Cursor
as_ending (ended next) = Some (cursor next)
as_ending surplus = None
