-- The answers of the line reader, as what the definitions read. Assumes nothing.
use Rattle.std.specs.Prelude.{◌≡◌, Bool, true, List, ℕ, ◌+◌, ◌*◌, ◌≤◌, length, get_or, Result, Ok, Err}
use Rattle.std.proofs.lemmas.List.Edits.{sets}
use Rattle.rules.specs.Text.{Ending, ended, surplus, feed_follows}
use Rattle.rules.specs.Table as T
use Rattle.rules.specs.Table.{scalar, listed, number_of, item}
use Rattle.rules.specs.Case.{header_in}
use Rattle.rules.specs.Fields.{item_fields, items_fields, line_fields}
use Rattle.fields.specs.Directory.{Roomy}
use Rattle.text.specs.Cursor.{cursor}
use Rattle.lines.specs.Shapes.{kind_of}
use Rattle.text.specs.declared.Number.{Number}
use Rattle.lines.specs.declared.item.ItemRead.{ItemRead}
use Rattle.lines.specs.declared.line.Role.{Role}
use Rattle.lines.specs.declared.line.Role.TheVariants.{Header, Initial, Action, Method, Constraint, Plan, Node}
use Rattle.lines.specs.declared.line.Line.{Line}
use Rattle.lines.specs.declared.line.LineError.{LineError}
use Rattle.lines.specs.declared.line.LineError.TheVariants.{Bad, Range}

-- v is in the range of the kind of number that a shape's byte stands for, by the numbers x that are known before the line: the header's, and
-- then the subtask count.
abbrev pub in_kind : List ℕ → List ℕ → ℕ → ℕ → Bool
in_kind x before kind v = T.in_range (header_in x) (get_or x 7 0) before (kind_of kind) v

abbrev pub read_item_in : List ℕ → List ℕ → List ℕ → T.Item → ℕ → ℕ → T.ItemRead
read_item_in text x before i field place = T.read_item text (header_in x) (get_or x 7 0) before i field place

-- What stands where field number `field` is due.
abbrev pub as_taken : ℕ → T.Taken → Result Number LineError
as_taken field (T.taken v next) = Ok (record { value = v; next = cursor next })
as_taken field T.bad = Err (Bad field)
as_taken field T.out = Err (Range field)

-- A line may start at a place: the text is not too long, and there is a list for its fields. Each field before the line's took two bytes, so
-- that there is room for those that are read.
pub record Ready (text fields : List ℕ) (from place : ℕ) : Type 0 where
  pub short : length text ≤ 65535
  pub inside : place ≤ length text
  pub long : Roomy text fields
  pub ahead : 2 * from ≤ place

-- The same inside a line, which a line feed ends, of the place of its next field.
pub record Room (text fields : List ℕ) (at place : ℕ) : Type 0 where
  pub short : length text ≤ 65535
  pub inside : place ≤ length text
  pub long : Roomy text fields
  pub ahead : 2 * at ≤ place + 1
  pub feeds : feed_follows text place ≡ true

abbrev pub item_read : ℕ → ℕ → ℕ → ItemRead
item_read value field next = record { value = value; field = field; next = cursor next }

-- Members that are read, after n others: as many as there are then, and each stored from `at` on. Nothing is said of what a refusal stores.
abbrev pub MembersLeft : ℕ → ℕ → List ℕ → T.ItemRead → Result ItemRead LineError → List ℕ → Type 0
MembersLeft n at before (item (scalar v) field next) r now = ⊥
MembersLeft n at before (item (listed vs) field next) r now = (r ≡ Ok (item_read (n + length vs) field next)) × (now ≡ sets before at vs)
MembersLeft n at before (T.ItemRead.unreadable field) r now = r ≡ Err (Bad field)
MembersLeft n at before (T.ItemRead.outside field) r now = r ≡ Err (Range field)

-- An item that is read: its number or how many members it has, and its fields from `at` on.
abbrev pub ItemLeft : T.Item → ℕ → List ℕ → T.ItemRead → Result ItemRead LineError → List ℕ → Type 0
ItemLeft i at before (item v field next) r now = (r ≡ Ok (item_read (number_of v) field next)) × (now ≡ sets before at (item_fields i v))
ItemLeft i at before (T.ItemRead.unreadable field) r now = r ≡ Err (Bad field)
ItemLeft i at before (T.ItemRead.outside field) r now = r ≡ Err (Range field)

abbrev pub role_of : Role → T.Role
role_of Header = T.header
role_of Initial = T.initial
role_of Action = T.action
role_of Method = T.method
role_of Constraint = T.constraint
role_of Plan = T.plan
role_of Node = T.node

-- A line of n fields that is read, with the next one from `next` on.
abbrev pub line_done : ℕ → ℕ → Line
line_done n next = record { fields = n; next = cursor next }

-- The end of a line of n fields; anything else is its surplus field.
abbrev pub finish_of : ℕ → ℕ → Ending → Result Line LineError
finish_of n field (ended next) = Ok (line_done n next)
finish_of n field surplus = Err (Bad field)

-- The items of a line that are read, after n fields: how many fields there are then, and the items' fields from `at` on.
abbrev pub ItemsLeft : List T.Item → ℕ → ℕ → List ℕ → T.LineRead → Result Line LineError → List ℕ → Type 0
ItemsLeft is n at before (T.line l vs next) r now =
    (r ≡ Ok (line_done (n + length (items_fields is vs)) next)) × (now ≡ sets before at (items_fields is vs))
ItemsLeft is n at before (T.LineRead.unreadable field) r now = r ≡ Err (Bad field)
ItemsLeft is n at before (T.LineRead.outside field) r now = r ≡ Err (Range field)

-- A line that is read: how many fields it has, and they stand from `at` on.
abbrev pub LineLeft : ℕ → List ℕ → T.LineRead → Result Line LineError → List ℕ → Type 0
LineLeft at before (T.line l vs next) r now =
    (r ≡ Ok (line_done (length (line_fields (l, vs))) next)) × (now ≡ sets before at (line_fields (l, vs)))
LineLeft at before (T.LineRead.unreadable field) r now = r ≡ Err (Bad field)
LineLeft at before (T.LineRead.outside field) r now = r ≡ Err (Range field)
