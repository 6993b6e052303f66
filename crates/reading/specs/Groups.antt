-- What the functions that read groups of lines answer and leave, as what the definitions read. Assumes nothing.
use Rattle.std.specs.Prelude.{◌≡◌, Bool, true, false, List, [], ◌∷◌, ◌++◌, map, ℕ, ◌+◌, ◌*◌, ◌≤◌, ltb, length, get_or, Result, Ok, Err}
use Rattle.std.proofs.lemmas.List.Edits.{sets}
use Rattle.rules.specs.declared.Header.{Header}
use Rattle.rules.specs.declared.Answer.{Answer}
use Rattle.rules.specs.declared.Answer.TheVariants.{Unreadable, OutOfRange}
use Rattle.rules.specs.Text.{feed_follows}
use Rattle.rules.specs.Table as T
use Rattle.rules.specs.Result.{found, refused}
use Rattle.rules.specs.Case.{Valued, Method, Read, one_line}
use Rattle.rules.specs.Fields.{lines_fields, method_lines}
use Rattle.fields.specs.Directory.{Roomy}
use Rattle.text.specs.Cursor.{cursor}
use Rattle.lines.specs.declared.line.Line.{Line}
use Rattle.lines.specs.declared.line.LineError.{LineError}
use Rattle.lines.specs.declared.line.LineError.TheVariants.{Bad, Range}
use Rattle.reading.specs.declared.Spot.{Spot}
use Rattle.reading.specs.declared.CaseRead.{CaseRead}

abbrev pub spot : ℕ → ℕ → ℕ → Spot
spot n place from = record { line = n; start = cursor place; from = from }

-- The numbers of a line that ended fit 32 bits.
abbrev pub Fits : ℕ → Result Line LineError → Type 0
Fits from (Ok line) = from + line.fields ≤ 65536
Fits from (Err (Bad field)) = field ≤ 65536
Fits from (Err (Range field)) = field ≤ 65536

abbrev pub after_line : ℕ → ℕ → Result Line LineError → Result Spot Answer
after_line n from (Ok line) = Ok (record { line = n + 1; start = line.next; from = from + line.fields })
after_line n from (Err (Bad field)) = Err (Unreadable n field)
after_line n from (Err (Range field)) = Err (OutOfRange n field)

-- A line of a role as its letter and its values.
abbrev pub valued_line : List ℕ → Header → T.Role → ℕ → ℕ → ℕ → Read Valued
valued_line text h due s n place = one_line text h due s (λ x. x) n place

-- Before a line of no method no subtask count is known.
abbrev pub NoSubtasks : List ℕ → Type 0
NoSubtasks x = get_or x 7 0 ≡ 0

-- A line may be due at a spot: it is in the text, each line before it took a byte at least, so that its number fits 32 bits, and each field
-- before its own took two, so that there is room for these.
pub record Due (text : List ℕ) (past : ℕ) (fields : List ℕ) (at : Spot) : Type 0 where
  pub feeds : (p : ℕ) → feed_follows text p ≡ ltb p past
  pub short : length text ≤ 65535
  pub inside : at.start.at ≤ length text
  pub counted : at.line ≤ at.start.at + 1
  pub long : Roomy text fields
  pub ahead : 2 * at.from ≤ at.start.at

-- What is read leaves its fields, from a place on, and the line after it is the next. Nothing is said of the fields that a refusal leaves.
abbrev pub Left : {A : Type 0} → (A → List ℕ) → ℕ → List ℕ → Read A → Result Spot Answer → List ℕ → Type 0
Left shows from before (found (a, n, place)) r now = (r ≡ Ok (spot n place (from + length (shows a)))) × (now ≡ sets before from (shows a))
Left shows from before (refused x) r now = r ≡ Err x

-- Several lists, one after the other.
abbrev pub joined : List (List ℕ) → List ℕ
joined [] = []
joined (xs ∷ xss) = xs ++ joined xss

-- The fields of several in turn, and those of a method.
abbrev pub together : {A : Type 0} → (A → List ℕ) → List A → List ℕ
together shows xs = joined (map shows xs)

abbrev pub method_fields : Method → List ℕ
method_fields m = lines_fields (method_lines m)

-- Where each of several lists of fields starts, one after the other.
abbrev pub starts : ℕ → List (List ℕ) → List ℕ
starts from [] = []
starts from (xs ∷ xss) = from ∷ starts (from + length xs) xss

-- The place of each one's fields is listed in a directory, from an index on.
abbrev pub Placed : {A : Type 0} → (A → List ℕ) → ℕ → ℕ → List ℕ → Read (List A) → List ℕ → Type 0
Placed shows from index before (found (xs, n, place)) now = now ≡ sets before index (starts from (map shows xs))
Placed shows from index before (refused x) now = Unit {0}

-- A case that is read: its header, the number of its P line, and the places of its I line, its P line and its first node line.
abbrev pub case_at : Header → ℕ → ℕ → ℕ → ℕ → CaseRead
case_at h line initial plan nodes = record { header = h; plan_line = line; initial = initial; plan = plan; nodes = nodes }

-- A case whose lines end at a spot: whole, if the text ends there too.
abbrev pub whole_if : Bool → Answer → CaseRead → Result CaseRead Answer
whole_if true a k = Err a
whole_if false a k = Ok k

abbrev pub whole_case : List ℕ → Header → Spot → Spot → Spot → Spot → Result CaseRead Answer
whole_case text h initial plan node end =
    whole_if (ltb end.start.at (length text)) (Unreadable end.line 1) (case_at h plan.line initial.from plan.from node.from)
