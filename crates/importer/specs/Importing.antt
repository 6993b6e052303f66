-- What the core of the import call answers and leaves (02, Card 6). Assumes nothing.
use Rattle.std.specs.Prelude.{◌≡◌, List, ℕ, ◌+◌, ◌*◌, ◌≤◌, ◌<◌, length, get_or, Ok, Err, Result as Returned}
use Rattle.rules.specs.declared.Answer.{Answer}
use Rattle.rules.specs.declared.Header.{Header}
use Rattle.rules.specs.Result.{Result, found, refused, ◌>>=◌, ◌>>◌}
use Rattle.rules.specs.Case.{Case, read_case}
use Rattle.rules.specs.Fields.{fields_of}
use Rattle.rules.specs.Print.{printed}
use Rattle.rules.specs.Tree.{Tree}
use Rattle.rules.specs.Verdict.{Lent, Found, answer_of, filled, states_after}
use Rattle.rules.specs.Writing.{room_for}
use Rattle.rules.specs.Gaps.{find_gaps, tried_after, before_choices, Limited}
use Rattle.rules.specs.Naming.{read_names}
use Rattle.rules.specs.Form.{Form, form_lines, read_form, ids_right}
use Rattle.rules.specs.Import.{made_case, found_tree, made_after, made_length}
use Rattle.fields.specs.Standing.{Stands}
use Rattle.fields.specs.Directory.{IsRead, NodesLast}
use Rattle.records.specs.Records.{RecordsHeld}
use Rattle.links.specs.Links.{Lines, Spelled}
use Rattle.forms.specs.declared.FormRead.{FormRead}
use Rattle.forms.specs.Held.{MethodsHere, FormIs}
use Rattle.making.specs.Making.{PlanLast}
use Rattle.importer.specs.declared.Outcome.{Outcome}

-- A case that was read, with this header, and its methods among the fields.
pub record ModelHere (k : Case) (h : Header) (fields directory : List ℕ) : Type 0 where
  pub read : IsRead k
  pub head : k.head ≡ h
  pub methods : MethodsHere k fields directory

-- The name list and then the form are read.
abbrev pub BothAre : Case → List ℕ → List ℕ → Returned FormRead Answer → List ℕ → List ℕ → List ℕ → Type 0
BothAre k names form r ids labels places = FormIs form (read_names k.head names >>= λ ns. read_form k ns form) r ids labels places

-- A case that was read, its fields from the first on, its node lines from `nodes` on and last.
pub record CaseHere (k : Case) (h : Header) (nodes : ℕ) (fields directory : List ℕ) : Type 0 where
  pub model : ModelHere k h fields directory
  pub stands : Stands fields 0 (fields_of k)
  pub last : NodesLast k nodes

-- A form that was read, as lists hold it, and the fields of the case beside it.
pub record FormHeld (k : Case) (f : Form) (text places ids labels : List ℕ) (cues count root : ℕ) (fields : List ℕ) (plan : ℕ) : Type 0 where
  pub read : IsRead k
  pub stands : Stands fields 0 (fields_of k)
  pub planned : PlanLast k plan
  pub lines : Lines (form_lines f) cues ids labels
  pub spelled : Spelled text places (form_lines f) cues
  pub cued : length f.cues ≡ cues
  pub counted : length (form_lines f) ≡ count
  pub rooted : f.root ≡ root
  pub root_at : f.root_line ≡ 2 + cues

-- Lists for the links of so many lines, which are zero at first but for `spare`.
pub record Unlinked (count : ℕ) (starts links twin used marks spare : List ℕ) : Type 0 where
  pub starts_long : count < length starts
  pub links_long : 32 * count ≤ length links
  pub twin_long : count ≤ length twin
  pub used_long : count ≤ length used
  pub marks_long : count ≤ length marks
  pub spare_long : count ≤ length spare
  pub links_zero : (u : ℕ) → get_or links u 0 ≡ 0
  pub twin_zero : (e : ℕ) → get_or twin e 0 ≡ 0
  pub used_zero : (d : ℕ) → get_or used d 0 ≡ 0
  pub marks_zero : (d : ℕ) → get_or marks d 0 ≡ 0

-- 19, 14, and the made text.
unfoldable pub made_of : ℕ → Case → Form → Result (List ℕ)
made_of size k f = do
  ids_right f
  room_for size (printed (made_case k f))
  found (printed (made_case k f))

-- The rows from the name list on, of a case that was read.
unfoldable pub made_beside : ℕ → Case → List ℕ → List ℕ → Result (List ℕ)
made_beside size k names form = do
  f ← read_names k.head names >>= λ ns. read_form k ns form
  made_of size k f

-- The rows from reading on.
unfoldable pub made_text : ℕ → List ℕ → List ℕ → List ℕ → Result (List ℕ)
made_text size text names form = do
  k ← read_case text
  made_beside size k names form

-- The made text stands in the output, the rest of which is zero; or the answer that refuses it.
abbrev pub MadeIs : Result (List ℕ) → ℕ → Returned ℕ Answer → List ℕ → Type 0
MadeIs (found made) size r output = (r ≡ Ok (length made)) × (output ≡ filled size 0 made) × (length made ≤ size)
MadeIs (refused a) size r output = r ≡ Err a

abbrev pub PutMade : List ℕ → ℕ → Returned ℕ Answer → List ℕ → Type 0
PutMade made size r output = MadeIs (room_for size made >> found made) size r output

-- What the find-the-gaps call finds of the made text, and that text.
abbrev pub then_find : ℕ → List Lent → List ℕ → Found (Tree × List ℕ)
then_find number lists made = find_gaps number lists made >>= λ (k, t). found (k, (t, made))

abbrev pub from_made : ℕ → List Lent → Result (List ℕ) → Found (Tree × List ℕ)
from_made number lists made = made >>= λ text. then_find number lists text

-- The number tried is within Card 4's limits for the made text, if there is one; else it is 1, which is within the limits of any text.
abbrev pub LimitedTo : List Lent → Result (List ℕ) → ℕ → Type 0
LimitedTo lists (found made) number = Limited (before_choices lists made) number
LimitedTo lists (refused a) number = number ≡ 1

-- What the call answers, and leaves in a state list and an output of these sizes and in the work space: the records of the tree found as columns.
pub record Imports (f : ℕ → Found (Tree × List ℕ)) (limited : ℕ → Type 0) (size room : ℕ) (r : Outcome) (states work output : List ℕ) : Type 0 where
  pub number : ℕ
  pub within : limited number
  pub answer : r.answer ≡ answer_of (f number)
  pub answered : r.tried ≡ tried_after number (found_tree (f number))
  pub sized : r.length ≡ made_length (f number)
  pub states_held : states ≡ states_after size (f number)
  pub records_held : RecordsHeld (found_tree (f number)) work
  pub put : output ≡ made_after room (f number)
