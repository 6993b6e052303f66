-- What reading a form goes by and leaves: the model's names and methods, and the form's lines. Assumes nothing.
use Rattle.std.specs.Prelude.{◌≡◌, List, [], ◌++◌, ℕ, suc, ◌+◌, ◌-◌, ◌≤◌, ◌<◌, length, get_or, set, Option, Some, None, Ok, Err, Result as Returned}
use Rattle.rules.specs.declared.Header.{Header}
use Rattle.rules.specs.declared.Answer.{Answer}
use Rattle.rules.specs.declared.Answer.TheVariants.{WrongName}
use Rattle.rules.specs.Result.{Result, found, refused}
use Rattle.rules.specs.Case.{Case, method_at}
use Rattle.rules.specs.Fields.{lines_fields, method_lines}
use Rattle.rules.specs.Naming.{Names}
use Rattle.rules.specs.Form.{FormLine, cue_line, task_line, root_only, with_cue, front_lines, with_task, back_lines, Form, form_lines}
use Rattle.fields.specs.Standing.{Stands}
use Rattle.fields.specs.Directory.{methods_from, directory_size}
use Rattle.naming.specs.Listing.{Listed}
use Rattle.tokens.specs.Pieces.{Spells}
use Rattle.links.specs.Links.{Lines, Spelled}
use Rattle.forms.specs.declared.fronts.Ahead.{Ahead}
use Rattle.forms.specs.declared.fronts.Ahead.TheVariants.{Taken, Root}
use Rattle.forms.specs.declared.fronts.Fronts.{Fronts}
use Rattle.forms.specs.declared.backs.After.{After}
use Rattle.forms.specs.declared.backs.After.TheVariants.{Taken as TakenAfter, End}
use Rattle.forms.specs.declared.backs.Backs.{Backs}
use Rattle.forms.specs.declared.FormRead.{FormRead}
use Rattle.forms.specs.declared.Model.{Model}

-- What a lookup finds, as the definitions say it: "18, a name not listed for that use".
abbrev pub named : ℕ → Option ℕ → Result ℕ
named n (Some i) = found i
named n None = refused (WrongName n 0)

-- The methods of a case, through the directory.
pub record MethodsHere (k : Case) (fields directory : List ℕ) : Type 0 where
  pub room : directory_size ≤ length directory
  pub most : k.head.methods ≤ 2048
  pub here : (m : ℕ) → m < k.head.methods
      → Stands fields (get_or directory (methods_from + m) 0) (lines_fields (method_lines (method_at k.methods m)))
  pub few : (m : ℕ) → m < k.head.methods → length (method_at k.methods m).subtasks ≤ 32

-- The tasks' names of a case with this header.
pub record Tasks (k : Case) (ns : Names) (h : Header) (text starts ends slots : List ℕ) : Type 0 where
  pub head : k.head ≡ h
  pub listed : Listed text starts ends slots ns.tasks
  pub count : length ns.tasks ≡ h.actions + h.compounds
  pub small : (h.actions ≤ 1024) × (h.compounds ≤ 1024)

pub record Methods (k : Case) (ns : Names) (h : Header) (text starts ends slots : List ℕ) : Type 0 where
  pub head : k.head ≡ h
  pub listed : Listed text starts ends slots ns.methods
  pub count : length ns.methods ≡ h.methods

-- What a form is read by is a case's.
pub record Modelled (k : Case) (ns : Names) (m : Model) : Type 0 where
  pub tasks : Tasks k ns m.header m.tasks.text.now m.tasks.starts.now m.tasks.ends.now m.tasks.slots.now
  pub methods : Methods k ns m.header m.methods.text.now m.methods.starts.now m.methods.ends.now m.methods.slots.now
  pub here : MethodsHere k m.fields.now m.directory.now

-- A line up to the root line, of which e action lines come ahead: what it adds to the lists, and what reading from it on is.
abbrev pub AheadIs : Case → Names → List ℕ → ℕ → ℕ → List ℕ → List ℕ → Returned Ahead Answer → List ℕ → List ℕ → Type 0
AheadIs k ns form e at ids labels (Ok (Taken next)) ids' labels' =
    (id a : ℕ) × (ids' ≡ set ids e id) × (labels' ≡ set labels e a) × (e < 3000)
    × ((left : ℕ) → front_lines k ns form (suc left) (e + 1) (e + 2) at
    ≡ with_cue (cue_line (e + 2) id a (e + 1)) (front_lines k ns form left (suc (e + 1)) (e + 2 + 1) next))
AheadIs k ns form e at ids labels (Ok (Root id next)) ids' labels' =
    (ids' ≡ ids) × (labels' ≡ labels) × ((left : ℕ) → front_lines k ns form left (e + 1) (e + 2) at ≡ found (root_only id left (e + 2 + 1) next))
AheadIs k ns form e at ids labels (Err answer) ids' labels' = front_lines k ns form (3000 - e) (e + 1) (e + 2) at ≡ refused answer

-- All lines up to the root line, the first of which starts at a place: action lines, each at its position, and the root line.
abbrev pub FrontsAre : Case → Names → List ℕ → ℕ → Returned Fronts Answer → List ℕ → List ℕ → Type 0
FrontsAre k ns form from (Ok r) ids labels =
    (cs : List FormLine) × (length cs ≡ r.cues) × Lines cs r.cues ids labels × (r.cues ≤ 3000) × (length ids ≡ 3000) × (length labels ≡ 3000)
    × (front_lines k ns form 3000 1 2 from ≡ found (record { cues = cs; root = r.root; left = 3000 - r.cues; next = r.cues + 3; place = r.next }))
FrontsAre k ns form from (Err answer) ids labels = front_lines k ns form 3000 1 2 from ≡ refused answer

-- A line after the root line, of which e lines of both sorts come ahead.
abbrev pub AfterIs : Case → Names → List ℕ → ℕ → ℕ → List ℕ → List ℕ → List ℕ → Returned After Answer → List ℕ → List ℕ → List ℕ → Type 0
AfterIs k ns form e at ids labels places (Ok (TakenAfter next)) ids' labels' places' =
    (id m end : ℕ) × (subtasks : List ℕ) × (ids' ≡ set ids e id) × (labels' ≡ set labels e m) × (places' ≡ set places e end) × (e < 3000)
    × Spells form end subtasks × (length subtasks ≤ 32)
    × ((left : ℕ) → back_lines k ns form (suc left) (e + 3) at ≡ with_task (task_line (e + 3) id m subtasks) (back_lines k ns form left (e + 3 + 1) next))
AfterIs k ns form e at ids labels places (Ok (End next)) ids' labels' places' =
    (ids' ≡ ids) × (labels' ≡ labels) × (places' ≡ places) × ((left : ℕ) → back_lines k ns form left (e + 3) at ≡ found ([], e + 3 + 1, next))
AfterIs k ns form e at ids labels places (Err answer) ids' labels' places' = back_lines k ns form (3000 - e) (e + 3) at ≡ refused answer

-- All lines after the root line, after the action lines cs.
abbrev pub BacksAre : Case → Names → List ℕ → ℕ → ℕ → List FormLine → Returned Backs Answer → List ℕ → List ℕ → List ℕ → Type 0
BacksAre k ns form cues from cs (Ok r) ids labels places =
    (ts : List FormLine) × (length (cs ++ ts) ≡ r.count) × Lines (cs ++ ts) cues ids labels × Spelled form places (cs ++ ts) cues × (r.count ≤ 3000)
    × (back_lines k ns form (3000 - cues) (cues + 3) from ≡ found (ts, r.count + 4, r.next))
BacksAre k ns form cues from cs (Err answer) ids labels places = back_lines k ns form (3000 - cues) (cues + 3) from ≡ refused answer

-- The form that is read, and its lines as the lists hold them; or the answer that refuses it.
abbrev pub FormIs : List ℕ → Result Form → Returned FormRead Answer → List ℕ → List ℕ → List ℕ → Type 0
FormIs text (found f) r ids labels places =
    (r ≡ Ok (record { cues = length f.cues; count = length (form_lines f); root = f.root })) × Lines (form_lines f) (length f.cues) ids labels
    × Spelled text places (form_lines f) (length f.cues) × (f.root_line ≡ 2 + length f.cues)
FormIs text (refused a) r ids labels places = r ≡ Err a
