-- Numbers 17, 18 and 19 as statements about the lines of a name list and of a form (02, Card 6), apart from how they are read: what each line
-- is, and which is the first that is not right. Assumes nothing.
use Rattle.std.specs.Prelude.{◌≡◌, true, ◌≢◌, ◌⊎◌, ℕ, ◌+◌, ◌≤◌, ◌<◌, length, get_or}
use mathlib.Core.List.{List, [], ◌∷◌, ◌++◌, map, Memᴰ as Mem}
use Rattle.rules.specs.declared.Header.{Header}
use Rattle.rules.specs.declared.Answer.{Answer}
use Rattle.rules.specs.declared.Answer.TheVariants.{WrongShape, WrongName}
use Rattle.rules.specs.Text.{is_plain, value_of}
use Rattle.rules.specs.Case.{method_at, Case}
use Rattle.rules.specs.Faults.{Ended, text_line, fields_at}
use Rattle.rules.specs.Refusals.{Each}
use Rattle.rules.specs.Tokens.{words_of, is_name, id_of}
use Rattle.rules.specs.Naming.{Names}
use Rattle.rules.specs.Form.{opening_word, root_word, arrow_word, closing_word, FormLine, cue_line, task_line, form_line_most, Form, line_number, defines, uses, form_lines, times, all_defined, all_used, Reached}

-- Something stands on line l, ended or not.
abbrev pub Stands : List ℕ → ℕ → Type 0
Stands text l = Ended text l ⊎ (text_line text l ≢ [])

-- ---- The name list

-- "number and name by comma": line l, which has a line feed, lists this name for number i.
pub record Lists (text : List ℕ) (l i : ℕ) (name : List ℕ) : Type 0 where
  pub number : List ℕ
  pub ended : Ended text l
  pub parts : fields_at text l ≡ number ∷ name ∷ []
  pub plain : is_plain number ≡ true
  pub value : value_of 0 number ≡ i
  pub named : is_name name ≡ true

-- Of the lines from line `from` on, one for each number, that for number i lists a name for it that no earlier one lists.
pub record ListsNew (text : List ℕ) (from i : ℕ) (name : List ℕ) : Type 0 where
  pub lists : Lists text (from + i) i name
  pub new : (j : ℕ) → j < i → Lists text (from + j) j name → ⊥

-- So do those for so many numbers.
abbrev pub AllNew : List ℕ → ℕ → ℕ → Type 0
AllNew text from count = (i : ℕ) → i < count → (name : List ℕ) × ListsNew text from i name

-- The first fault among the lines for so many numbers.
pub data PartFault (text : List ℕ) (from count : ℕ) : Answer → Type 0 where
  -- "17, line missing [..] or of another shape, first on each line"
  other : {i : ℕ} → i < count → AllNew text from i → ((name : List ℕ) → Lists text (from + i) i name → ⊥)
      → PartFault text from count (WrongShape (from + i) 1)
  -- "18, a name [..] listed again among the tasks or among the methods (the later line)"
  again : {i j : ℕ} {name : List ℕ} → i < count → AllNew text from i → Lists text (from + i) i name → j < i → Lists text (from + j) j name
      → PartFault text from count (WrongName (from + i) 1)

abbrev pub task_count : Header → ℕ
task_count h = h.actions + h.compounds

-- "for all tasks and then all methods"
pub data NamesFault (h : Header) (text : List ℕ) : Answer → Type 0 where
  tasks : {a : Answer} → PartFault text 1 (task_count h) a → NamesFault h text a
  methods : {a : Answer} → AllNew text 1 (task_count h) → PartFault text (1 + task_count h) h.methods a → NamesFault h text a
  -- 17, line "surplus"
  surplus : AllNew text 1 (task_count h) → AllNew text (1 + task_count h) h.methods → Stands text (1 + task_count h + h.methods)
      → NamesFault h text (WrongShape (1 + task_count h + h.methods) 1)

-- These are the names for the numbers from 0 on, in the lines from line `from` on.
pub record PartIs (text : List ℕ) (from count : ℕ) (names : List (List ℕ)) : Type 0 where
  pub counted : length names ≡ count
  pub each : (i : ℕ) → i < count → ListsNew text from i (get_or names i [])

-- A name list without fault, and its names.
pub record NamesAre (h : Header) (text : List ℕ) (ns : Names) : Type 0 where
  pub tasks : PartIs text 1 (task_count h) ns.tasks
  pub methods : PartIs text (1 + task_count h) h.methods ns.methods
  pub over : Stands text (1 + task_count h + h.methods) → ⊥

-- ---- The lines of the form

-- "One space parts words": line l, which has a line feed, has these words.
pub record HasWords (text : List ℕ) (l : ℕ) (words : List (List ℕ)) : Type 0 where
  pub ended : Ended text l
  pub are : words_of (text_line text l) ≡ words

-- "ids are plain numbers"
pub record IsId (word : List ℕ) (id : ℕ) : Type 0 where
  pub plain : is_plain word ≡ true
  pub value : id_of word ≡ id

-- "one action per line as id and name"
pub record ActionAt (text : List ℕ) (l id : ℕ) (name : List ℕ) : Type 0 where
  pub word : List ℕ
  pub words : HasWords text l (word ∷ name ∷ [])
  pub is : IsId word id
  pub named : is_name name ≡ true

-- "`root` and one id"
pub record RootAt (text : List ℕ) (l id : ℕ) : Type 0 where
  pub word : List ℕ
  pub words : HasWords text l (root_word ∷ word ∷ [])
  pub is : IsId word id

-- "one compound per line as id, name, `->`, method name and subtask ids"
pub record CompoundAt (text : List ℕ) (l id : ℕ) (name method : List ℕ) (subtasks : List ℕ) : Type 0 where
  pub word : List ℕ
  pub more : List (List ℕ)
  pub words : HasWords text l (word ∷ name ∷ arrow_word ∷ method ∷ more)
  pub is : IsId word id
  pub named : is_name name ≡ true
  pub method_named : is_name method ≡ true
  pub plain : Each (λ w. is_plain w ≡ true) more
  pub values : map id_of more ≡ subtasks

-- ---- Its names

-- A name is listed for number i.
pub record Listed (names : List (List ℕ)) (name : List ℕ) (i : ℕ) : Type 0 where
  pub below : i < length names
  pub is : get_or names i [] ≡ name

-- Action a is listed under this name.
abbrev pub NamesAction : Case → Names → List ℕ → ℕ → Type 0
NamesAction k ns name a = Listed ns.tasks name a × (a < k.head.actions)

-- Under these two names are listed a compound task and a method m of its, with so many subtasks.
pub record NamesMethod (k : Case) (ns : Names) (name method : List ℕ) (count m : ℕ) : Type 0 where
  pub task : ℕ
  pub compound : Listed ns.tasks name task
  pub not_action : k.head.actions ≤ task
  pub listed : Listed ns.methods method m
  pub tasks : (method_at k.methods m).task ≡ task
  pub counted : length (method_at k.methods m).subtasks ≡ count

-- ---- Line by line

-- What is due, and what came before it: `==>`; an action line or the root line, after these action lines; a compound line or `<==`, after these
-- lines; nothing.
pub data Stage : Type 0 where
  opening : Stage
  front : (cues : List FormLine) → Stage
  back : (f : Form) → Stage
  over : (f : Form) → Stage

abbrev pub lines_before : Stage → List FormLine
lines_before opening = []
lines_before (front cues) = cues
lines_before (back f) = form_lines f
lines_before (over f) = form_lines f

abbrev pub rooted_at : List FormLine → ℕ → ℕ → Form
rooted_at cues l id = record { cues = cues; root_line = l; root = id; tasks = [] }

abbrev pub and_task : Form → FormLine → Form
and_task f e = record { cues = f.cues; root_line = f.root_line; root = f.root; tasks = f.tasks ++ e ∷ [] }

-- One more action or compound line may come.
abbrev pub MayCome : Stage → Type 0
MayCome s = length (lines_before s) < form_line_most

-- From line l on this is due. "action lines plan order"
pub data Due (k : Case) (ns : Names) (text : List ℕ) : ℕ → Stage → Type 0 where
  start : Due k ns text 1 opening
  opened : HasWords text 1 (opening_word ∷ []) → Due k ns text 2 (front [])
  action : {l id a : ℕ} {name : List ℕ} {cues : List FormLine} → Due k ns text l (front cues) → MayCome (front cues) → ActionAt text l id name
      → NamesAction k ns name a → Due k ns text (l + 1) (front (cues ++ cue_line l id a (length cues + 1) ∷ []))
  rooted : {l id : ℕ} {cues : List FormLine} → Due k ns text l (front cues) → RootAt text l id → Due k ns text (l + 1) (back (rooted_at cues l id))
  compound : {l id m : ℕ} {name method subtasks : List ℕ} {f : Form} → Due k ns text l (back f) → MayCome (back f)
      → CompoundAt text l id name method subtasks → NamesMethod k ns name method (length subtasks) m
      → Due k ns text (l + 1) (back (and_task f (task_line l id m subtasks)))
  closed : {l : ℕ} {f : Form} → Due k ns text l (back f) → HasWords text l (closing_word ∷ []) → Due k ns text (l + 1) (over f)

-- Line l is an action line, or a compound line, where one is due.
abbrev pub Defines : List ℕ → ℕ → Stage → Type 0
Defines text l opening = ⊥
Defines text l (front cues) = (id : ℕ) × (name : List ℕ) × ActionAt text l id name
Defines text l (back f) = (id : ℕ) × (name : List ℕ) × (method : List ℕ) × (subtasks : List ℕ) × CompoundAt text l id name method subtasks
Defines text l (over f) = ⊥

-- Line l has a shape that is due.
abbrev pub HasShape : List ℕ → ℕ → Stage → Type 0
HasShape text l opening = HasWords text l (opening_word ∷ [])
HasShape text l (front cues) = Defines text l (front cues) ⊎ ((id : ℕ) × RootAt text l id)
HasShape text l (back f) = Defines text l (back f) ⊎ HasWords text l (closing_word ∷ [])
HasShape text l (over f) = Unit {0}

-- The first fault of a form.
pub data FormFault (k : Case) (ns : Names) (text : List ℕ) : Answer → Type 0 where
  -- "17, line missing, [..] or of another shape, first on each line"
  other : {l : ℕ} {s : Stage} → Due k ns text l s → (HasShape text l s → ⊥) → FormFault k ns text (WrongShape l 0)
  -- "surplus (also the 3,001st action or compound line, counted together)"
  many : {l : ℕ} {s : Stage} → Due k ns text l s → length (lines_before s) ≡ form_line_most → Defines text l s → FormFault k ns text (WrongShape l 0)
  surplus : {l : ℕ} {f : Form} → Due k ns text l (over f) → Stands text l → FormFault k ns text (WrongShape l 0)
  -- "18, a name not listed for that use"
  action : {l id : ℕ} {name : List ℕ} {cues : List FormLine} → Due k ns text l (front cues) → MayCome (front cues) → ActionAt text l id name
      → ((a : ℕ) → NamesAction k ns name a → ⊥) → FormFault k ns text (WrongName l 0)
  -- The same, "or a task or subtask count that isn't its method's"
  compound : {l id : ℕ} {name method subtasks : List ℕ} {f : Form} → Due k ns text l (back f) → MayCome (back f)
      → CompoundAt text l id name method subtasks → ((m : ℕ) → NamesMethod k ns name method (length subtasks) m → ⊥)
      → FormFault k ns text (WrongName l 0)

-- A form without fault but for its ids.
pub record FormIs (k : Case) (ns : Names) (text : List ℕ) (f : Form) : Type 0 where
  pub past : ℕ
  pub due : Due k ns text past (over f)
  pub ended : Stands text past → ⊥

-- ---- Its ids

-- "19, [..] line that defines an id defined twice, twice a subtask, the root under a parent or not reached from the root by any lines, or that
-- uses an id never defined"
pub data Wrong (es : List FormLine) (root : ℕ) (e : FormLine) : Type 0 where
  twice : 1 < times (defines e) (all_defined es) → Wrong es root e
  subtask_twice : 1 < times (defines e) (all_used es) → Wrong es root e
  under : defines e ≡ root → Mem root (all_used es) → Wrong es root e
  unreached : (Reached es root (defines e) → ⊥) → Wrong es root e
  undefined : {s : ℕ} → Mem s (uses e) → (Mem s (all_defined es) → ⊥) → Wrong es root e

-- Line l is wrong; the root line uses an id too.
pub data WrongAt (f : Form) : ℕ → Type 0 where
  line : {e : FormLine} → Mem e (form_lines f) → Wrong (form_lines f) f.root e → WrongAt f (line_number e)
  root : (Mem f.root (all_defined (form_lines f)) → ⊥) → WrongAt f f.root_line

pub record FirstWrong (f : Form) (l : ℕ) : Type 0 where
  pub wrong : WrongAt f l
  pub first : (j : ℕ) → WrongAt f j → l ≤ j
