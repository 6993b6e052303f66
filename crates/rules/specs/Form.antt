-- The competition's plan form (02, Card 6): its lines, which ids they define and use, and the tree that hangs from the root. Assumes nothing.
use Rattle.std.specs.Prelude.{Bool, true, false, ◌&&◌, ◌||◌, not, ℕ, zero, suc, ◌+◌, eqb, leb, ltb, length}
use mathlib.Core.List.{List, [], ◌∷◌, ◌++◌, map, flatten, Memᴰ as Mem}
use Rattle.std.proofs.Math.Option.{Option, none, some}
use Prim.Native.Char.{code}
use Rattle.rules.specs.declared.Answer.TheVariants.{WrongShape, WrongName, WrongId}
use Rattle.rules.specs.Result.{Result, found, refused, ◌>>=◌, ◌>>◌}
use Rattle.rules.specs.Text.{is_plain}
use Rattle.rules.specs.Case.{Method, method_at, Case, Read}
use Rattle.rules.specs.Tree.{is_in}
use Rattle.rules.specs.Verdict.{unless}
use Rattle.rules.specs.Tokens.{due_line, no_more, shaped, words_of, is_name, same_bytes, all_plain, id_of}
use Rattle.rules.specs.Naming.{Names, listed_at}

-- ---- The shapes of its lines

-- The words `==>`, `root`, `->` and `<==`.
unfoldable pub opening_word : List ℕ
opening_word = code "=" ∷ code "=" ∷ code ">" ∷ []

unfoldable pub root_word : List ℕ
root_word = code "r" ∷ code "o" ∷ code "o" ∷ code "t" ∷ []

unfoldable pub arrow_word : List ℕ
arrow_word = code "-" ∷ code ">" ∷ []

unfoldable pub closing_word : List ℕ
closing_word = code "<" ∷ code "=" ∷ code "=" ∷ []

-- "`==>`"
abbrev pub opening_of : List (List ℕ) → Option (Unit {0})
opening_of [] = none
opening_of (w ∷ []) = elim (same_bytes w opening_word) [ true ↦ some tt | false ↦ none ]
opening_of (w ∷ v ∷ ws) = none

-- "one action per line as id and name; `root` and one id"
pub data Front : Type 0 where
  an_action : (id : ℕ) (name : List ℕ) → Front
  the_root : (id : ℕ) → Front

abbrev pub front_of : List (List ℕ) → Option Front
front_of [] = none
front_of (w ∷ []) = none
front_of (w ∷ v ∷ []) =
    elim (same_bytes w root_word && is_plain v) [
      | true ↦ some (the_root (id_of v))
      | false ↦ elim (is_plain w && is_name v) [ true ↦ some (an_action (id_of w) v) | false ↦ none ]
    ]
front_of (w ∷ v ∷ u ∷ ws) = none

-- "one compound per line as id, name, `->`, method name and subtask ids; `<==`"
pub data Back : Type 0 where
  a_compound : (id : ℕ) (name method : List ℕ) (subtasks : List ℕ) → Back
  the_end : Back

abbrev pub back_of : List (List ℕ) → Option Back
back_of [] = none
back_of (w ∷ []) = elim (same_bytes w closing_word) [ true ↦ some the_end | false ↦ none ]
back_of (w ∷ t ∷ []) = none
back_of (w ∷ t ∷ v ∷ []) = none
back_of (w ∷ t ∷ v ∷ m ∷ ids) =
    elim (is_plain w && (is_name t && (same_bytes v arrow_word && (is_name m && all_plain ids)))) [
      | true ↦ some (a_compound (id_of w) t m (map id_of ids))
      | false ↦ none
    ]

-- ---- Its names

-- "18, a name not listed for that use": the number that a name has among those listed, if it serves.
abbrev pub used_as : (ℕ → Bool) → ℕ → Option ℕ → Result ℕ
used_as serves n none = refused (WrongName n 0)
used_as serves n (some i) = elim (serves i) [ true ↦ found i | false ↦ refused (WrongName n 0) ]

-- On an action line an action's name.
unfoldable pub action_named : Case → Names → ℕ → List ℕ → Result ℕ
action_named k names n name = used_as (λ t. ltb t k.head.actions) n (listed_at names.tasks name)

-- On a compound line a compound task's.
unfoldable pub compound_named : Case → Names → ℕ → List ℕ → Result ℕ
compound_named k names n name = used_as (λ t. leb k.head.actions t) n (listed_at names.tasks name)

-- 18, "a task or subtask count that isn't its method's".
unfoldable pub suits : Method → ℕ → ℕ → Bool
suits m t count = eqb m.task t && eqb (length m.subtasks) count

-- After `->` the name of a method of that task, with as many subtasks.
unfoldable pub method_named : Case → Names → ℕ → ℕ → List ℕ → List ℕ → Result ℕ
method_named k names n t name subtasks =
    used_as (λ m. suits (method_at k.methods m) t (length subtasks)) n (listed_at names.methods name)

-- ---- Line by line

-- A line that defines an id: an action line, action a at position i of the plan; or a compound line, with its method and the ids of its
-- subtasks.
pub data FormLine : Type 0 where
  cue_line : (line id a i : ℕ) → FormLine
  task_line : (line id m : ℕ) (subtasks : List ℕ) → FormLine

-- "the 3,001st action or compound line, counted together" is surplus.
unfoldable pub form_line_most : ℕ
form_line_most = 3000

-- The lines up to the root line: the action lines, the root's id, how many action and compound lines may still come, and the number and the
-- place of the next line.
pub record Fronts : Type 0 where
  pub cues : List FormLine
  pub root : ℕ
  pub left : ℕ
  pub next : ℕ
  pub place : ℕ

abbrev pub root_only : ℕ → ℕ → ℕ → ℕ → Fronts
root_only id left n place = record { cues = []; root = id; left = left; next = n; place = place }

abbrev pub with_cue : FormLine → Result Fronts → Result Fronts
with_cue e (found f) = found (record { cues = e ∷ f.cues; root = f.root; left = f.left; next = f.next; place = f.place })
with_cue e (refused r) = refused r

-- One of these lines. 17
unfoldable pub front_line : List ℕ → ℕ → ℕ → Read Front
front_line text n place = do
  (line, n', place') ← due_line text 0 n place
  front ← shaped 0 n (front_of (words_of line))
  found (front, n', place')

abbrev pub on_front : {A : Type 0} → Front → (ℕ → List ℕ → A) → (ℕ → A) → A
on_front (an_action id name) cued rooted = cued id name
on_front (the_root id) cued rooted = rooted id

-- "action lines plan order": the first of these is position i of the plan. On each line 17, then 18.
abbrev pub front_lines : Case → Names → List ℕ → ℕ → ℕ → ℕ → ℕ → Result Fronts
front_lines k names text zero i n place = do
  (front, n', place') ← front_line text n place
  on_front front (λ id name. refused (WrongShape n 0)) (λ id. found (root_only id zero n' place'))
front_lines k names text (suc left) i n place = do
  (front, n', place') ← front_line text n place
  on_front front
      (λ id name. action_named k names n name >>= λ a. with_cue (cue_line n id a i) (front_lines k names text left (suc i) n' place'))
      (λ id. found (root_only id (suc left) n' place'))

-- One of the lines after the root line. 17
unfoldable pub back_line : List ℕ → ℕ → ℕ → Read Back
back_line text n place = do
  (line, n', place') ← due_line text 0 n place
  back ← shaped 0 n (back_of (words_of line))
  found (back, n', place')

abbrev pub on_back : {A : Type 0} → Back → (ℕ → List ℕ → List ℕ → List ℕ → A) → A → A
on_back (a_compound id name method subtasks) tasked closed = tasked id name method subtasks
on_back the_end tasked closed = closed

abbrev pub with_task : FormLine → Read (List FormLine) → Read (List FormLine)
with_task e (found (es, n, place)) = found (e ∷ es, n, place)
with_task e (refused r) = refused r

-- A compound line's task and method. 18
unfoldable pub both_named : Case → Names → ℕ → List ℕ → List ℕ → List ℕ → Result ℕ
both_named k names n name method subtasks = compound_named k names n name >>= λ t. method_named k names n t method subtasks

-- Compound lines and the last line: on each line 17, then 18.
abbrev pub back_lines : Case → Names → List ℕ → ℕ → ℕ → ℕ → Read (List FormLine)
back_lines k names text zero n place = do
  (back, n', place') ← back_line text n place
  on_back back (λ id name method subtasks. refused (WrongShape n 0)) (found ([], n', place'))
back_lines k names text (suc left) n place = do
  (back, n', place') ← back_line text n place
  on_back back
      (λ id name method subtasks.
      both_named k names n name method subtasks >>= λ m. with_task (task_line n id m subtasks) (back_lines k names text left n' place'))
      (found ([], n', place'))

pub record Form : Type 0 where
  pub cues : List FormLine
  pub root_line : ℕ
  pub root : ℕ
  pub tasks : List FormLine

-- The whole form, from line 1: "Lines: `==>`; one action per line [..]; `root` and one id; one compound per line [..]; `<==`."
unfoldable pub read_form : Case → Names → List ℕ → Result Form
read_form k names text = do
  (line, n, place) ← due_line text 0 1 0
  shaped 0 1 (opening_of (words_of line))
  f ← front_lines k names text form_line_most 1 n place
  (tasks, n', place') ← back_lines k names text f.left f.next f.place
  no_more text 0 n' place'
  found (record { cues = f.cues; root_line = 2 + length f.cues; root = f.root; tasks = tasks })

-- ---- Its ids

abbrev pub line_number : FormLine → ℕ
line_number (cue_line line id a i) = line
line_number (task_line line id m subtasks) = line

abbrev pub defines : FormLine → ℕ
defines (cue_line line id a i) = id
defines (task_line line id m subtasks) = id

abbrev pub uses : FormLine → List ℕ
uses (cue_line line id a i) = []
uses (task_line line id m subtasks) = subtasks

unfoldable pub form_lines : Form → List FormLine
form_lines f = f.cues ++ f.tasks

-- How often a number is in a list.
abbrev pub times : ℕ → List ℕ → ℕ
times x [] = 0
times x (y ∷ ys) = elim (eqb y x) [ true ↦ suc (times x ys) | false ↦ times x ys ]

-- The ids that lines define, and those of their subtasks.
unfoldable pub all_defined : List FormLine → List ℕ
all_defined es = map defines es

unfoldable pub all_used : List FormLine → List ℕ
all_used es = flatten (map uses es)

-- The subtasks of the lines that define one of these ids.
abbrev pub below : List ℕ → List FormLine → List ℕ
below ids [] = []
below ids (e ∷ es) = elim (is_in (defines e) ids) [ true ↦ uses e ++ below ids es | false ↦ below ids es ]

-- From an id on through the lines that define it to their subtasks, so many times.
abbrev pub reached_in : ℕ → List FormLine → List ℕ → List ℕ
reached_in zero es ids = ids
reached_in (suc rounds) es ids = reached_in rounds es (ids ++ below ids es)

-- "reached from the root by any lines": as often as there are lines is enough.
unfoldable pub is_reached : List FormLine → ℕ → ℕ → Bool
is_reached es root id = is_in id (reached_in (length es) es (root ∷ []))

-- The same as a statement: the root is reached, and so is each subtask of a line that defines an id that is.
pub data Reached (es : List FormLine) (root : ℕ) : ℕ → Type 0 where
  at_root : Reached es root root
  onward : (e : FormLine) (s : ℕ) → Mem e es → Reached es root (defines e) → Mem s (uses e) → Reached es root s

abbrev pub any_missing : List ℕ → List ℕ → Bool
any_missing ids [] = false
any_missing ids (x ∷ xs) = not (is_in x ids) || any_missing ids xs

-- "19, first line that defines an id defined twice, twice a subtask, the root under a parent or not reached from the root by any lines, or
-- that uses an id never defined"
unfoldable pub is_wrong : List FormLine → ℕ → FormLine → Bool
is_wrong es root e =
    ltb 1 (times (defines e) (all_defined es))
    || (ltb 1 (times (defines e) (all_used es))
    || ((eqb (defines e) root && is_in root (all_used es))
    || (not (is_reached es root (defines e))
    || any_missing (all_defined es) (uses e))))

-- The line of the first that is wrong; or else what comes later.
abbrev pub first_wrong : (FormLine → Bool) → List FormLine → Option ℕ → Option ℕ
first_wrong wrong [] later = later
first_wrong wrong (e ∷ es) later = elim (wrong e) [ true ↦ some (line_number e) | false ↦ first_wrong wrong es later ]

-- The root line uses an id too.
unfoldable pub wrong_line : Form → Option ℕ
wrong_line f =
    first_wrong (is_wrong (form_lines f) f.root) f.cues
    (elim (is_in f.root (all_defined (form_lines f))) [
      | true ↦ first_wrong (is_wrong (form_lines f) f.root) f.tasks none
      | false ↦ some f.root_line
    ])

-- 19, "after all lines".
unfoldable pub ids_right : Form → Result (Unit {0})
ids_right f = unless WrongId (wrong_line f)
