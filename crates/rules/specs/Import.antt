-- The import call (02, Card 6): the case that a form becomes, what the call answers and leaves in the lent lists, and what it promises. Assumes
-- nothing.
use Rattle.std.specs.Prelude.{◌≡◌, true, false, List, [], ◌∷◌, ◌++◌, ℕ, zero, suc, ◌≤◌, eqb, length, replicate}
use Rattle.std.proofs.Math.Option.{Option, none, some}
use Rattle.rules.specs.declared.Header.{Header}
use Rattle.rules.specs.declared.Answer.{Answer}
use Rattle.rules.specs.declared.Answer.TheVariants.{WrongId}
use Rattle.rules.specs.Result.{Result, found, refused, ◌>>=◌, ◌>>◌}
use Rattle.rules.specs.Case.{NodeLine, D, E, L, Case, read_case}
use Rattle.rules.specs.Print.{printed}
use Rattle.rules.specs.Tree.{Tree, leaf, empty, task, Trees, no_tree, more}
use Rattle.rules.specs.Verdict.{Report, reported, Lent, lists_long, text_short, Found, answer_of, filled, states_after, nodes_after, work_after}
use Rattle.rules.specs.Refusals.{Admits, Shows}
use Rattle.rules.specs.Demands.{Borrowed, lent_by}
use Rattle.rules.specs.Writing.{room_for}
use Rattle.rules.specs.Gaps.{find_gaps, tried_after, before_choices, Limited}
use Rattle.rules.specs.Naming.{Names, read_names}
use Rattle.rules.specs.Form.{FormLine, cue_line, task_line, Form, read_form, defines, form_lines, ids_right}
use Rattle.rules.specs.FormFaults.{NamesFault, NamesAre, FormFault, FormIs, WrongAt, FirstWrong}

-- ---- The made case

-- The line that defines an id.
abbrev pub line_defining : List FormLine → ℕ → Option FormLine
line_defining [] id = none
line_defining (e ∷ es) id = elim (eqb (defines e) id) [ true ↦ some e | false ↦ line_defining es id ]

-- The node line that a line becomes: "The form becomes a case, gaps 0".
abbrev pub node_for : FormLine → NodeLine
node_for (cue_line line id a i) = L a i
node_for (task_line line id m []) = E m 0
node_for (task_line line id m (s ∷ ss)) = D m

-- The ids that follow, with those of a line's subtasks in front: "subtask ids follow the method's order".
abbrev pub subtasks_first : FormLine → List ℕ → List ℕ
subtasks_first (cue_line line id a i) ids = ids
subtasks_first (task_line line id m subtasks) ids = subtasks ++ ids

-- The nodes of these ids in preorder, each followed by those of its subtasks; at most so many.
abbrev pub nodes_of : ℕ → List FormLine → List ℕ → List NodeLine
nodes_of zero es ids = []
nodes_of (suc left) es [] = []
nodes_of (suc left) es (id ∷ ids) =
    elim (line_defining es id) [ none ↦ nodes_of left es ids | some e ↦ node_for e ∷ nodes_of left es (subtasks_first e ids) ]

-- The actions of the action lines, in their order.
abbrev pub actions_of : List FormLine → List ℕ
actions_of [] = []
actions_of (cue_line line id a i ∷ es) = a ∷ actions_of es
actions_of (task_line line id m subtasks ∷ es) = actions_of es

-- All nodes: each line once, so there are no more than lines.
unfoldable pub made_nodes : Form → List NodeLine
made_nodes f = nodes_of (length (form_lines f)) (form_lines f) (f.root ∷ [])

unfoldable pub made_header : Header → ℕ → ℕ → Header
made_header h cues nodes = record {
  propositions = h.propositions;
  actions = h.actions;
  compounds = h.compounds;
  methods = h.methods;
  goal = h.goal;
  cues = cues;
  nodes = nodes;
}

-- "a case, whose header k and node count, P and node lines are replaced"
unfoldable pub made_case : Case → Form → Case
made_case k f = record {
  head = made_header k.head (length f.cues) (length (made_nodes f));
  initial = k.initial;
  actions = k.actions;
  methods = k.methods;
  plan = actions_of f.cues;
  nodes = made_nodes f;
  plan_line = k.plan_line;
}

-- ---- The call

-- "01's 1 to 4 on the case come first, then 17 and 18 on the name list, then the form."
unfoldable pub made_from : List Lent → List ℕ → List ℕ → List ℕ → Result Case
made_from lists text names form = do
  lists_long lists  -- 1
  text_short text  -- 2
  k ← read_case text  -- 3, 4
  ns ← read_names k.head names  -- 17, 18
  f ← read_form k ns form  -- 17, 18
  ids_right f  -- 19
  found (made_case k f)

-- "The form becomes a case, gaps 0, kept so in a lent output (14 after 19; zero if refused) and goes through Card 4, whose refusals stand".
-- What is found, and the text that was made.
unfoldable pub import_form : ℕ → List Lent → ℕ → List ℕ → List ℕ → List ℕ → Found (Tree × List ℕ)
import_form tried lists size text names form = do
  made ← made_from lists text names form
  room_for size (printed made)  -- 14
  (k, t) ← find_gaps tried lists (printed made)
  found (k, (t, printed made))

-- What is found alone.
abbrev pub found_tree : Found (Tree × List ℕ) → Found Tree
found_tree (found (k, (t, made))) = found (k, t)
found_tree (refused r) = refused r

unfoldable pub made_after : ℕ → Found (Tree × List ℕ) → List ℕ
made_after size (found (k, (t, made))) = filled size 0 made
made_after size (refused r) = replicate size 0

unfoldable pub made_length : Found (Tree × List ℕ) → ℕ
made_length (found (k, (t, made))) = length made
made_length (refused r) = 0

-- ---- What the call promises

-- A tree is the one that hangs from an id: its line's action at its position; its line's method, with no subtasks; or with those of the ids
-- of its subtasks, in turn.
unfoldable mutual
  pub TreeFor : List FormLine → Tree → ℕ → Type 0
  TreeFor es (leaf a i) id = (line : ℕ) × (line_defining es id ≡ some (cue_line line id a i))
  TreeFor es (empty m g) id = (line : ℕ) × (line_defining es id ≡ some (task_line line id m []))
  TreeFor es (task m ts) id = (line : ℕ) × (ids : List ℕ) × (line_defining es id ≡ some (task_line line id m ids)) × TreesFor es ts ids

  pub TreesFor : List FormLine → Trees → List ℕ → Type 0
  TreesFor es no_tree [] = Unit {0}
  TreesFor es no_tree (id ∷ ids) = ⊥
  TreesFor es (more t ts) [] = ⊥
  TreesFor es (more t ts) (id ∷ ids) = TreeFor es t id × TreesFor es ts ids

-- "what is found has the form's tree and plan", of the model that came.
pub record HasForm (text names form : List ℕ) (k : Case) (t : Tree) : Type 0 where
  pub model : Case
  pub listed : Names
  pub lines : Form
  pub reads : read_case text ≡ found model
  pub lists : read_names model.head names ≡ found listed
  pub forms : read_form model listed form ≡ found lines
  pub right : ids_right lines ≡ found tt
  pub plan : k.plan ≡ actions_of lines.cues
  pub tree : TreeFor (form_lines lines) t lines.root
  pub initial : k.initial ≡ model.initial
  pub actions : k.actions ≡ model.actions
  pub methods : k.methods ≡ model.methods
  pub goal : k.head.goal ≡ model.head.goal

-- The rows ahead of the made case, in the card's order, as statements.
module _ (lists : List Lent) (text names form : List ℕ) where
  -- What refuses the three texts ahead of the made case.
  pub data Stops : Answer → Type 0 where
    -- "01's 1 to 4 on the case come first"
    on_case : {a : Answer} → (reported a).number ≤ 4 → Shows lists text (reported a).number (reported a).line (reported a).item → Stops a
    -- "then 17 and 18 on the name list"
    on_names : {k : Case} {a : Answer} → Admits lists text → read_case text ≡ found k → NamesFault k.head names a → Stops a
    -- "then the form"
    on_form : {k : Case} {ns : Names} {a : Answer} → Admits lists text → read_case text ≡ found k → NamesAre k.head names ns
        → FormFault k ns form a → Stops a
    -- 19, "after all lines"
    on_ids : {k : Case} {ns : Names} {f : Form} {l : ℕ} → Admits lists text → read_case text ≡ found k → NamesAre k.head names ns
        → FormIs k ns form f → FirstWrong f l → Stops (WrongId l)

  -- What the made case is made of where nothing does.
  pub record Passes (made : Case) : Type 0 where
    pub model : Case
    pub listed : Names
    pub lines : Form
    pub admits : Admits lists text
    pub reads : read_case text ≡ found model
    pub names_are : NamesAre model.head names listed
    pub form_is : FormIs model listed form lines
    pub right : (l : ℕ) → WrongAt lines l → ⊥
    pub is : made ≡ made_case model lines

  abbrev pub MadeShows : Result Case → Type 0
  MadeShows (found made) = Passes made
  MadeShows (refused a) = Stops a

-- The number tried is within Card 4's limits for the made text.
abbrev pub LimitedMade : List Lent → Result Case → ℕ → Type 0
LimitedMade lists (found made) n = Limited (before_choices lists (printed made)) n
LimitedMade lists (refused r) n = Unit {0}

-- Demand 1 of the call: an equation but for the number tried, which Card 4 leaves open within its limits.
pub record ImportDemand1 (text names form : List ℕ) (before : Borrowed) (output : List ℕ) (r : Report) (tried size : ℕ) (after : Borrowed) (output' : List ℕ) : Type 0 where
  pub number : ℕ
  pub limited : LimitedMade (lent_by before) (made_from (lent_by before) text names form) number
  pub answer : r ≡ reported (answer_of (import_form number (lent_by before) (length output) text names form))
  pub answered : tried ≡ tried_after number (found_tree (import_form number (lent_by before) (length output) text names form))
  pub put : output' ≡ made_after (length output) (import_form number (lent_by before) (length output) text names form)
  pub sized : size ≡ made_length (import_form number (lent_by before) (length output) text names form)
  pub states : after.states ≡ states_after (length before.states) (import_form number (lent_by before) (length output) text names form)
  pub nodes : after.nodes ≡ nodes_after (length before.nodes) (found_tree (import_form number (lent_by before) (length output) text names form))
  pub work : after.work ≡ work_after (length before.work)
  pub holds : (k : Case) (t : Tree) (made : List ℕ) → import_form number (lent_by before) (length output) text names form ≡ found (k, (t, made))
      → HasForm text names form k t
  pub shows : MadeShows (lent_by before) text names form (made_from (lent_by before) text names form)
