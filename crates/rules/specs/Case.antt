-- A case, and reading one from a text (01, "The case text" and rows 3 and 4 of its table; 02, Card 1). Assumes nothing.
use Rattle.std.specs.Prelude.{Bool, true, false, ◌||◌, List, [], ◌∷◌, map, ℕ, zero, suc, ◌+◌, eqb, ltb, length, get_or}
use Prim.Native.Char.{code}
use Rattle.rules.specs.declared.Header.{Header}
use Rattle.rules.specs.declared.Answer.TheVariants.{Unreadable, OutOfRange}
use Rattle.rules.specs.declared.Sign.{Sign}
use Rattle.rules.specs.declared.Sign.TheVariants.{Positive, Negative}
use Rattle.rules.specs.State.{State, Action, no_propositions, insert_all}
use Rattle.rules.specs.Table.{Role, header, initial, action, method, constraint, plan, node, Value, scalar, listed, number_of, LineRead, line, read_line}
use Rattle.rules.specs.Result.{Result, found, refused, ◌>>=◌, ◌>>◌}

-- "O,i,j (i before j, i ≠ j, both subtask numbers); B,p,U (before); F,p,U (after); W,U,p,V (between)." "Lines b, f and w take the fields
-- of B, F and W and ask that the proposition be false" (02, Card 1): a condition has a sign.
pub data Constraint : Type 0 where
  O : (i j : ℕ) → Constraint
  B : (s : Sign) (p u : ℕ) → Constraint
  F : (s : Sign) (p u : ℕ) → Constraint
  W : (s : Sign) (u p v : ℕ) → Constraint

pub record Method : Type 0 where
  pub task : ℕ
  pub subtasks : List ℕ
  pub constraints : List Constraint

-- "D,m (method m, not empty); E,m,g (empty method m in gap g, 0 to k); L,a,i (action a at position i, 1 to k)."
pub data NodeLine : Type 0 where
  D : (m : ℕ) → NodeLine
  E : (m g : ℕ) → NodeLine
  L : (a i : ℕ) → NodeLine

pub record Case : Type 0 where
  pub head : Header
  pub initial : State
  pub actions : List Action
  pub methods : List Method
  pub plan : List ℕ
  pub nodes : List NodeLine
  -- The number of the P line; the node lines follow it.
  pub plan_line : ℕ

unfoldable pub no_method : Method
no_method = record { task = 0; subtasks = []; constraints = [] }

unfoldable pub method_at : List Method → ℕ → Method
method_at methods m = get_or methods m no_method

-- ---- A line as what it stands for

-- A line's letter and its values.
abbrev pub Valued : Type 0
Valued = ℕ × List Value

unfoldable pub scalar_at : List Value → ℕ → ℕ
scalar_at values i = number_of (get_or values i (scalar 0))

abbrev pub list_of : Value → List ℕ
list_of (scalar v) = []
list_of (listed vs) = vs

unfoldable pub members_at : List Value → ℕ → List ℕ
members_at values i = list_of (get_or values i (listed []))

unfoldable pub set_at : List Value → ℕ → State
set_at values i = insert_all no_propositions (members_at values i)

-- "N, propositions [..], actions [..], compound tasks [..], methods [..], goal, k [..], nodes"
abbrev pub header_in : List ℕ → Header
header_in ns = record {
  propositions = get_or ns 0 0;
  actions = get_or ns 1 0;
  compounds = get_or ns 2 0;
  methods = get_or ns 3 0;
  goal = get_or ns 4 0;
  cues = get_or ns 5 0;
  nodes = get_or ns 6 0;
}

unfoldable pub header_of : Valued → Header
header_of x = header_in (map number_of x.1)

-- "I, initial set."
unfoldable pub initial_of : Valued → State
initial_of x = set_at x.1 0

-- "One A line per action: needed, forbidden, added, deleted."
unfoldable pub action_of : Valued → Action
action_of x = record { needed = set_at x.1 0; forbidden = set_at x.1 1; added = set_at x.1 2; deleted = set_at x.1 3 }

-- The sign of a condition's letter: "b, f and w [..] ask that the proposition be false" (02, Card 1).
unfoldable pub sign_of : ℕ → Sign
sign_of letter = elim (ltb letter (code "a")) [ true ↦ Positive | false ↦ Negative ]

-- A letter is one of two.
abbrev pub is_either : ℕ → ℕ → ℕ → Bool
is_either letter large small = eqb letter large || eqb letter small

-- A constraint line, by its letter and its numbers.
unfoldable pub constraint_of : ℕ → ℕ → ℕ → ℕ → Constraint
constraint_of letter first second third =
    elim (is_either letter (code "W") (code "w")) [
      | true ↦ W (sign_of letter) first second third
      | false ↦
          elim (is_either letter (code "F") (code "f")) [
            | true ↦ F (sign_of letter) first second
            | false ↦ elim (is_either letter (code "B") (code "b")) [ true ↦ B (sign_of letter) first second | false ↦ O first second ]
          ]
    ]

unfoldable pub as_constraint : Valued → Constraint
as_constraint x = constraint_of x.0 (scalar_at x.1 0) (scalar_at x.1 1) (scalar_at x.1 2)

-- "P, then k actions"
unfoldable pub plan_of : Valued → List ℕ
plan_of x = members_at x.1 0

-- A node line, by its letter and its numbers.
unfoldable pub node_of : ℕ → ℕ → ℕ → NodeLine
node_of letter first second =
    elim (eqb letter (code "D")) [ true ↦ D first | false ↦ elim (eqb letter (code "E")) [ true ↦ E first second | false ↦ L first second ] ]

unfoldable pub as_node : Valued → NodeLine
as_node x = node_of x.0 (scalar_at x.1 0) (scalar_at x.1 1)

-- ---- Line by line

-- What is read, with the number of the line after it and where that starts.
abbrev pub Read : Type 0 → Type 0
Read A = Result (A × ℕ × ℕ)

abbrev pub read_as : {A : Type 0} → (Valued → A) → ℕ → LineRead → Read A
read_as means n (line l vs next) = found (means (l, vs), n + 1, next)
read_as means n (LineRead.unreadable field) = refused (Unreadable n field)
read_as means n (LineRead.outside field) = refused (OutOfRange n field)

-- Line n, of the role that is due, as what it means; the constraints of a method with s subtasks.
unfoldable pub one_line : {A : Type 0} → List ℕ → Header → Role → ℕ → (Valued → A) → ℕ → ℕ → Read A
one_line text h due s means n place = read_as means n (read_line text due h s place)

-- So many in turn, each read where the one before it ended.
abbrev pub many : {A : Type 0} → (ℕ → ℕ → Read A) → ℕ → ℕ → ℕ → Read (List A)
many one zero n place = found ([], n, place)
many one (suc count) n place = do
  (x, n', place') ← one n place
  (xs, n'', place'') ← many one count n' place'
  found (x ∷ xs, n'', place'')

-- "One M line per method: compound task, list of subtasks [..], constraint count c (0 to 64); then c lines of its own"
unfoldable pub one_method : List ℕ → Header → ℕ → ℕ → Read Method
one_method text h n place = do
  (vs, n', place') ← one_line text h method 0 (λ x. x.1) n place
  (cs, n'', place'') ← many (one_line text h constraint (scalar_at vs 1) as_constraint) (scalar_at vs 2) n' place'
  found (record { task = scalar_at vs 0; subtasks = members_at vs 1; constraints = cs }, n'', place'')

-- The lines after the header, in their fixed order.
unfoldable pub read_body : List ℕ → Header → ℕ → ℕ → Read Case
read_body text h n place = do
  (i, n₁, p₁) ← one_line text h initial 0 initial_of n place
  (acts, n₂, p₂) ← many (one_line text h action 0 action_of) h.actions n₁ p₁
  (ms, n₃, p₃) ← many (one_method text h) h.methods n₂ p₂
  (cs, n₄, p₄) ← one_line text h plan 0 plan_of n₃ p₃
  (ns, n₅, p₅) ← many (one_line text h node 0 as_node) h.nodes n₄ p₄
  found (record { head = h; initial = i; actions = acts; methods = ms; plan = cs; nodes = ns; plan_line = n₃ }, n₅, p₅)

unfoldable pub no_header : Header
no_header = record { propositions = 0; actions = 0; compounds = 0; methods = 0; goal = 0; cues = 0; nodes = 0 }

-- A case, from line n on, which starts at a place.
unfoldable pub read_from : List ℕ → ℕ → ℕ → Read Case
read_from text n place = do
  (h, n', place') ← one_line text no_header header 0 header_of n place
  read_body text h n' place'

-- "surplus line (item 1, ended or not)": nothing stands after the last due line's line feed.
unfoldable pub no_surplus : List ℕ → ℕ → ℕ → Result (Unit {0})
no_surplus text n place = elim (ltb place (length text)) [ true ↦ refused (Unreadable n 1) | false ↦ found tt ]

-- The whole text, from line 1.
unfoldable pub read_case : List ℕ → Result Case
read_case text = do
  (k, n, place) ← read_from text 1 0
  no_surplus text n place
  found k
