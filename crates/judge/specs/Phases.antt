-- What each phase of the check leaves to the next, of a case whose fields were read; and what the check answers. Assumes nothing.
use Rattle.std.specs.Prelude.{◌≡◌, ℕ, ◌*◌, ◌≤◌, length, take, replicate, Result, Ok, Err}
use mathlib.Core.List.{List, flatten}
use Rattle.std.proofs.Math.Option.{none}
use Rattle.rules.specs.declared.Answer.{Answer}
use Rattle.rules.specs.State.{first_stop}
use Rattle.rules.specs.Result as R
use Rattle.rules.specs.Result.{found, refused, ◌>>=◌, ◌>>◌}
use Rattle.rules.specs.Case.{Case, read_case}
use Rattle.rules.specs.Tree.{Tree, may_claim, walk_tree, least_unclaimed}
use Rattle.rules.specs.Fields.{fields_of}
use Rattle.rules.specs.Verdict.{Found, state_need, node_need, work_need, text_most, check_lists, lists_long, text_short, all_claimed, states_of, filled, answer_of, states_after}
use Rattle.rules.proofs.Judgement.Rows.{from_text}
use Rattle.fields.specs.Standing.{Stands}
use Rattle.fields.specs.Directory.{IsRead, Finds, NodesLast}
use Rattle.tree.specs.Layout.{size, rows, marks_of, marks_in, rows_in}
use Rattle.records.specs.Records.{RecordsHeld}
use Rattle.judge.specs.declared.Opened.{Opened}

-- What a verdict answers, and leaves in a state list of a size and in the work space: the records of an accepted tree as columns.
pub record Answers (f : Found Tree) (size : ℕ) (r : Answer) (states work : List ℕ) : Type 0 where
  pub answer : r ≡ answer_of f
  pub states_held : states ≡ states_after size f
  pub records_held : RecordsHeld f work

-- The fields of a case that is accepted.
unfoldable pub FieldsHeld : Found Tree → List ℕ → Type 0
FieldsHeld (found (k, t)) fields = IsRead k × Stands fields 0 (fields_of k)
FieldsHeld (refused r) fields = Unit {0}

-- Rows 1 and 2, of lists of these lengths and of a text: both are passed; or they refuse it.
abbrev pub rows_ahead : ℕ → ℕ → ℕ → List ℕ → R.Result (Unit {0})
rows_ahead states nodes work text = lists_long (check_lists states nodes work) >> text_short text

abbrev pub Admits : ℕ → ℕ → ℕ → List ℕ → Result (Unit {0}) Answer → Type 0
Admits states nodes work text (Ok tt) = (state_need ≤ states) × (node_need ≤ nodes) × (work_need ≤ work) × (length text ≤ text_most)
Admits states nodes work text (Err r) = rows_ahead states nodes work text ≡ refused r

-- Rows 1 and 2 are passed, and the state list is zero.
pub record Cleared (text states work : List ℕ) : Type 0 where
  pub short : length text ≤ text_most
  pub state_room : state_need ≤ length states
  pub work_room : work_need ≤ length work
  pub states_zero : states ≡ replicate (length states) 0

-- Rows 3 and 4 too: the fields are those of a case that was read, and the directory in the work space finds its lines.
pub record Opens (k : Case) (fields : List ℕ) (o : Opened) (initial : ℕ) (work : List ℕ) : Type 0 where
  pub head : o.header ≡ k.head
  pub planned : o.plan_line ≡ k.plan_line
  pub read : IsRead k
  pub finds : Finds k fields work initial o.plan o.nodes
  pub stands : Stands fields 0 (fields_of k)
  pub last : NodesLast k o.nodes
  pub work_room : work_need ≤ length work

pub record HasRead (k : Case) (fields : List ℕ) (o : Opened) (initial : ℕ) (states work : List ℕ) : Type 0 where
  pub opens : Opens k fields o initial work
  pub state_room : state_need ≤ length states
  pub states_zero : states ≡ replicate (length states) 0

-- Row 5 too: every cue applies, and the state list holds states 0 to k.
pub record HasRun (k : Case) (states : List ℕ) : Type 0 where
  pub runs : first_stop k.actions k.plan k.initial 1 ≡ none
  pub state_room : state_need ≤ length states
  pub states_held : states ≡ filled (length states) 0 (flatten (states_of k))

pub record Ran (k : Case) (fields : List ℕ) (o : Opened) (states work : List ℕ) : Type 0 where
  pub initial : ℕ
  pub opens : Opens k fields o initial work
  pub run : HasRun k states

-- Rows 6 to 8 and 20 to 22 too: the walk found a tree, whose rows and claims the work space holds.
pub record Walked (k : Case) (fields : List ℕ) (o : Opened) (states work : List ℕ) : Type 0 where
  pub initial : ℕ
  pub opens : Opens k fields o initial work
  pub run : HasRun k states
  pub tree : Tree
  pub claimed : List ℕ
  pub walks : walk_tree k (may_claim k.plan) ≡ found (tree, claimed)
  pub rowed : take (3 * size tree) (rows_in work) ≡ rows tree 0
  pub marked : marks_in k.head.cues work ≡ marks_of k.head.cues claimed

-- Row 9 too: every position is claimed.
pub record Claimed (k : Case) (fields : List ℕ) (o : Opened) (states work : List ℕ) : Type 0 where
  pub walked : Walked k fields o states work
  pub claims : least_unclaimed walked.claimed k.head.cues 1 ≡ none

-- ---- The rows from reading to 9, ahead of any that follow

-- Rows 6 to 9 and 20 to 22, then the rest.
abbrev pub from_claimed : {A : Type 0} → (Case → Tree → Found A) → Case → Found A
from_claimed rest k = walk_tree k (may_claim k.plan) >>= λ (t, claimed). all_claimed k claimed >> rest k t

-- Rows up to 9 of a case that was read: all are passed, and what they say with any rest is what that says; or they refuse it, and the state
-- list, of a size, is zero.
abbrev pub RowsPass : ((Case → Tree → Found Tree) → Found Tree) → Case → List ℕ → ℕ → Result Opened Answer → List ℕ → List ℕ → Type 0
RowsPass rows k fields size (Ok o) states work =
    (c : Claimed k fields o states work) × ((rest : Case → Tree → Found Tree) → rows rest ≡ rest k c.walked.tree)
RowsPass rows k fields size (Err a) states work = ((rest : Case → Tree → Found Tree) → rows rest ≡ refused a) × (states ≡ replicate size 0)

-- What the rows from reading to 9 leave of a text: its fields, those of a case that passes them, whatever the rest says.
pub record Passes (text fields : List ℕ) (o : Opened) (states work : List ℕ) (k : Case) : Type 0 where
  pub claimed : Claimed k fields o states work
  pub reads : read_case text ≡ found k
  pub stands : Stands fields 0 (fields_of k)
  pub last : NodesLast k o.nodes
  pub rows : (rest : Case → Tree → Found Tree) → from_text (from_claimed rest) text ≡ rest k claimed.walked.tree

-- Or the refusal, whatever the rest says, and a state list that is zero.
abbrev pub OpensAs : List ℕ → List ℕ → ℕ → Result Opened Answer → List ℕ → List ℕ → Type 0
OpensAs text fields size (Ok o) states work = (k : Case) × Passes text fields o states work k
OpensAs text fields size (Err a) states work =
    ((rest : Case → Tree → Found Tree) → from_text (from_claimed rest) text ≡ refused a) × (states ≡ replicate size 0)
