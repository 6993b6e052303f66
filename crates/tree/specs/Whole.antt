-- What the walk of the whole tree asks and promises. Assumes nothing.
use Rattle.std.specs.Prelude.{◌≡◌, List, [], ℕ, ◌*◌, ◌≤◌, length, take, Result as Returned, Ok, Err}
use Rattle.rules.specs.declared.Header.{Header}
use Rattle.rules.specs.declared.Answer.{Answer}
use Rattle.rules.specs.Result.{Result, found, refused}
use Rattle.rules.specs.Case.{Case}
use Rattle.rules.specs.Tree.{Tree}
use Rattle.fields.specs.Directory.{IsRead, Finds}
use Rattle.tree.specs.Layout.{size, rows, marks_of, directory_of, marks_in, rows_in}

-- What is given is the case's; the work space starts with the directory of its lines, and no position is marked.
pub record WalkReady (k : Case) (fields : List ℕ) (header : Header) (plan_line plan nodes : ℕ) (work : List ℕ) : Type 0 where
  pub head : header ≡ k.head
  pub planned : plan_line ≡ k.plan_line
  pub read : IsRead k
  pub initial : ℕ
  pub finds : Finds k fields work initial plan nodes
  pub room : 16384 ≤ length work
  pub unmarked : marks_in k.head.cues work ≡ marks_of k.head.cues []

-- A tree that is right: its rows from node 0 on, a mark for each position claimed, and the directory as it was.
pub record TreeKept (k : Case) (w : List ℕ) (t : Tree) (claimed : List ℕ) (r : Returned (Unit {0}) Answer) (v : List ℕ) : Type 0 where
  pub right : r ≡ Ok tt
  pub rowed : take (3 * size t) (rows_in v) ≡ rows t 0
  pub marked : marks_in k.head.cues v ≡ marks_of k.head.cues claimed
  pub directory : directory_of v ≡ directory_of w

abbrev pub TreeTold : Case → List ℕ → Result (Tree × List ℕ) → Returned (Unit {0}) Answer → List ℕ → Type 0
TreeTold k w (found (t, claimed)) r v = TreeKept k w t claimed r v
TreeTold k w (refused a) r v = r ≡ Err a
