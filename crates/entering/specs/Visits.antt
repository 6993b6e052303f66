-- A node whose constraints are entered, among what the phases before left. Assumes nothing.
use Rattle.std.specs.Prelude.{◌≡◌, List, ℕ, ◌+◌, get_or}
use Rattle.rules.specs.Case.{Case}
use Rattle.rules.specs.Tree.{Tree}
use Rattle.rules.specs.Gaps.{empty_count}
use Rattle.constraints.specs.Ready.{NodeReady}
use Rattle.gaps.proofs.Lines.{Counting}
use Rattle.entering.specs.declared.nodes.Visited.{Visited}

-- Its line stands at its place, and so many of the case's e empty tasks come before it.
pub record Visiting (k : Case) (t : Tree) (fields : List ℕ) (cues e : ℕ) (states work : List ℕ) (x : Visited) : Type 0 where
  pub node : NodeReady k t fields (cues + 1) states work x.n x.letter x.label
  pub lettered : x.letter ≡ get_or fields x.at 0
  pub counts : Counting empty_count fields k.nodes x.at x.n x.first
  pub empties : empty_count k.nodes ≡ e
