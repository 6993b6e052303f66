-- The lines of trees in a row among the fields, the rows of their nodes, and what the parts made of them say. Assumes nothing.
use Rattle.std.specs.Prelude.{◌≡◌, List, map, ℕ, ◌+◌, ◌≤◌}
use Rattle.rules.specs.declared.Header.{Header}
use Rattle.rules.specs.State.{bit}
use Rattle.rules.specs.Case.{NodeLine}
use Rattle.rules.specs.Fields.{lines_fields, node_line}
use Rattle.rules.specs.Tree.{Trees, no_tree, more}
use Rattle.rules.specs.Refusals.{Each}
use Rattle.rules.specs.Ranges.{GoodNode}
use Rattle.rules.specs.Gaps.{empty_count}
use Rattle.rules.proofs.Judgement.Preorder.{lines_of, lines_of_all}
use Rattle.rules.proofs.Gaps.Trees.{empties_in, empties_in_all}
use Rattle.fields.specs.Standing.{Stands}
use Rattle.tree.specs.Layout.{sizes}
use Rattle.constraints.proofs.Held.{HeldAll, count_of}
use Rattle.gaps.specs.Sums.{low_of, high_of, in_run}
use Rattle.entering.specs.declared.sums.Part.{Part}
use Rattle.entering.specs.Parts.{part_in}

-- So many trees, as those of a task's subtasks: their rows from a node on, their lines from a place on, after `first` empty tasks.
pub record TreesStand (fields work : List ℕ) (node at first count : ℕ) (ts : Trees) : Type 0 where
  pub header : Header
  pub few_cues : header.cues ≤ 1000
  pub rows : HeldAll work ts node
  pub counted : count_of ts ≡ count
  pub lines : Stands fields at (lines_fields (map node_line (lines_of_all ts)))
  pub good : Each (GoodNode header) (lines_of_all ts)
  pub few_nodes : sizes ts ≤ 3000
  pub few_empties : first + empties_in_all ts ≤ 32

-- A part says what node lines say that come after a empty tasks.
pub record PartSays (cues a : ℕ) (ns : List NodeLine) (p : Part) : Type 0 where
  pub low : p.low ≡ low_of cues ns
  pub high : p.high ≡ high_of ns
  pub set : (s : ℕ) → bit p.set s ≡ in_run a (empty_count ns) s

-- The parts from number j on say what trees do that come after a empty tasks.
abbrev pub PartsSaid : ℕ → ℕ → Trees → List Part → ℕ → Type 0
PartsSaid cues a no_tree sums j = Unit {0}
PartsSaid cues a (more x xs) sums j = PartSays cues a (lines_of x) (part_in sums j) × PartsSaid cues (a + empties_in x) xs sums (j + 1)
