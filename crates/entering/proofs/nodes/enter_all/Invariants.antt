-- `enter_all`: the lines from this node's on stand at a place, so many empty tasks come before it, and the entries of the nodes before it are
-- sound (Visits); the counts are as many. Assumes nothing.
use Prim.Native.Nat.{ℕ, ◌+◌}
use Rattle.blames.specs.Entries.{PoolFits, PoolSound}
use Rattle.columns.specs.Columns.{Columns}
use Rattle.constraints.specs.Ready.{Ready}
use Rattle.entering.specs.Entering.{BreaksFail}
use Rattle.gaps.proofs.Lines.{Counted}
use Rattle.rows.specs.Rows.{in_row}
use Rattle.rules.specs.Case.{Case}
use Rattle.rules.specs.Gaps.{empty_count}
use Rattle.rules.specs.Tree.{Tree}
use lib.ListN.{length}
use mathlib.Core.Bool.{Bool}
use mathlib.Core.List.{List}
use mathlib.Core.Path.{◌≡◌}
use Rattle.entering.proofs.nodes.enter_all.Given as goal

abbrev pub invariant-loop-n : goal.invariant-loop-n
invariant-loop-n l =
    Columns l.states (l.header.cues + 1) l.columns l.built
    × PoolFits l.header.cues (length l.choice) l.pool
    × Counted empty_count l.fields l.nodes l.header.nodes l.at l.n l.first
    × ((k : Case) (t : Tree) → Ready k t l.fields l.header l.plan_line l.nodes l.states l.work → empty_count k.nodes ≡ length l.choice → (passing : List ℕ → Bool)
    → BreaksFail k t passing → PoolSound (in_row l.states) passing l.header.cues (length l.choice) l.initial.pool → PoolSound (in_row l.states) passing l.header.cues (length l.choice) l.pool)
    × (length l.counts ≡ length l.initial.counts)
    × (length l.columns ≡ length l.initial.columns)
    × (length l.built ≡ length l.initial.built)
