-- `first_broken`: the first broken constraint of the whole tree is that from here on (Going). Assumes nothing.
use Rattle.columns.specs.Columns.{Columns}
use Rattle.constraints.proofs.Steps.{Going}
use Rattle.constraints.specs.Ready.{Ready}
use Rattle.rules.specs.Case.{Case}
use Rattle.rules.specs.Tree.{Tree}
use lib.ListN.{length}
use mathlib.Core.Path.{◌≡◌}
use Rattle.constraints.proofs.node.first_broken.Given as goal

abbrev pub invariant-loop-n : goal.invariant-loop-n
invariant-loop-n l =
    Columns l.states l.held l.columns l.built
    × ((k : Case) (t : Tree) → Ready k t l.fields l.fn.header l.plan_line l.nodes l.states l.initial.work → Going k t l.fields l.fn.header l.plan_line l.nodes l.states l.initial.work l.work l.at l.n)
    × (length l.columns ≡ length l.initial.columns)
    × (length l.built ≡ length l.initial.built)
