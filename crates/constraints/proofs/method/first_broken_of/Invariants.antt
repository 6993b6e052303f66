-- `first_broken_of`: the first broken constraint from the start on is that from here on (Testing). Assumes nothing.
use Rattle.columns.specs.Columns.{Columns}
use Rattle.constraints.proofs.Testing.{Testing}
use Rattle.constraints.specs.Methods.{ConstraintsHere}
use Rattle.index.specs.Spans.{span_of}
use Rattle.rules.specs.Case.{Constraint}
use lib.ListN.{length}
use mathlib.Core.List.{List}
use mathlib.Core.Path.{◌≡◌}
use Rattle.constraints.proofs.method.first_broken_of.Given as goal

abbrev pub invariant-loop-number : goal.invariant-loop-number
invariant-loop-number l =
    Columns l.states l.held l.columns l.built
    × ((cs : List Constraint) → ConstraintsHere l.fields l.from l.count cs → Testing l.fields l.at l.count l.line (span_of l.own) l.held l.states l.work l.number cs)
    × (length l.columns ≡ length l.initial.columns)
    × (length l.built ≡ length l.initial.built)
