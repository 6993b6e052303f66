-- `links::resolve` meets its contract: line by line, after the action lines, which have no links. Assumes nothing.
use mathlib.Core.List.{List}
use Rattle.rules.specs.Form.{FormLine}
use Rattle.links.proofs.Written.{Written}
use Rattle.links.proofs.Resolving.{Resolving}
use Rattle.links.proofs.resolve.Given as goal

abbrev pub invariant-loop-e : goal.invariant-loop-e
invariant-loop-e l =
    (es : List FormLine) → Written es l.text l.places l.table.ids.now l.cues l.count → Resolving es l.cues l.e l.n l.wrong l.starts l.links l.used
