-- `build`: the words before w are right (Right); then the two last words sum them up, and leave them as they are. Assumes nothing.
use Rattle.columns.proofs.Filling.{Right}
use Rattle.rows.specs.Rows.{in_row}
use Rattle.rules.specs.declared.Sign.TheVariants.{Positive}
use lib.ListN.{length}
use mathlib.Core.Path.{◌≡◌}
use Rattle.columns.proofs.build.Given as goal

abbrev pub invariant-loop-w : goal.invariant-loop-w
invariant-loop-w l = (length l.column ≡ length l.initial.column) × Right (in_row l.states Positive l.p) l.n l.column l.w
