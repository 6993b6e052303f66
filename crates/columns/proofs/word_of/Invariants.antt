-- `word_of`: the tests from l on are in the word (Tests). Assumes nothing.
use Prim.Native.Nat.{◌≤◌}
use Rattle.columns.proofs.Filling.{Tests}
use Rattle.rows.specs.Rows.{in_row}
use Rattle.rules.specs.declared.Sign.TheVariants.{Positive}
use Rattle.columns.proofs.word_of.Given as goal

abbrev pub invariant-loop-l : goal.invariant-loop-l
invariant-loop-l l =
    (l.from ≤ l.l) × Tests (in_row l.states Positive l.p) l.l l.to l.word
