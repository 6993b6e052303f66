-- `find_lent`: a text that is not too long has room for its fields. Assumes nothing.
use native.Mathlib.Omega.{arith}
use Rattle.rules.specs.Verdict.{text_most}
use Rattle.finder.proofs.find_lent.Goals as goal

pub find_within-requires-2-clause-spacious : goal.find_within-requires-2-clause-spacious
unfolding text_most
find_within-requires-2-clause-spacious c = (λ n m short. omega arith, omega arith)
