-- `check_within`: an output of so many bytes is none too long. Assumes nothing.
use native.Mathlib.Omega.{arith}
use Rattle.rules.specs.Verdict.{text_most}
use Rattle.finder.proofs.check_within.Goals as goal

pub whole_as_slice-check_print : goal.whole_as_slice-check_print
unfolding text_most
whole_as_slice-check_print g c = let most = c.requires.state_need_in_bounds.2 in omega arith
