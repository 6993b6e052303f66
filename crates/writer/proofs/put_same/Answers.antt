-- `put_same`: the text, if there is room. Assumes nothing.
use native.Mathlib.Omega.{arith}
use Rattle.rules.specs.Verdict.{text_most}
use Rattle.writer.proofs.put_same.Goals as goal

pub overflow_cast-result : goal.overflow_cast-result
unfolding text_most
overflow_cast-result c = let most = c.requires in omega arith

pub overflow_cast-result-2 : goal.overflow_cast-result-2
unfolding text_most
overflow_cast-result-2 c = let most = c.requires in omega arith
