-- `new`: what is asked of the lists is the invariant. Assumes nothing.
use Rattle.columns.proofs.StateColumns.new.Goals as goal

pub invariant_of-result : goal.invariant_of-result
invariant_of-result c = c.requires
