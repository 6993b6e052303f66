-- The sum that the definition has. Assumes nothing.
use Rattle.tree.specs.Fits.{line_at}
use Rattle.std.proofs.Common.{rules}
use Rattle.tree.proofs.fit.line_at.Goals as goal

pub returns : goal.returns
unfolding line_at
returns c = search rules
