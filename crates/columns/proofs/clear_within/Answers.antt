-- The bits under the two masks. Assumes nothing.
use Rattle.columns.proofs.Masks.{within}
use Rattle.columns.proofs.clear_within.Goals as goal

pub returns : goal.returns
returns c = within c.args.word c.args.a c.args.b c.requires.a_le_b c.requires.le_b.1
