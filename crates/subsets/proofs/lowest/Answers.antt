-- The trailing zeros are as many as the lowest member says. Assumes nothing.
use mathlib.Core.Path.{sym}
use Rattle.subsets.proofs.Members.{lowest_is}
use Rattle.subsets.proofs.lowest.Goals as goal

pub returns : goal.returns
returns c = sym (lowest_is c.args.u)
