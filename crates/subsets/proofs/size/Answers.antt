-- Each set bit is a member. Assumes nothing.
use mathlib.Core.Path.{sym}
use Rattle.subsets.proofs.Members.{size_is}
use Rattle.subsets.proofs.size.Goals as goal

pub returns : goal.returns
returns c = sym (size_is c.args.u c.ranges.u.fits)
