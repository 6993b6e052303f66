-- The letter without the small one's bit is the large one. Assumes nothing.
use Rattle.parts.proofs.Letters.{either_large}
use native.Mathlib.Omega.{arith}
use Rattle.parts.proofs.tests.is_either.Goals as goal

pub returns : goal.returns
returns c = either_large c.args.letter c.args.large (omega arith) c.requires
