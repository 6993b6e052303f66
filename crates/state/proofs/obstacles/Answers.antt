-- No bit of either kind is no bit of both. Assumes nothing.
use Rattle.state.proofs.Tests.{no_obstacle}
use Rattle.state.proofs.obstacles.Goals as goal

pub returns : goal.returns
returns c = let a = c.args in no_obstacle a.w a.needed a.forbidden c.word_without.ensures
