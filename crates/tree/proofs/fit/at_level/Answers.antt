-- Above level 65 the fit stands; there, none does. Assumes nothing.
use Rattle.tree.proofs.Steps.{level_left, level_none}
use Rattle.tree.proofs.fit.at_level.Goals as goal

pub returns-then-level-lt65 : goal.returns-then-level-lt65
returns-then-level-lt65 c = let a = c.args in level_left a.level a.fit a.deep c.if-level-lt65.true

pub returns-else-level-lt65 : goal.returns-else-level-lt65
returns-else-level-lt65 c = let a = c.args in level_none a.level a.fit a.deep c.if-level-lt65.false
