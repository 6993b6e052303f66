-- `enter`: an entry that is put among the others fits; a return before that leaves them. Assumes nothing.
use Rattle.entering.proofs.lines.enter.Goals as goal

pub returns-clause-sound : goal.returns-clause-sound
returns-clause-sound c = λ holds passing sound all. c.push.ensures.pool_sound holds passing all sound
