-- `run`: the model's propositions are within the limit, so that their words are those of a state. Assumes nothing.
use Rattle.running.proofs.Reached.{few_propositions}
use Rattle.running.proofs.run.Goals as goal

pub words_of-size-requires : goal.words_of-size-requires
words_of-size-requires c = few_propositions c.requires.left.1
