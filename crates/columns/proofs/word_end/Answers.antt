-- Of two ends the first. Assumes nothing.
use Rattle.columns.specs.Columns.{state_words}
use Rattle.std.proofs.Common.{rules}
use Rattle.columns.proofs.word_end.Goals as goal

pub overflow_add-from : goal.overflow_add-from
unfolding state_words
overflow_add-from c = search rules
