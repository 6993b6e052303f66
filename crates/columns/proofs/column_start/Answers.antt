-- The product of the definition. Assumes nothing.
use Rattle.columns.specs.Columns.{column_words}
use Rattle.std.proofs.Common.{rules}
use Rattle.columns.proofs.column_start.Goals as goal

pub returns : goal.returns
unfolding column_words
returns c = search rules
