-- `sum_at`: each arm of the match is the clause of its sign. Assumes nothing.
use Rattle.columns.specs.Columns.{sum_at}
use Rattle.std.proofs.Common.{rules}
use Rattle.columns.proofs.sum_at.Goals as goal

pub returns-in-Positive : goal.returns-in-Positive
unfolding sum_at
returns-in-Positive c = search rules

pub returns-in-Negative : goal.returns-in-Negative
unfolding sum_at
returns-in-Negative c = search rules
