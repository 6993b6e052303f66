-- `with_sign`: each arm of the match is the clause of its sign. Assumes nothing.
use Rattle.rules.specs.Constraint.{signed}
use Rattle.std.proofs.Common.{rules}
use Rattle.rows.proofs.with_sign.Goals as goal

pub returns-in-Positive : goal.returns-in-Positive
unfolding signed
returns-in-Positive c = search rules

pub returns-in-Negative : goal.returns-in-Negative
unfolding signed
returns-in-Negative c = search rules
