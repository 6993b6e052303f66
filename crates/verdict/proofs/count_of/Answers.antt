-- `count_of`: an acceptance says its nodes, any other answer none.
use Rattle.std.proofs.Common.{sym, ap}
use Rattle.rules.specs.declared.Answer.{Answer}
use Rattle.rules.specs.Verdict.{reported}
use Rattle.verdict.proofs.Records.{no_records}
use Rattle.verdict.proofs.count_of.Goals as goal

pub returns-in_default : goal.returns-in_default
returns-in_default c = sym (no_records c.args.answer c.in_default.not-Accepted)

pub returns : goal.returns
unfolding reported
returns c = sym (ap (λ (a : Answer). (reported a).nodes) c.in-Accepted.is)
