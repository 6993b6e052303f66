-- Two words together are 0 exactly if each is. Assumes nothing.
use Rattle.rules.specs.State.{quiet}
use Rattle.state.proofs.Tests.{or_none}
use Rattle.state.proofs.is_quiet.Goals as goal

pub returns : goal.returns
unfolding quiet
returns c = or_none c.args.added c.args.deleted
