-- `replay_with_room`: there is room for the fields. Assumes nothing.
use Rattle.replay.proofs.Calls.{roomy_zeros}
use Rattle.replay.proofs.call.replay_with_room.Goals as goal

pub replay_fields-requires-clause-roomy : goal.replay_fields-requires-clause-roomy
replay_fields-requires-clause-roomy g c = roomy_zeros c.args.text.now g.row.N c.requires.short.1
