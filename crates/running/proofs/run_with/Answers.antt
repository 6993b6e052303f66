-- `run_with`: the directory finds the line of each action that is held. Assumes nothing.
use Rattle.rules.specs.State.{action_at}
use Rattle.running.proofs.Reached.{actions_listed, action_fits, action_stands}
use native.Mathlib.Omega.{arith}
use Rattle.running.proofs.run_with.Goals as goal

pub decode_actions-requires-clause-listed : goal.decode_actions-requires-clause-listed
decode_actions-requires-clause-listed c =
    let held = c.held-held.ensures in
    let listed = actions_listed c.requires.left.1 in
    omega arith

pub decode_actions-requires-clause-here : goal.decode_actions-requires-clause-here
decode_actions-requires-clause-here c =
    let p = c.requires.left in
    let n = c.args.size in
    let held = c.held-held.ensures in
    λ i h. (action_at p.0.actions i, action_fits p.1 i (omega arith) n c.requires.sized.2, action_stands p.1 i (omega arith))
