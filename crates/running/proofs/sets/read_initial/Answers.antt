-- `read_initial`: its set stands after the line's letter. Assumes nothing.
use Rattle.rules.specs.State.{word_count, no_propositions}
use Rattle.running.proofs.SetFields.{initial_inside, initial_is}
use Rattle.running.specs.Sets.{past}
use mathlib.Core.Path.{◌∙◌}
use native.Mathlib.Omega.{arith}
use Rattle.running.proofs.sets.read_initial.Goals as goal

pub overflow_add-at : goal.overflow_add-at
unfolding past
overflow_add-at c =
    omega (arith, initial_inside c.args.fields.now c.args.at c.requires.0 c.requires.1)

pub put_members-requires : goal.put_members-requires
put_members-requires c =
    initial_inside c.args.fields.now c.args.at c.requires.0 c.requires.1

pub returns : goal.returns
unfolding word_count no_propositions
returns c =
    let a = c.args in
    λ s kept here. c.put_members.ensures.put ∙ initial_is a.fields.now a.at s here kept
