-- `known`: each pair of numbers is the range of the kind at its place. Assumes nothing.
use Rattle.rules.specs.State.{proposition_most}
use Rattle.lines.specs.Ranges.{bounds_of, known_of}
use Rattle.lines.proofs.Ranges.{made_known}
use Rattle.lines.proofs.bounds.known.Goals as goal

pub invariant_of-result : goal.invariant_of-result
unfolding bounds_of known_of proposition_most
invariant_of-result c = record {
  known = made_known c.args.h 0
      (rw (c.below-action.ensures, c.below-method.ensures, c.below-proposition.ensures, c.below-compound.ensures, c.below-task.ensures));
}

pub returns : goal.returns
unfolding bounds_of known_of proposition_most
returns c =
    rw (c.below-action.ensures, c.below-method.ensures, c.below-proposition.ensures, c.below-compound.ensures, c.below-task.ensures)
