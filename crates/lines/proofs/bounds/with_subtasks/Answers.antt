-- `with_subtasks`: the list differs from what was known in the count and the three ranges that it sets. Assumes nothing.
use Rattle.rules.specs.Case.{header_in}
use Rattle.lines.specs.Ranges.{bounds_of, known_of}
use Rattle.lines.proofs.Ranges.{made_known}
use lib.ListN.{set}
use Rattle.lines.proofs.bounds.with_subtasks.Goals as goal

pub invariant_of-own : goal.invariant_of-own
unfolding bounds_of known_of
invariant_of-own c =
    let b = c.below-subtask.ensures in
    let x = c.args.x.now.known in
    record {
      known = made_known (header_in c.args.x.now.numbers) c.args.n
          (λ j. set (set (set (set (set (set (x j) 7 c.args.n) 12 (b j).0) 13 (b j).1) 28 (b j).0) 29 (b j).1) 33 (c.all.ensures j));
    }

pub returns : goal.returns
unfolding bounds_of known_of
returns c =
    let b = c.below-subtask.ensures in
    let x = c.args.x.now.known in
    λ j. set (set (set (set (set (set (x j) 7 c.args.n) 12 (b j).0) 13 (b j).1) 28 (b j).0) 29 (b j).1) 33 (c.all.ensures j)
