-- `test`: the positions that are named are those of the broken entry. Assumes nothing.
use Rattle.blames.specs.Entries.{positions_of}
use mathlib.Core.Path.{refl}
use Rattle.blames.proofs.pool.test.Goals as goal

pub returns-in-Some-clause-says : goal.returns-in-Some-clause-says
unfolding positions_of
returns-in-Some-clause-says c =
    let t = c.in-Some.ensures.broken in
    record {
      slot = c.in-Some.hit.slot;
      inside = t.0;
      broken = t.2;
      positions = refl;
    }
