-- `probing::walk_to` meets its contract. Assumes nothing.
use Rattle.std.proofs.Common.{sym}
use Rattle.probing.specs.declared.Look.TheVariants.{Empty, Same}
use Rattle.probing.proofs.Walks.{walk_step, walk_goes_on}
use Rattle.probing.proofs.walk_to.Goals as goal

pub returns-in-Empty : goal.returns-in-Empty
returns-in-Empty g c =
    let p = c.spot-p in
    λ same tells. sym (walk_step (c.loop-d.invariant same tells) Empty p.result p.ensures.0 (c.in-Empty.ensures same tells) c.loop-d-test.true)

pub returns-in-Same : goal.returns-in-Same
returns-in-Same g c =
    let p = c.spot-p in
    λ same tells. sym (walk_step (c.loop-d.invariant same tells) (Same c.in-Same.e) p.result p.ensures.0 (c.in-Same.ensures same tells) c.loop-d-test.true)

pub loop-d-preserved : goal.loop-d-preserved
loop-d-preserved g c =
    let p = c.spot-p in
    λ same tells. walk_goes_on (c.loop-d.invariant same tells) p.result p.ensures.0 (c.in-Other.ensures same tells) c.loop-d-test.true
