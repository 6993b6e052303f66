-- The lesser start, the greater end, and the positions of both. Assumes nothing.
use Rattle.entering.specs.Parts.{joined}
use lib.Bits.{bit_or}
use Rattle.entering.proofs.sums.join.Goals as goal

pub returns : goal.returns
unfolding joined
returns c =
    let a = c.args.a in
    let b = c.args.b in
    λ j. record { low = c.min.ensures j; high = c.max.ensures j; set = bit_or a.set b.set }
