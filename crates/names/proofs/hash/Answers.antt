-- `names::hash` meets its contract. Assumes nothing.
use Rattle.std.proofs.Common.{ℕ, ◌+◌, ◌*◌, ◌%◌, drop, arith, sym, ap, ◌∙◌}
use Rattle.names.specs.Names.{mix, hash_from, cut}
use Rattle.names.proofs.Keys.{cut_small}
use Rattle.names.proofs.Bytes.{hash_next, hash_over}
use Rattle.names.proofs.hash.Goals as goal

pub loop-b-preserved : goal.loop-b-preserved
unfolding mix
loop-b-preserved c =
    let a = c.args in
    let l = c.loop-b in (
      omega arith,
      l.invariant.1 ∙ hash_next a.name.now l.h l.b-index c.loop-b-test.true
          ∙ ap (λ (b : ℕ). hash_from ((l.h * 31 + b) % 4294967296) (drop (l.b-index + 1) a.name.now)) (sym c.from.ensures),
    )

pub returns : goal.returns
unfolding cut
returns c =
    let l = c.loop-b in
    (ap cut (sym (l.invariant.1 ∙ hash_over c.args.name.now l.h l.b-index c.loop-b-test.false)), cut_small l.h)
