-- The records stand in front, and `clear_from` makes the rest (Written).
use Rattle.std.proofs.Common.{◌≡◌, List, length, take, arith, ap, ◌∙◌}
use Rattle.rules.specs.declared.Node.{Node}
use Rattle.rules.specs.Verdict.{no_node, filled}
use Rattle.records.specs.Records.{record_at}
use Rattle.verdict.proofs.Written.{written, gathered}
use Rattle.verdict.proofs.fill.Goals as goal

pub returns : goal.returns
returns c =
    let l = c.loop-i in
    let xs = c.args.nodes.now in
    let f = record_at c.args.work.now in
    let all : l.i ≡ c.args.count = omega arith in
    let is : l.nodes ≡ written f xs 0 c.args.count = l.invariant ∙ ap (written f xs 0) all in
    c.clear_from.ensures
    ∙ (ap (λ (ys : List Node). filled (length ys) no_node (take c.args.count ys)) is
    ∙ gathered no_node f xs c.args.count c.requires.0)
