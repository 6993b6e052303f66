-- `linking::tie` meets its contract: the twins, the links, the root's, what is reached from it, and then the first wrong line. Assumes nothing.
use native.Mathlib.Omega.{arith}
use Rattle.links.proofs.Written.{lines_defined}
use Rattle.linking.proofs.Joining.{graph, joined}
use Rattle.linking.proofs.tie.Goals as goal

-- The twins and the links make a graph of the lines.
pub mark_from-requires-clause-graph : goal.mark_from-requires-clause-graph
mark_from-requires-clause-graph c =
    let p = c.pair.ensures.low in
    let k = c.resolve-lost.ensures in
    let (es, labels, lines, spelled, size) = c.requires.by_index in
    graph size (k.resolved es labels lines spelled size) (omega (arith, k.lengths.0, c.requires.count_in_bounds.3))
    (omega (arith, p.1, c.requires.count_in_bounds_2.0)) p.0

pub returns-clause-joined : goal.returns-clause-joined
returns-clause-joined c =
    λ es labels lines spelled size.
    joined size (c.resolve-lost.ensures.resolved es labels lines spelled size) lines (c.pair.ensures.twins es size (lines_defined lines))
    c.link_of-link.ensures c.mark_from.ensures c.wrong_line.result c.wrong_line.ensures
