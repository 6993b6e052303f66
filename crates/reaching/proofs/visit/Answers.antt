-- `reaching::visit` meets its contract: the lines before the head of the queue were taken (Walked). Assumes nothing.
use Prim.Native.Nat.{◌<◌}
use native.Mathlib.Omega.{arith}
use borrow.Author.Rules.{rules}
use lib.ListN.{length}
use Rattle.reaching.proofs.Queues.{queued_none, tail_most}
use Rattle.reaching.proofs.Walks.{visited_low, walk_starts, taken_visited, walk_on, walk_ends}
use Rattle.reaching.proofs.visit.Goals as goal

pub mark-tail-requires : goal.mark-tail-requires
mark-tail-requires c = (queued_none c.args.marks.now c.args.queue.now c.requires.clear, (omega arith, omega arith))

pub loop-head-init : goal.loop-head-init
loop-head-init c = walk_starts c.args.starts.now c.args.links.now c.args.twin.now c.args.root c.requires.clear c.mark-tail.ensures

-- The next line to take has its place in the queue.
pub offset_bounds-queue-head : goal.offset_bounds-queue-head
offset_bounds-queue-head c =
    let most = tail_most c.loop-head.invariant.queued in
    let h : c.loop-head.head < length c.args.queue.now = omega (arith, c.loop-head.auto.queue) in
    search rules

pub bounds-queue-head : goal.bounds-queue-head
bounds-queue-head c = omega (arith, tail_most c.loop-head.invariant.queued)

pub follow-tail-requires : goal.follow-tail-requires
follow-tail-requires c =
    let a = c.args in
    let l = c.loop-head in
    let taken = taken_visited a.starts.now a.links.now a.twin.now a.root l.invariant c.loop-head-test.true in (
      l.invariant.queued,
      record {
        count = a.count;
        graph = c.requires.graph;
        low = visited_low c.requires.graph c.requires.root.0 taken;
        room = (omega (arith, l.auto.marks, c.requires.room), omega (arith, l.auto.queue, c.requires.room));
      },
    )

pub loop-head-smaller : goal.loop-head-smaller
loop-head-smaller c =
    omega (arith, tail_most c.loop-head.invariant.queued, c.follow-tail.auto.queue, c.loop-head-test.true)

pub loop-head-preserved : goal.loop-head-preserved
loop-head-preserved c =
    let a = c.args in
    walk_on a.starts.now a.links.now a.twin.now a.root c.loop-head.invariant c.loop-head-test.true c.follow-tail.ensures

pub returns : goal.returns
returns c =
    let a = c.args in
    walk_ends a.starts.now a.links.now a.twin.now a.root c.loop-head.invariant c.loop-head-test.false
