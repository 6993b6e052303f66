-- `reaching::mark` meets its contract. Assumes nothing.
use Prim.Native.Nat.{◌-◌, ◌<◌}
use native.Mathlib.Omega.{arith}
use borrow.Author.Rules.{rules}
use lib.ListN.{length}
use Rattle.reaching.proofs.Queues.{room_left, adds_one}
use Rattle.reaching.proofs.mark.Goals.{Else-marks-d-ne0}
use Rattle.reaching.proofs.mark.Goals as goal

-- The queue has room.
room : (c : Else-marks-d-ne0) → c.args.tail < length c.args.queue.now
room c =
    room_left c.args.marks.now c.args.queue.now c.args.tail (c.args.target - 1) c.requires.0 c.if-marks-d-ne0.false (omega arith)

pub offset_bounds-queue-tail : goal.offset_bounds-queue-tail
offset_bounds-queue-tail c = let h = room c in search rules

pub bounds-queue-tail : goal.bounds-queue-tail
bounds-queue-tail c = room c

pub overflow_add-result : goal.overflow_add-result
overflow_add-result c = omega (arith, room c)

pub returns : goal.returns
returns c =
    adds_one c.args.marks.now c.args.queue.now c.args.tail (c.args.target - 1) c.requires.0 c.if-marks-d-ne0.false (omega arith) (omega arith)
    c.args.target (omega arith)
