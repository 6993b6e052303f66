-- The invariant: the least unmarked position from the start is that from here. Assumes nothing.
use Prim.Native.Nat.{◌+◌, ◌-◌, ◌≤◌}
use Rattle.tree.specs.Layout.{marks_from, marks_in}
use Rattle.tree.specs.Marks.{least_unmarked}
use lib.Seq.{slice}
use mathlib.Core.Path.{◌≡◌}
use Rattle.tree.proofs.marks.least_unclaimed.Given as goal

abbrev pub invariant-loop-i : goal.invariant-loop-i
invariant-loop-i l = (l.i ≤ l.cues) × (least_unmarked 1 (marks_in l.cues l.work) ≡ least_unmarked (l.i + 1) (slice (marks_from + l.i) (marks_from + l.cues) l.work))

abbrev pub decreases-loop-i : goal.decreases-loop-i
decreases-loop-i l = l.cues - l.i
