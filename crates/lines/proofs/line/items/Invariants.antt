-- `items`: what the items from here on leave, after those read so far, is what the line leaves (Progress). Assumes nothing.
use Prim.Native.Nat.{◌-◌}
use Rattle.lines.proofs.Progress.{Progress}
use Rattle.lines.proofs.line.items.Given as goal

abbrev pub invariant-loop-rest : goal.invariant-loop-rest
invariant-loop-rest l =
    Progress l.text l.x.numbers l.letter l.shape l.from l.initial.at l.initial.fields l.at l.values l.field l.rest l.i l.fields

abbrev pub decreases-loop-rest : goal.decreases-loop-rest
decreases-loop-rest l =
    7 - l.i
