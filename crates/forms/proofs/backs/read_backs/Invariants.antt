-- `read_backs`: the lines so far, with those from here on, are all lines (BackTurns). Assumes nothing.
use Prim.Native.Nat.{◌-◌}
use Rattle.forms.specs.Held.{Modelled}
use Rattle.forms.proofs.BackTurns.{Backing}
use Rattle.forms.proofs.backs.read_backs.Given as goal

abbrev pub invariant-loop-next : goal.invariant-loop-next
invariant-loop-next l =
    Backing (λ k ns. Modelled k ns l.model) l.form l.cues l.from l.initial.ids l.initial.labels l.ids l.labels l.places l.at l.e

abbrev pub decreases-loop-next : goal.decreases-loop-next
decreases-loop-next l =
    3000 - l.e
