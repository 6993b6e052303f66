-- `read_fronts`: the lines so far, with those from here on, are all lines (FrontTurns). Assumes nothing.
use Prim.Native.Nat.{◌-◌}
use Rattle.forms.specs.Held.{Modelled}
use Rattle.forms.proofs.FrontTurns.{Fronting}
use Rattle.forms.proofs.fronts.read_fronts.Given as goal

abbrev pub invariant-loop-next : goal.invariant-loop-next
invariant-loop-next l =
    Fronting (λ k ns. Modelled k ns l.model) l.form l.from l.ids l.labels l.at l.e

abbrev pub decreases-loop-next : goal.decreases-loop-next
decreases-loop-next l = 3000 - l.e
