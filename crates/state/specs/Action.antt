-- An action of the definitions, from four sets of the code. Assumes nothing.
use Rattle.rules.specs.State.{Action}
use Rattle.state.specs.declared.State.{State}

abbrev pub action_of : State → State → State → State → Action
action_of needed forbidden added deleted =
    record { needed = needed.words; forbidden = forbidden.words; added = added.words; deleted = deleted.words }
