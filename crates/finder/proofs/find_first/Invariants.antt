-- `find_first`: the choices ahead of the one where a turn stands were passed over, and the text was opened again; a turn ends the search with a choice
-- that is accepted, or with none left. Fewer choices are left with each turn. Assumes nothing.
use mathlib.Core.Path.{◌≡◌}
use lib.ListN.{length, replicate}
use Rattle.rules.specs.Case.{Case}
use Rattle.rules.specs.Gaps.{ChoiceOf}
use Rattle.choices.specs.Searching.{on_from}
use Rattle.finder.proofs.Turns.{Going}
use Rattle.finder.specs.Finding.{BaseOf}
use Rattle.judge.specs.Phases.{Passes}
use Rattle.finder.proofs.find_first.Given as goal

abbrev pub invariant-loop-answer : goal.invariant-loop-answer
invariant-loop-answer l =
    (length l.fields ≡ length l.initial.fields)
    × (length l.choice ≡ length l.initial.choice)
    × (length l.why ≡ length l.initial.why)
    × (length l.states ≡ length l.initial.states)
    × (length l.work ≡ length l.initial.work)
    × ((k : Case) → Passes l.text l.initial.fields l.initial.at l.initial.states l.initial.work k → BaseOf k l.base
    → l.initial.choice ≡ replicate (length l.initial.choice) 0 → ChoiceOf k l.initial.choice
    → Going k l.initial.choice l.text l.fields l.at l.states l.work l.choice l.why)

abbrev pub decreases-loop-answer : goal.decreases-loop-answer
decreases-loop-answer l = length (on_from l.initial.at.header.cues l.choice)
