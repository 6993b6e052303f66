-- `run_cues`: the run from the start is the run from here (Reached), of every case whose fields these are; a cue is stepped in the first words of
-- the state, which are lent (Front). Assumes nothing.
use Rattle.index.specs.Spans.{state_of}
use Rattle.running.proofs.Reached.{Reached}
use Rattle.running.specs.Running.{Left}
use Rattle.rules.specs.Case.{Case}
use Rattle.rules.specs.State.{word_count}
use lib.ListN.{length}
use mathlib.Core.Path.{◌≡◌}
use Rattle.running.proofs.run_cues.Given as goal

abbrev pub invariant-loop-action : goal.invariant-loop-action
invariant-loop-action l =
    (state_of l.l ≡ l.action-index) × (length l.states ≡ length l.initial.states) × (length l.words ≡ word_count)
    × ((k : Case) → Left k l.fields l.directory l.fn.header l.fn.initial l.plan → Reached k l.initial.states l.words l.states (state_of l.l))
