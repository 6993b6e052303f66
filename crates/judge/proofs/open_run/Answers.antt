-- `open_run`: every cue applies, and the tree follows; or one does not, and the state list is cleared. Assumes nothing.
use Prim.Native.Nat.{ℕ}
use Rattle.judge.proofs.Openings.{goes_ran}
use Rattle.judge.proofs.Phases.{open_left, open_few, run_stops, run_passes}
use Rattle.judge.proofs.Verdicts.{run_refused}
use Rattle.judge.specs.Phases.{from_claimed}
use Rattle.rules.specs.State.{word_count}
use Rattle.rules.specs.Verdict.{state_need}
use Rattle.rules.specs.Result.{refused}
use Rattle.rules.specs.declared.Answer.{Answer}
use Rattle.rules.specs.declared.Answer.TheVariants.{Inapplicable}
use lib.ListN.{replicate}
use mathlib.Core.Path.{sym, ap, ◌∙◌}
use native.Mathlib.Omega.{arith}
use Rattle.judge.proofs.open_run.Goals as goal

pub run-requires-clause-left : goal.run-requires-clause-left
run-requires-clause-left c = let (k, p) = c.requires in (k, open_left p.opens)

pub run-requires-clause-room : goal.run-requires-clause-room
unfolding word_count state_need
run-requires-clause-room c =
    let (k, p) = c.requires in
    let few = open_few p.opens in
    let room = p.state_room in
    omega arith

pub open_nodes-requires : goal.open_nodes-requires
open_nodes-requires c =
    let a = c.args in
    let (k, p) = c.requires in
    let b = c.run in
    (k, record { initial = a.initial; opens = p.opens; run = run_passes p.opens (b.ensures k (open_left p.opens)) c.in-Ok.is p.states_zero p.state_room b.auto.states })

pub returns-in-Ok : goal.returns-in-Ok
returns-in-Ok c =
    let a = c.args in
    let b = c.run in
    λ k p.
    let passes = run_passes p.opens (b.ensures k (open_left p.opens)) c.in-Ok.is p.states_zero p.state_room b.auto.states in
    goes_ran k _ _ _ c.open_nodes.result _ _ passes.runs b.auto.states
    (c.open_nodes.ensures k (record { initial = a.initial; opens = p.opens; run = passes }))

pub returns-in-Err : goal.returns-in-Err
returns-in-Err c =
    let x = c.in-Err in
    let z = c.refuse in
    λ k p.
    let stops = run_stops p.opens (c.run.ensures k (open_left p.opens)) x.field-0 x.is in
    let same = z.ensures.answer ∙ ap (λ (n : ℕ). Inapplicable n x.field-0.cue) p.opens.planned in (
      λ rest. run_refused (from_claimed rest) k x.field-0.cue stops ∙ ap (λ (a : Answer). refused a) (sym same),
      z.ensures.states ∙ ap (λ (n : ℕ). replicate n 0) c.run.auto.states,
    )
