-- `replay_case`: all cues apply and the states are written; or one does not, and the list is cleared. Assumes nothing.
use Prim.Native.Nat.{ℕ}
use Rattle.replay.proofs.Calls.{refuses, run_passes, run_stops}
use Rattle.replay.specs.Running.{replay_run}
use Rattle.running.proofs.Reached.{few_cues}
use Rattle.running.proofs.Outcome.{left_worded}
use Rattle.rules.specs.Result.{refused}
use Rattle.rules.specs.State.{word_count}
use Rattle.rules.specs.Verdict.{state_need}
use Rattle.rules.specs.declared.Answer.TheVariants.{Inapplicable}
use lib.ListN.{length, replicate}
use mathlib.Core.Path.{◌≡◌, sym, ap, ◌∙◌}
use native.Mathlib.Omega.{arith}
use Rattle.replay.proofs.call.replay_case.Goals as goal

pub run-requires-clause-room : goal.run-requires-clause-room
unfolding word_count state_need
run-requires-clause-room c =
    let a = c.args in
    let p = c.requires.left in
    let few = few_cues p.0 a.fields.now a.directory.now a.case.header a.case.initial a.case.plan p.1 in
    let room = c.requires.room in
    omega arith

pub returns-in-Ok : goal.returns-in-Ok
returns-in-Ok c =
    let a = c.args in
    let r = c.run in
    λ k left line.
    run_passes k r.result a.states.now _ (r.ensures k left) a.case.header (length a.states.now) c.in-Ok.is left.head c.requires.zero
    (left_worded k a.fields.now a.directory.now a.case.header a.case.initial a.case.plan left)

pub returns-in-Err : goal.returns-in-Err
returns-in-Err c =
    let a = c.args in
    let r = c.run in
    let x = c.in-Err in
    let kept : length r.new.states ≡ length a.states.now = r.auto.states in
    λ k left line.
    refuses (length a.states.now) (replay_run k) _ _
    (run_stops k r.result a.states.now _ (r.ensures k left) x.field-0 x.is ∙ ap (λ (n : ℕ). refused (Inapplicable n x.field-0.cue)) (sym line))
    (c.clear.ensures ∙ ap (λ (n : ℕ). replicate n 0) kept)
