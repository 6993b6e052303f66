-- `judge`: rows 1 and 2 settle the answer, or leave the rest of the rows. Assumes nothing.
use Prim.Native.Nat.{ℕ}
use Rattle.judge.proofs.Phases.{refused_all, answers_as}
use Rattle.judge.proofs.Verdicts.{long_lists, admit_passes, admit_refuses}
use Rattle.rules.specs.Verdict.{check_lists, check}
use Rattle.rules.specs.Result.{refused}
use lib.ListN.{length}
use mathlib.Core.Path.{◌≡◌, refl, ap, sym, ◌∙◌}
use native.Mathlib.Omega.{arith}
use Rattle.judge.proofs.judge.Goals as goal

pub returns-in-Ok : goal.returns-in-Ok
returns-in-Ok c =
    let a = c.args in
    let kept : length c.clear.new.list ≡ length a.states.now = c.clear.auto.list in
    let p = admit_passes (length c.clear.new.list) a.node_room (length a.work.now) a.text.now c.admit.ensures c.in-Ok.is in
    let room = p.0 in
    let r = answers_as (sym (long_lists (length a.states.now) a.node_room (length a.work.now) a.text.now (omega arith) p.1 p.2)) kept
    c.judge_lent.ensures in
    record { value = r.answer; states_after = r.states_held; records_held = r.records_held }

pub returns-in-Err : goal.returns-in-Err
returns-in-Err c =
    let a = c.args in
    let cleared = c.clear in
    let x = c.in-Err in
    let e = admit_refuses (length cleared.new.list) a.node_room (length a.work.now) a.text.now c.admit.ensures x.answer x.is in
    let lists : check (check_lists (length a.states.now) a.node_room (length a.work.now)) a.text.now ≡ refused x.answer =
    ap (λ (n : ℕ). check (check_lists n a.node_room (length a.work.now)) a.text.now) (sym cleared.auto.list) ∙ e in
    let r = refused_all x.answer lists refl cleared.ensures in
    record { value = r.answer; states_after = r.states_held; records_held = r.records_held }
