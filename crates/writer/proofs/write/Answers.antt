-- `write`: rows 1 and 2 settle the answer, or leave the rest of the rows. Assumes nothing.
use Prim.Native.Nat.{ℕ}
use lib.ListN.{length}
use mathlib.Core.Path.{◌≡◌, refl, sym, ap, ◌∙◌}
use native.Mathlib.Omega.{arith}
use Rattle.rules.specs.Result.{refused}
use Rattle.rules.specs.Verdict.{check_lists, check}
use Rattle.judge.proofs.Phases.{refused_all}
use Rattle.judge.proofs.Verdicts.{long_lists, admit_passes, admit_refuses}
use Rattle.writer.proofs.Verdicts.{refused_writes, writes_as, write_is}
use Rattle.writer.proofs.write.Goals as goal

pub returns-in-Ok : goal.returns-in-Ok
returns-in-Ok c =
    let a = c.args in
    let cleared = c.clear in
    let kept : length cleared.new.list ≡ length a.states.now = cleared.auto.list in
    let p = admit_passes (length cleared.new.list) a.node_room (length a.work.now) a.text.now c.admit.ensures c.in-Ok.is in
    let room = p.0 in
    let long = long_lists (length a.states.now) a.node_room (length a.work.now) a.text.now (omega arith) p.1 p.2 in
    writes_as (write_is (length a.states.now) a.node_room (length a.work.now) (length a.output.now) a.text.now _ long) kept c.write_lent.ensures

pub returns-in-Err : goal.returns-in-Err
returns-in-Err c =
    let a = c.args in
    let cleared = c.clear in
    let x = c.in-Err in
    let r = c.refuse.ensures in
    let e = admit_refuses (length cleared.new.list) a.node_room (length a.work.now) a.text.now c.admit.ensures x.answer x.is in
    let lists : check (check_lists (length a.states.now) a.node_room (length a.work.now)) a.text.now ≡ refused x.answer =
    ap (λ (n : ℕ). check (check_lists n a.node_room (length a.work.now)) a.text.now) (sym cleared.auto.list) ∙ e in
    writes_as (write_is (length a.states.now) a.node_room (length a.work.now) (length a.output.now) a.text.now _ lists) refl
    (refused_writes (length a.output.now) (refused_all x.answer refl refl cleared.ensures) refl r.0 r.1 r.2)
