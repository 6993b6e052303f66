-- `find`: rows 1 and 2 settle the answer, or leave the rest of the rows. Assumes nothing.
use mathlib.Core.Path.{◌≡◌, refl, sym, ap, ◌∙◌}
use Prim.Native.Nat.{ℕ}
use native.Mathlib.Omega.{arith}
use lib.ListN.{length}
use Rattle.rules.specs.Result.{refused}
use Rattle.rules.specs.Verdict.{check_lists}
use Rattle.finder.proofs.Counting.{limited_one}
use Rattle.finder.proofs.Rows.{all_long, finds_rows, finds_refused, limits_hold}
use Rattle.finder.proofs.Verdicts.{refused_finds, finds_as}
use Rattle.judge.proofs.Verdicts.{admit_passes, admit_rows}
use Rattle.judge.specs.Phases.{rows_ahead}
use Rattle.finder.proofs.find.Goals as goal

pub returns-in-Ok : goal.returns-in-Ok
returns-in-Ok c =
    let a = c.args in
    let kept : length c.clear.new.list ≡ length a.states.now = c.clear.auto.list in
    let p = admit_passes (length c.clear.new.list) a.node_room (length a.work.now) a.text.now c.admit.ensures c.in-Ok.is in
    let room = p.0 in
    let lists = check_lists (length a.states.now) a.node_room (length a.work.now) in
    let long = all_long (length a.states.now) a.node_room (length a.work.now) (omega arith) p.1 p.2 in
    finds_as (λ n. sym (finds_rows lists long n a.text.now)) (λ n w. limits_hold n lists a.text.now w) kept c.find_lent.ensures

pub returns-in-Err : goal.returns-in-Err
returns-in-Err c =
    let a = c.args in
    let x = c.in-Err.answer in
    let e = admit_rows (length c.clear.new.list) a.node_room (length a.work.now) a.text.now c.admit.ensures x c.in-Err.is in
    let rows : rows_ahead (length a.states.now) a.node_room (length a.work.now) a.text.now ≡ refused x =
    ap (λ (n : ℕ). rows_ahead n a.node_room (length a.work.now) a.text.now) (sym c.clear.auto.list) ∙ e in
    let lists = check_lists (length a.states.now) a.node_room (length a.work.now) in
    refused_finds 1 (limits_hold 1 lists a.text.now (limited_one a.text.now)) x (finds_refused 1 lists a.text.now x rows) refl refl c.clear.ensures
