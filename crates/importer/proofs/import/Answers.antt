-- Rows 1 and 2 settle the answer, or leave the rest of the rows. Assumes nothing.
use mathlib.Core.Path.{◌≡◌, sym, ap, subst, ◌∙◌}
use Prim.Native.Nat.{ℕ}
use native.Mathlib.Omega.{arith}
use lib.ListN.{length}
use Rattle.rules.specs.Result.{refused}
use Rattle.rules.specs.Verdict.{check_lists}
use Rattle.judge.specs.Phases.{rows_ahead}
use Rattle.finder.proofs.Rows.{all_long}
use Rattle.importer.specs.Importing.{made_text, from_made, LimitedTo, Imports}
use Rattle.importer.proofs.Rows.{short_text, all_passed, all_refused}
use Rattle.importer.proofs.import.Goals as goal

pub returns-in-Ok : goal.returns-in-Ok
returns-in-Ok c =
    let a = c.args in
    let cleared = c.clear in
    let kept : length cleared.new.list ≡ length a.states.now = cleared.auto.list in
    let p = c.in-Ok.ensures in
    let room = p.0 in
    let b = c.import_lent in
    let m = made_text (length a.output.now) a.text.now a.names.now a.form.now in
    let lists = check_lists (length a.states.now) a.node_room (length a.work.now) in
    let long = all_long (length a.states.now) a.node_room (length a.work.now) (omega arith) p.1 p.2 in
    all_passed lists (length a.output.now) a.text.now a.names.now a.form.now long (short_text a.text.now p.3)
    (subst
    (λ (n : ℕ).
    Imports (λ i. from_made i (check_lists n a.node_room (length a.work.now)) m) (LimitedTo (check_lists n a.node_room (length a.work.now)) m) n
    (length a.output.now) b.result b.new.states b.new.work b.new.output)
    kept b.ensures)

pub returns-in-Err : goal.returns-in-Err
returns-in-Err c =
    let a = c.args in
    let cleared = c.clear in
    let x = c.in-Err.answer in
    let e = c.in-Err.ensures in
    let rows : rows_ahead (length a.states.now) a.node_room (length a.work.now) a.text.now ≡ refused x =
    ap (λ (n : ℕ). rows_ahead n a.node_room (length a.work.now) a.text.now) (sym cleared.auto.list) ∙ e in
    let lists = check_lists (length a.states.now) a.node_room (length a.work.now) in
    let r = c.refuse.ensures in
    all_refused lists (length a.output.now) a.text.now a.names.now a.form.now x rows r.0 r.1 r.2 cleared.ensures r.3
