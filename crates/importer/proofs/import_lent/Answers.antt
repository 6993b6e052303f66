-- The text is made, and goes on to the find-the-gaps call; or nothing is made. Assumes nothing.
use mathlib.Core.Path.{◌≡◌, ap, ◌∙◌}
use Prim.Native.Nat.{ℕ}
use lib.ListN.{length, replicate}
use Rattle.rules.specs.Verdict.{check_lists}
use Rattle.importer.specs.Importing.{made_text}
use Rattle.importer.proofs.Rows.{made_refused, lent_refused}
use Rattle.importer.proofs.import_lent.Goals as goal

pub returns-in-Err : goal.returns-in-Err
returns-in-Err c =
    let b = c.make_lent in
    let a = c.args in
    let size = length a.output.now in
    let out = b.new.output in
    let kept : length out ≡ size = b.auto.output in
    let m = made_text size a.text.now a.names.now a.form.now in
    let x = c.in-Err.answer in
    let e = made_refused m size x out c.in-Err.ensures in
    let r = c.refuse.ensures in
    lent_refused (check_lists (length a.states.now) a.node_room (length a.work.now)) m x e r.0 r.1 r.2 c.requires.states_zero
    (r.3 ∙ ap (λ (n : ℕ). replicate n 0) kept)
