-- Three stores, one after the other. Assumes nothing.
use Prim.Native.Nat.{ℕ, ◌+◌, ◌*◌}
use lib.Seq.{sets}
use mathlib.Core.List.{[], ◌∷◌}
use mathlib.Core.Path.{ap₂, ◌∙◌}
use Rattle.tree.specs.Layout.{rows_from}
use Rattle.tree.specs.Standing.{put_row}
use Rattle.tree.proofs.Stores.{three_stores}
use Rattle.tree.proofs.rows.put_row.Goals as goal

pub returns : goal.returns
unfolding put_row rows_from
returns c =
    let a = c.args in
    let i = 7168 + 3 * a.node in
    three_stores a.work.now i c.number.result c.number-2.result a.after
    ∙ ap₂ (λ (start end : ℕ). sets a.work.now i (start ∷ end ∷ a.after ∷ [])) c.number.ensures c.number-2.ensures
