-- `single`: what was taken is the item, or refuses it. Assumes nothing.
use Prim.Native.Nat.{◌+◌}
use Rattle.lines.proofs.Items.{item_number, item_refused, room_here}
use Rattle.std.proofs.lemmas.Result.{err_from_is_err_and}
use Rattle.lines.specs.Reading.{in_kind}
use Rattle.lines.specs.Shapes.{kind_of}
use Rattle.rules.specs.Table.{one, scalar, item, read_item}
use Rattle.rules.specs.Text.{number_at}
use lib.Dec.{leb}
use mathlib.Core.Bool.{◌&&◌}
use mathlib.Core.Path.{refl, sym, ◌∙◌}
use Rattle.lines.proofs.item.single.Goals as goal

pub bounds-fields-from : goal.bounds-fields-from
bounds-fields-from c =
    room_here c.args.text.now c.args.fields.now c.args.from c.args.c.at
    (λ w. leb 0 w && in_kind c.args.x.now.numbers c.args.before.now c.args.kind w) c.args.field c.in_ok-number.number c.requires.room
    (sym c.in_ok-number.was ∙ c.take_number.ensures)

pub returns : goal.returns
unfolding read_item
returns c =
    let a = c.args in
    item_number (one (kind_of a.kind)) a.from a.fields.now a.field (λ n next. item (scalar n) (a.field + 1) next)
    (in_kind a.x.now.numbers a.before.now a.kind) (number_at a.text.now a.c.at) c.in_ok-number.number
    (sym c.in_ok-number.was ∙ c.take_number.ensures) _ _ (refl, refl)

pub returns-in_err-number : goal.returns-in_err-number
unfolding read_item
returns-in_err-number c =
    let a = c.args in
    let p = err_from_is_err_and c.from_residual.result c.from_residual.ensures.1 in
    rw (p.1, p.2)
    (item_refused (one (kind_of a.kind)) a.from a.fields.now a.field (λ n next. item (scalar n) (a.field + 1) next)
    (in_kind a.x.now.numbers a.before.now a.kind) (number_at a.text.now a.c.at) _ (sym c.in_err-number.was ∙ c.take_number.ensures) a.fields.now)
