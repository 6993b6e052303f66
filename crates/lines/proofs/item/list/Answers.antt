-- `list`: what was taken is the count, and the members follow; or it refuses the list. Assumes nothing.
use Prim.Native.Nat.{◌+◌}
use Rattle.lines.proofs.Items.{item_number, item_refused, room_here, room_next, counted_members, list_left}
use Rattle.std.proofs.lemmas.Result.{err_from_is_err_and}
use Rattle.lines.specs.Reading.{in_kind}
use Rattle.rules.specs.Table as T
use Rattle.rules.specs.Table.{read_list, read_members}
use Rattle.rules.specs.Text.{number_at}
use lib.Dec.{eqb, leb}
use lib.ListN.{set, length-set}
use mathlib.Core.Bool.{◌&&◌}
use mathlib.Core.Path.{sym, ◌∙◌}
use Rattle.lines.proofs.item.list.Goals as goal

pub bounds-fields-from : goal.bounds-fields-from
bounds-fields-from c =
    room_here c.args.text.now c.args.fields.now c.args.from c.args.c.at
    (λ w. leb 0 w && in_kind c.args.x.now.numbers c.args.before.now c.args.counts w) c.args.field c.in_ok-count.count c.requires.room
    (sym c.in_ok-count.was ∙ c.take_number.ensures)

pub members-requires-clause-room : goal.members-requires-clause-room
members-requires-clause-room c =
    room_next c.args.text.now c.args.fields.now c.args.from c.args.c.at
    (λ w. leb 0 w && in_kind c.args.x.now.numbers c.args.before.now c.args.counts w) c.args.field c.in_ok-count.count c.requires.room
    (sym c.in_ok-count.was ∙ c.take_number.ensures)
    (set c.args.fields.now c.args.from c.in_ok-count.count.value) (length-set c.args.fields.now c.args.from c.in_ok-count.count.value)

pub returns : goal.returns
unfolding read_list
returns c =
    let a = c.args in
    let ok = in_kind a.x.now.numbers a.before.now a.kind in
    item_number T.set a.from a.fields.now a.field (λ n next. read_members a.text.now ok (eqb a.kind 11) n 0 (a.field + 1) next)
    (in_kind a.x.now.numbers a.before.now a.counts) (number_at a.text.now a.c.at) c.in_ok-count.count
    (sym c.in_ok-count.was ∙ c.take_number.ensures) _ _
    (list_left c.in_ok-count.count.value a.from (a.field + 1) a.fields.now (read_members a.text.now ok (eqb a.kind 11) c.in_ok-count.count.value 0 (a.field + 1) c.in_ok-count.count.next.at) _ _
    (counted_members a.text.now ok (eqb a.kind 11) c.in_ok-count.count.value 0 (a.field + 1) c.in_ok-count.count.next.at) c.members.ensures)

pub returns-in_err-count : goal.returns-in_err-count
unfolding read_list
returns-in_err-count c =
    let a = c.args in
    let p = err_from_is_err_and c.from_residual.result c.from_residual.ensures.1 in
    rw (p.1, p.2)
    (item_refused T.set a.from a.fields.now a.field
    (λ n next. read_members a.text.now (in_kind a.x.now.numbers a.before.now a.kind) (eqb a.kind 11) n 0 (a.field + 1) next)
    (in_kind a.x.now.numbers a.before.now a.counts) (number_at a.text.now a.c.at) _ (sym c.in_err-count.was ∙ c.take_number.ensures) a.fields.now)
