-- `read_item`: below 20 a number of a kind, and each arm of the match the item that its byte stands for. Assumes nothing.
use Rattle.rules.specs.Case.{header_in}
use Rattle.lines.proofs.Items.{subtasks_left, cues_left}
use Rattle.lines.proofs.Shapes.{item_one, item_cues}
use Rattle.lines.specs.Reading.{in_kind}
use Rattle.lines.specs.Shapes.{kind_of, item_of}
use Rattle.rules.specs.Table.{read_item, read_list, read_members}
use mathlib.Core.Bool.{false}
use native.Mathlib.Omega.{arith}
use Rattle.lines.proofs.item.read_item.Goals as goal

pub returns-then-item-lt-KINDS : goal.returns-then-item-lt-KINDS
returns-then-item-lt-KINDS c =
    rw (item_one c.args.item c.if-item-lt-KINDS.true) c.single.ensures

pub returns-in-20 : goal.returns-in-20
unfolding item_of kind_of read_item
returns-in-20 c = rw c.in-20.is c.list.ensures

pub returns-in-21 : goal.returns-in-21
unfolding item_of kind_of read_item
returns-in-21 c =
    let a = c.args in
    rw c.in-21.is
    (subtasks_left a.from a.fields.now (read_list a.text.now (in_kind a.x.now.numbers a.before.now 17) (in_kind a.x.now.numbers a.before.now 19) false a.field a.c.at) _ _
    c.list-in-21.ensures)

pub returns-in_default : goal.returns-in_default
unfolding kind_of read_item
returns-in_default c =
    let a = c.args in
    rw (item_cues a.item c.if-item-lt-KINDS.false (λ e. omega (arith, e)) (λ e. omega (arith, e)))
    (cues_left a.from a.fields.now (read_members a.text.now (in_kind a.x.now.numbers a.before.now 15) false (header_in a.x.now.numbers).cues 0 a.field a.c.at) _ _ c.members.ensures)
