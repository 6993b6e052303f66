-- `item_size`: by the byte of the item (Items). Assumes nothing.
use Rattle.sizes.proofs.Items.{one_size, list_size, cues_size}
use native.Mathlib.Omega.{arith}
use Rattle.sizes.proofs.item_size.Goals as goal

pub returns-then-item-lt20 : goal.returns-then-item-lt20
returns-then-item-lt20 c = λ v is here. one_size c.args.item v c.if-item-lt20.true

pub offset_bounds-fields-at : goal.offset_bounds-fields-at
offset_bounds-fields-at c =
    let a = c.args in
    let d = (list_size a.cues a.item c.requires.0 a.fields.now a.at c.if-item-lt20.false c.if-item-lt22.true c.requires.1 c.requires.2).0 in
    omega arith

pub bounds-fields-at : goal.bounds-fields-at
bounds-fields-at c =
    let a = c.args in
    (list_size a.cues a.item c.requires.0 a.fields.now a.at c.if-item-lt20.false c.if-item-lt22.true c.requires.1 c.requires.2).0

pub returns-then-item-lt22 : goal.returns-then-item-lt22
returns-then-item-lt22 c =
    let a = c.args in
    λ v is here. (list_size a.cues a.item v a.fields.now a.at c.if-item-lt20.false c.if-item-lt22.true is here).1

pub returns : goal.returns
returns c = let a = c.args in λ v is here. cues_size a.cues a.item v c.if-item-lt22.false is
