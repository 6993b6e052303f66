-- `next_name`: the line as it was told, and the table's answer, as the definition reads them (Entries). Assumes nothing.
use Rattle.naming.proofs.Entries.{other_left, insert_ready, again_left, name_left}
use Rattle.naming.proofs.next_name.Goals as goal

pub returns-in_default : goal.returns-in_default
returns-in_default c =
    let a = c.args in
    other_left a.text.now a.starts.now a.ends.now a.slots.now a.number a.at.line a.at.at c.in_default.ensures _ _ _

pub insert-requires : goal.insert-requires
insert-requires c =
    let a = c.args in
    insert_ready a.text.now a.starts.now a.ends.now a.slots.now a.number a.at.line a.at.at _ _ c.requires.entered c.requires.line_bound.1 c.in-Some.ensures

pub returns-in-Some-insert : goal.returns-in-Some-insert
returns-in-Some-insert c =
    let a = c.args in
    again_left a.text.now a.starts.now a.ends.now a.slots.now a.number a.at.line a.at.at _ _ c.requires.entered c.requires.line_bound.1 c.in-Some.ensures
    c.in-Some-insert.field-0 c.in-Some-insert.ensures.0 _ _ _

pub returns-in-None : goal.returns-in-None
returns-in-None c =
    let a = c.args in
    name_left a.text.now a.starts.now a.ends.now a.slots.now a.number a.at.line a.at.at _ _ c.requires.entered c.requires.line_bound.1 c.in-Some.ensures
    c.in-None.ensures.0 _ c.insert.auto.slots c.in-None.ensures.1
