-- `put_node`: one arm for each letter. Assumes nothing.
use Rattle.making.proofs.Putting.{put_two, puts_cue, puts_empty, puts_whole}
use Rattle.making.proofs.put_node.Goals as goal

pub returns-then-d-cues : goal.returns-then-d-cues
returns-then-d-cues c =
    let a = c.args in
    puts_cue a.cues a.d a.label a.first a.past a.fields.now a.at _ c.if-d-cues.true c.put_three.ensures

pub returns-then-first-past : goal.returns-then-first-past
returns-then-first-past c =
    let a = c.args in
    puts_empty a.cues a.d a.label a.first a.past a.fields.now a.at _ c.if-d-cues.false
    c.if-first-past.true c.put_three-then-first-past.ensures

pub returns : goal.returns
returns c =
    let a = c.args in
    puts_whole a.cues a.d a.label a.first a.past a.fields.now a.at _ c.if-d-cues.false c.if-first-past.false
    (put_two a.fields.now a.at 68 a.label)
