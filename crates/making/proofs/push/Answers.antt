-- `push`: a frame with the links, or none if there are none. Assumes nothing.
use Rattle.making.proofs.Frames.{push_some}
use Rattle.making.proofs.push.Goals as goal

pub returns : goal.returns
returns c =
    let a = c.args in
    push_some a.first a.past a.next.now a.last.now a.depth c.requires.0 c.if-first-past.false c.requires.1 c.requires.2
