-- `wrongs::wrong_line` meets its contract: of the first line that fails the test, and the root line. Assumes nothing.
use Rattle.wrongs.proofs.Lines.{answers_front, answers_root, answers_back, answers_none}
use Rattle.wrongs.proofs.wrong_line.Goals as goal

pub returns-then-w-cues : goal.returns-then-w-cues
returns-then-w-cues c = answers_front c.first_wrong-w.ensures c.if-w-cues.true

pub returns-then-root-eq0 : goal.returns-then-root-eq0
returns-then-root-eq0 c = answers_root c.first_wrong-w.ensures c.if-w-cues.false c.if-root-eq0.true

pub returns-then-w-count : goal.returns-then-w-count
returns-then-w-count c =
    answers_back c.first_wrong-w.ensures c.if-w-cues.false c.if-root-eq0.false c.if-w-count.true

pub returns : goal.returns
returns c =
    answers_none c.first_wrong-w.ensures c.if-w-cues.false c.if-root-eq0.false c.if-w-count.false
