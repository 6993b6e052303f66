-- The byte at the cursor is a line feed or not. Assumes nothing.
use mathlib.Core.Path.{sym, ap}
use Rattle.text.specs.Cursor.{as_ending}
use Rattle.text.proofs.Places.{ending_in, ending_none}
use Rattle.text.proofs.Feeds.{feed_inside}
use Rattle.text.proofs.Cursor.line_end.Goals as goal

pub bounds-text-at : goal.bounds-text-at
bounds-text-at c = feed_inside c.args.text.now c.args.self.at c.requires

pub returns-then-text-at-eq10 : goal.returns-then-text-at-eq10
returns-then-text-at-eq10 c =
    let a = c.args in
    sym (ap as_ending (ending_in a.text.now a.self.at (feed_inside a.text.now a.self.at c.requires) c.if-text-at-eq10.true))

pub returns-else-text-at-eq10 : goal.returns-else-text-at-eq10
returns-else-text-at-eq10 c =
    let a = c.args in
    sym (ap as_ending (ending_none a.text.now a.self.at (feed_inside a.text.now a.self.at c.requires) c.if-text-at-eq10.false))
