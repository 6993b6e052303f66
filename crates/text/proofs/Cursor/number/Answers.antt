-- The byte at the cursor is a comma, after which the field starts, or not. Assumes nothing.
use mathlib.Core.Path.{sym, ap, ◌∙◌}
use Rattle.text.specs.Cursor.{as_field}
use Rattle.text.proofs.Places.{number_in_lem, number_none}
use Rattle.text.proofs.Feeds.{feed_inside, feed_comma}
use Rattle.text.proofs.Cursor.number.Goals as goal

pub bounds-text-at : goal.bounds-text-at
bounds-text-at c = feed_inside c.args.text.now c.args.self.at c.requires

pub plain-requires : goal.plain-requires
plain-requires c = feed_comma c.args.text.now c.args.self.at c.requires c.if-text-at-eq44.true

pub returns-then-text-at-eq44 : goal.returns-then-text-at-eq44
returns-then-text-at-eq44 c =
    let a = c.args in
    c.plain.ensures ∙ sym (ap as_field (number_in_lem a.text.now a.self.at (feed_inside a.text.now a.self.at c.requires) c.if-text-at-eq44.true))

pub returns-else-text-at-eq44 : goal.returns-else-text-at-eq44
returns-else-text-at-eq44 c =
    let a = c.args in
    sym (ap as_field (number_none a.text.now a.self.at (feed_inside a.text.now a.self.at c.requires) c.if-text-at-eq44.false))
