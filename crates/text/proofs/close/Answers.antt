-- The byte here, if it ends the field, decides between the two answers. Assumes nothing.
use mathlib.Core.Path.{sym, ap, ◌∙◌}
use lib.ListN.{drop}
use Rattle.rules.specs.Text.{field_of}
use Rattle.text.specs.Cursor.{as_field}
use Rattle.text.proofs.Scan.{closed_on}
use Rattle.text.proofs.Places.{over_in}
use Rattle.text.proofs.Feeds.{feed_inside}
use Rattle.text.proofs.close.Goals as goal

pub bounds-text-at : goal.bounds-text-at
bounds-text-at c = feed_inside c.args.text.now c.args.at c.requires.1

pub returns-then-not-ends_field : goal.returns-then-not-ends_field
returns-then-not-ends_field c =
    let a = c.args in
    let e = over_in a.text.now a.at (feed_inside a.text.now a.at c.requires.1) ∙ sym c.ends_field.ensures ∙ c.if-not-ends_field.true in
    sym (ap as_field (closed_on a.value a.at (field_of (drop a.at a.text.now)) e))
