-- The field has a first byte, and no second where it is over after that. Assumes nothing.
use mathlib.Core.Path.{sym, ap, ◌∙◌}
use Prim.Native.Nat.{◌+◌}
use native.Mathlib.Omega.{arith}
use Rattle.text.specs.Cursor.{as_letter}
use Rattle.text.proofs.Places.{over_in, letter_one, letter_more}
use Rattle.text.proofs.Feeds.{feed_inside, feed_inner}
use Rattle.text.proofs.Cursor.letter.Goals as goal

pub overflow_add-at : goal.overflow_add-at
overflow_add-at c = let inside = feed_inside c.args.text.now c.args.self.at c.requires.0 in omega arith

pub bounds-text-at : goal.bounds-text-at
bounds-text-at c =
    let a = c.args in
    feed_inside a.text.now (a.self.at + 1) (feed_inner a.text.now a.self.at c.requires.0 c.requires.1)

pub returns-then-ends_field : goal.returns-then-ends_field
returns-then-ends_field c =
    let a = c.args in
    let further = feed_inside a.text.now (a.self.at + 1) (feed_inner a.text.now a.self.at c.requires.0 c.requires.1) in
    let over = over_in a.text.now (a.self.at + 1) further ∙ sym c.ends_field.ensures ∙ c.if-ends_field.true in
    sym (ap as_letter (letter_one a.text.now a.self.at (feed_inside a.text.now a.self.at c.requires.0) c.requires.1 over))

pub returns-else-ends_field : goal.returns-else-ends_field
returns-else-ends_field c =
    let a = c.args in
    let further = feed_inside a.text.now (a.self.at + 1) (feed_inner a.text.now a.self.at c.requires.0 c.requires.1) in
    let over = over_in a.text.now (a.self.at + 1) further ∙ sym c.ends_field.ensures ∙ c.if-ends_field.false in
    sym (ap as_letter (letter_more a.text.now a.self.at (feed_inside a.text.now a.self.at c.requires.0) c.requires.1 over))
