-- `read_line`: the line feed, the row of the first byte, its letter, then the items. Assumes nothing.
use Rattle.rules.specs.Case.{header_in}
use Rattle.rules.specs.Text.{letter_at}
use Rattle.text.proofs.Feeds.{feed_inside}
use Rattle.text.proofs.Laws.{letter_read, letter_next, letter_byte, letter_feeds}
use Rattle.lines.proofs.Rows.{role_inside, unended_left, unlettered_left, other_left, due_left}
use Rattle.lines.specs.Reading.{role_of}
use Rattle.lines.specs.Shapes.{row_shown}
use Rattle.rules.specs.Table.{row_of}
use Prim.Native.Nat.{ℕ}
use lib.ListN.{get_or, length-set}
use mathlib.Core.Path.{sym, ap, ◌∙◌}
use native.Mathlib.Omega.{arith}
use borrow.Author.Tests.{lt-ltb}
use Rattle.lines.proofs.line.read_line.Goals as goal

pub returns-then-past-at : goal.returns-then-past-at
returns-then-past-at c =
    let a = c.args in
    unended_left a.text.now (role_of a.due) (header_in a.x.now.numbers) (get_or a.x.now.numbers 7 0) a.past a.c.at c.requires.by_index a.from a.fields.now c.if-past-at.true _

pub bounds-text-at : goal.bounds-text-at
bounds-text-at c =
    let a = c.args in
    let f = c.requires.by_index a.c.at ∙ lt-ltb a.c.at a.past c.if-past-at.false in
    feed_inside a.text.now a.c.at f

pub letter-requires : goal.letter-requires
letter-requires c =
    let a = c.args in
    let f = c.requires.by_index a.c.at ∙ lt-ltb a.c.at a.past c.if-past-at.false in
    (f, role_inside (role_of a.due) c.shape-shape.result (get_or a.text.now a.c.at 0) c.shape-shape.ensures (c.if-shape-role_number.false ∙ c.role_number.ensures))

pub items-requires-clause-room : goal.items-requires-clause-room
items-requires-clause-room c =
    let a = c.args in
    let f = c.requires.by_index a.c.at ∙ lt-ltb a.c.at a.past c.if-past-at.false in
    let got = letter_read (letter_at a.text.now a.c.at) (sym c.in-Some.is ∙ c.letter.ensures) in
    let next = letter_next a.text.now a.c.at got in
    let low = c.requires.ready.ahead in
    let room = c.requires.ready in
    record {
      short = room.short;
      inside = next.1;
      long = let l = room.long in let e = length-set a.fields.now a.from c.from.result in omega arith;
      ahead = omega (arith, next.0);
      feeds = letter_feeds a.text.now a.c.at got f;
    }

pub returns : goal.returns
returns c =
    let a = c.args in
    let f = c.requires.by_index a.c.at ∙ lt-ltb a.c.at a.past c.if-past-at.false in
    let got = letter_read (letter_at a.text.now a.c.at) (sym c.in-Some.is ∙ c.letter.ensures) in
    let same = letter_byte a.text.now a.c.at got f in
    due_left a.text.now (role_of a.due) (header_in a.x.now.numbers) (get_or a.x.now.numbers 7 0) a.past a.c.at c.requires.by_index a.from a.fields.now
    c.in-Some.letter.byte c.in-Some.letter.next.at c.shape-shape.result c.if-past-at.false got
    (c.shape-shape.ensures ∙ ap (λ (k : ℕ). row_shown (row_of k)) (sym same)) (c.if-shape-role_number.false ∙ c.role_number.ensures) _ _ (rw c.from.ensures at c.items.ensures)

pub returns-in_default : goal.returns-in_default
returns-in_default c =
    let a = c.args in
    unlettered_left a.text.now (role_of a.due) (header_in a.x.now.numbers) (get_or a.x.now.numbers 7 0) a.past a.c.at c.requires.by_index a.from a.fields.now c.if-past-at.false
    (letter_read (letter_at a.text.now a.c.at) (sym c.in_default.is ∙ c.letter.ensures)) _

pub returns-then-shape-role_number : goal.returns-then-shape-role_number
returns-then-shape-role_number c =
    let a = c.args in
    other_left a.text.now (role_of a.due) (header_in a.x.now.numbers) (get_or a.x.now.numbers 7 0) a.past a.c.at c.requires.by_index a.from a.fields.now c.shape-shape.result c.if-past-at.false c.shape-shape.ensures (λ e. c.if-shape-role_number.true (e ∙ sym c.role_number.ensures)) _
