-- A leading zero refuses the number; else the loop goes on from the value of the first two digits. Assumes nothing.
use mathlib.Core.Path.{◌≡◌, sym, ap, ◌∙◌}
use Prim.Native.Nat.{◌+◌, ◌*◌}
use native.Mathlib.Omega.{arith}
use lib.ListN.{drop, get_or}
use Rattle.rules.specs.Text.{field_of}
use Rattle.text.specs.Scan.{continued}
use Rattle.text.specs.Cursor.{as_field}
use Rattle.text.proofs.Scan.{digit_range}
use Rattle.text.proofs.Places.{plain_led, plain_two}
use Rattle.text.proofs.Feeds.{feed_inside, feed_digit}
use Rattle.text.proofs.longer.Goals as goal

pub bounds-text-from : goal.bounds-text-from
bounds-text-from c = feed_inside c.args.text.now c.args.from c.requires.from_value_2

pub returns-then-b-eq48 : goal.returns-then-b-eq48
returns-then-b-eq48 c =
    let t = c.args.text.now in
    let i = c.args.from in
    let further = feed_inside t (i + 1) (feed_digit t i c.requires.from_value_2 c.requires.from_value.0) in
    sym (ap as_field (plain_led t i (feed_inside t i c.requires.from_value_2) further c.requires.from_value.0 c.if-b-eq48.true c.requires.from_value.1))

pub overflow_add-from : goal.overflow_add-from
overflow_add-from c =
    let inside = feed_inside c.args.text.now c.args.from c.requires.from_value_2 in
    omega arith

pub bounds-text-from-2 : goal.bounds-text-from-2
bounds-text-from-2 c =
    let t = c.args.text.now in
    feed_inside t (c.args.from + 1) (feed_digit t c.args.from c.requires.from_value_2 c.requires.from_value.0)

pub overflow_add-from-2 : goal.overflow_add-from-2
overflow_add-from-2 c =
    let t = c.args.text.now in
    let further = feed_inside t (c.args.from + 1) (feed_digit t c.args.from c.requires.from_value_2 c.requires.from_value.0) in
    omega arith

pub digits-requires : goal.digits-requires
digits-requires c =
    let t = c.args.text.now in
    let i = c.args.from in
    let r = digit_range (get_or t i 0) c.requires.from_value.0 in
    let q = digit_range (get_or t (i + 1) 0) c.requires.from_value.1 in
    let two : i + 1 + 1 ≡ i + 2 = omega arith in
    (omega (arith, c.digit_value-2.ensures, c.digit_value.ensures), rw two at (feed_digit t (i + 1) (feed_digit t i c.requires.from_value_2 c.requires.from_value.0) c.requires.from_value.1))

pub returns : goal.returns
returns c =
    let t = c.args.text.now in
    let i = c.args.from in
    let further = feed_inside t (i + 1) (feed_digit t i c.requires.from_value_2 c.requires.from_value.0) in
    let e1 = c.digit_value.ensures in
    let e2 = c.digit_value-2.ensures in
    c.digits.ensures
    ∙ ((λ j. as_field (continued (e1 j * 10 + e2 j) (i + 2) (field_of (drop (i + 2) t))))
    ∙ sym (ap as_field (plain_two t i (feed_inside t i c.requires.from_value_2) further c.requires.from_value.0 c.if-b-eq48.false c.requires.from_value.1)))
