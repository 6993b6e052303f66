-- By the first two bytes: no digit, one digit, which the field must end after, or two. Assumes nothing.
use mathlib.Core.Path.{sym, ap, ◌∙◌}
use Prim.Native.Nat.{ℕ, ◌+◌}
use native.Mathlib.Omega.{arith}
use lib.ListN.{drop, get_or}
use Rattle.rules.specs.Text.{field_of}
use Rattle.text.specs.Scan.{closed}
use Rattle.text.specs.Cursor.{as_field}
use Rattle.text.proofs.Scan.{digit_range}
use Rattle.text.proofs.Places.{plain_one, plain_other}
use Rattle.text.proofs.Feeds.{feed_inside, feed_digit}
use Rattle.text.proofs.plain.Goals as goal

pub bounds-text-from : goal.bounds-text-from
bounds-text-from c = feed_inside c.args.text.now c.args.from c.requires

pub overflow_add-from : goal.overflow_add-from
overflow_add-from c =
    let inside = feed_inside c.args.text.now c.args.from c.requires in omega arith

pub bounds-text-from-then-is_digit : goal.bounds-text-from-then-is_digit
bounds-text-from-then-is_digit c =
    let t = c.args.text.now in
    feed_inside t (c.args.from + 1) (feed_digit t c.args.from c.requires (sym c.is_digit.ensures ∙ c.if-is_digit.true))

pub close-requires : goal.close-requires
close-requires c =
    let t = c.args.text.now in
    let digit = sym c.is_digit.ensures ∙ c.if-is_digit.true in
    let r = digit_range (get_or t c.args.from 0) digit in
    (omega (arith, c.digit_value.ensures), feed_digit t c.args.from c.requires digit)

pub returns-else-is_digit-2 : goal.returns-else-is_digit-2
returns-else-is_digit-2 c =
    let t = c.args.text.now in
    let i = c.args.from in
    let digit = sym c.is_digit.ensures ∙ c.if-is_digit.true in
    let further = feed_inside t (i + 1) (feed_digit t i c.requires digit) in
    c.close.ensures
    ∙ (ap (λ (v : ℕ). as_field (closed v (i + 1) (field_of (drop (i + 1) t)))) c.digit_value.ensures
    ∙ sym (ap as_field (plain_one t i (feed_inside t i c.requires) further digit (sym c.is_digit-then-is_digit.ensures ∙ c.if-is_digit-2.false))))

pub returns-else-is_digit : goal.returns-else-is_digit
returns-else-is_digit c =
    let t = c.args.text.now in
    sym (ap as_field (plain_other t c.args.from (feed_inside t c.args.from c.requires) (sym c.is_digit.ensures ∙ c.if-is_digit.false)))
