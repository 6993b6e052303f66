-- The number from the start is the number from here, with the digits passed in `value`; a byte that is no digit closes it, and one comes
-- before the text is over. Assumes nothing.
use mathlib.Core.Path.{sym, ap, ◌∙◌}
use Prim.Native.Nat.{ℕ, ◌+◌, ◌-◌, ◌*◌, ◌<◌}
use native.Mathlib.Omega.{arith}
use lib.ListN.{get_or}
use Rattle.text.specs.Scan.{continued}
use Rattle.text.proofs.Scan.{continued_large}
use Rattle.text.proofs.Feeds.{feed_inside, feed_digit}
use Rattle.tokens.specs.Pieces.{piece_from, as_plain}
use Rattle.tokens.proofs.Pieces.{digits_on, digits_stop}
use Rattle.tokens.proofs.digits.Goals as goal

pub bounds-text-at : goal.bounds-text-at
bounds-text-at c =
    let l = c.loop-value in feed_inside c.args.text.now l.at l.invariant.1

pub bounds-text-at-in-loop-value : goal.bounds-text-at-in-loop-value
bounds-text-at-in-loop-value c =
    feed_inside c.args.text.now c.loop-value.at c.loop-value.invariant.1

pub returns-then-value-gt4294967295 : goal.returns-then-value-gt4294967295
returns-then-value-gt4294967295 c =
    let l = c.loop-value in
    let a = c.args in
    let on = digits_on a.separator a.text.now l.at l.invariant.1 l.value c.requires.0 (sym c.is_digit.ensures ∙ c.loop-value-test.true) in
    let w = l.value * 10 + (get_or a.text.now l.at 0 - 48) in
    let large : 4294967295 < w = omega (arith, c.digit_value.ensures) in
    sym (ap as_plain (l.invariant.2 ∙ (on ∙ continued_large w (l.at + 1) (piece_from a.separator a.text.now (l.at + 1)) large)))

pub overflow_add-at : goal.overflow_add-at
overflow_add-at c =
    let l = c.loop-value in
    let inside = feed_inside c.args.text.now l.at l.invariant.1 in
    omega arith

pub loop-value-smaller : goal.loop-value-smaller
loop-value-smaller c =
    let l = c.loop-value in
    let inside = feed_inside c.args.text.now l.at l.invariant.1 in
    omega arith

pub loop-value-preserved : goal.loop-value-preserved
loop-value-preserved c =
    let l = c.loop-value in
    let a = c.args in
    let digit = sym c.is_digit.ensures ∙ c.loop-value-test.true in
    let on = digits_on a.separator a.text.now l.at l.invariant.1 l.value c.requires.0 digit in (
      omega arith,
      feed_digit a.text.now l.at l.invariant.1 digit,
      l.invariant.2 ∙ (on ∙ ap (λ (x : ℕ). continued (l.value * 10 + x) (l.at + 1) (piece_from a.separator a.text.now (l.at + 1))) (sym c.digit_value.ensures)),
    )

pub returns : goal.returns
returns c =
    let l = c.loop-value in
    let a = c.args in
    let q = sym c.is_digit.ensures ∙ c.loop-value-test.false in
    c.close.ensures ∙ sym (ap as_plain (l.invariant.2 ∙ digits_stop a.separator a.text.now l.at l.invariant.1 l.value q l.invariant.0))
