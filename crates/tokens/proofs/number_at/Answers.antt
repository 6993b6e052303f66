-- By the first byte: none, a zero, which is the whole number, or any other. Assumes nothing.
use mathlib.Core.Path.{sym, ap, ◌∙◌}
use native.Mathlib.Omega.{arith}
use Rattle.text.proofs.Feeds.{feed_inside}
use Rattle.tokens.specs.Pieces.{as_plain}
use Rattle.tokens.proofs.Pieces.{inner_feeds, number_empty, number_zero, number_more}
use Rattle.tokens.proofs.number_at.Goals as goal

pub bounds-text-from : goal.bounds-text-from
bounds-text-from c = feed_inside c.args.text.now c.args.from c.requires.1

pub returns-then-ends_piece : goal.returns-then-ends_piece
returns-then-ends_piece c =
    let e = sym c.ends_piece.ensures ∙ c.if-ends_piece.true in
    sym (ap as_plain (number_empty c.args.separator c.args.text.now c.args.from c.requires.1 e))

pub close-requires : goal.close-requires
close-requires c =
    let e = sym c.ends_piece.ensures ∙ c.if-ends_piece.false in
    (omega arith, inner_feeds c.args.separator c.args.text.now c.args.from c.requires.1 e)

pub returns-then-b-eq48 : goal.returns-then-b-eq48
returns-then-b-eq48 c =
    c.close.ensures
    ∙ sym (ap as_plain (number_zero c.args.separator c.args.text.now c.args.from c.requires.1 c.requires.0 c.if-b-eq48.true))

pub returns : goal.returns
returns c =
    let e = sym c.ends_piece.ensures ∙ c.if-ends_piece.false in
    c.digits.ensures
    ∙ sym (ap as_plain (number_more c.args.separator c.args.text.now c.args.from c.requires.1 e c.if-b-eq48.false))
