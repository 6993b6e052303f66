-- By the place, and by the first word: an id, or not. Assumes nothing.
use mathlib.Core.Path.{refl, ◌∙◌}
use borrow.Author.Tests.{lt-ltb, le-ltb}
use Rattle.rules.specs.Text.{is_digit}
use Rattle.tokens.specs.Pieces.{piece_from}
use Rattle.tokens.proofs.Words.{number_told}
use Rattle.shapes.proofs.Words.{numbered}
use Rattle.shapes.proofs.Fronts.{front_out}
use Rattle.shapes.proofs.front_line.Goals as goal

pub returns-then-past-at : goal.returns-then-past-at
returns-then-past-at c =
    front_out c.args.text.now c.args.at (c.requires c.args.at ∙ le-ltb _ _ c.if-past-at.true)

pub number_at-requires : goal.number_at-requires
unfolding is_digit
number_at-requires c =
    (refl, c.requires c.args.at ∙ lt-ltb _ _ c.if-past-at.false)

pub action_line-requires : goal.action_line-requires
action_line-requires c =
    let f = c.requires c.args.at ∙ lt-ltb _ _ c.if-past-at.false in
    (c.args.at, numbered _ _ _ _ f (number_told c.args.at (piece_from 32 c.args.text.now c.args.at) c.in-Some.ensures))

pub returns-in-Some : goal.returns-in-Some
returns-in-Some c =
    let f = c.requires c.args.at ∙ lt-ltb _ _ c.if-past-at.false in
    c.action_line.ensures c.args.at
    (numbered _ _ _ _ f (number_told c.args.at (piece_from 32 c.args.text.now c.args.at) c.in-Some.ensures))
