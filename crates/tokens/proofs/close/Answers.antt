-- The byte here, if it ends the piece, decides between the two answers. Assumes nothing.
use mathlib.Core.Path.{sym, ap, ◌∙◌}
use Rattle.text.proofs.Feeds.{feed_inside}
use Rattle.tokens.specs.Pieces.{as_plain}
use Rattle.tokens.proofs.Pieces.{closed_here, closed_not}
use Rattle.tokens.proofs.close.Goals as goal

pub bounds-text-at : goal.bounds-text-at
bounds-text-at c = feed_inside c.args.text.now c.args.at c.requires.1

pub returns-then-ends_piece : goal.returns-then-ends_piece
returns-then-ends_piece c =
    let e = sym c.ends_piece.ensures ∙ c.if-ends_piece.true in
    sym (ap as_plain (closed_here c.args.separator c.args.text.now c.args.at c.requires.1 c.args.value e))

pub returns-else-ends_piece : goal.returns-else-ends_piece
returns-else-ends_piece c =
    let e = sym c.ends_piece.ensures ∙ c.if-ends_piece.false in
    sym (ap as_plain (closed_not c.args.separator c.args.text.now c.args.at c.requires.1 c.args.value e))
