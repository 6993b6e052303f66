-- By the word, and the byte that ends it. Assumes nothing.
use mathlib.Core.Path.{refl, sym, ◌∙◌}
use native.Mathlib.Omega.{arith}
use Rattle.rules.specs.Text.{is_feed}
use Rattle.rules.specs.Form.{closing_word}
use Rattle.tokens.specs.Pieces.{ends_piece}
use Rattle.shapes.proofs.Backs.{closing_inside, no_closing_word, closing_goes_on, closing_there}
use Rattle.shapes.proofs.last_line.Goals as goal

pub is_word-requires : goal.is_word-requires
unfolding ends_piece is_feed
is_word-requires c = ((refl, (refl, (refl, tt))), c.requires)

pub returns-then-not-is_word : goal.returns-then-not-is_word
unfolding closing_word
returns-then-not-is_word c =
    λ plain. no_closing_word c.args.text.now c.args.at c.requires plain (sym c.is_word.ensures ∙ c.if-not-is_word.true)

pub overflow_add-end : goal.overflow_add-end
unfolding closing_word
overflow_add-end c =
    let inside = closing_inside c.args.text.now c.args.at c.requires (sym c.is_word.ensures ∙ c.if-not-is_word.false) in
    omega arith

pub bounds-text-end : goal.bounds-text-end
unfolding closing_word
bounds-text-end c =
    closing_inside c.args.text.now c.args.at c.requires (sym c.is_word.ensures ∙ c.if-not-is_word.false)

pub returns-then-text-end-ne10 : goal.returns-then-text-end-ne10
unfolding closing_word
returns-then-text-end-ne10 c =
    let w = sym c.is_word.ensures ∙ c.if-not-is_word.false in
    λ plain. closing_goes_on c.args.text.now c.args.at c.requires plain w c.if-text-end-ne10.true

pub returns : goal.returns
unfolding closing_word
returns c =
    let w = sym c.is_word.ensures ∙ c.if-not-is_word.false in
    λ plain. closing_there c.args.text.now c.args.at c.requires plain w c.if-text-end-ne10.false
