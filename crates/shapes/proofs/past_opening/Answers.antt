-- By the place, the word, and the byte that ends it. Assumes nothing.
use mathlib.Core.Path.{refl, sym, ◌∙◌}
use Prim.Native.Nat.{◌≤◌}
use native.Mathlib.Omega.{arith}
use borrow.Author.Tests.{le-ltb}
use Rattle.rules.specs.Text.{is_feed}
use Rattle.rules.specs.Form.{opening_word}
use Rattle.tokens.specs.Pieces.{ends_piece}
use Rattle.shapes.proofs.Words.{some_feed}
use Rattle.shapes.proofs.Openings.{opening_out, opening_inside, no_opening, opening_goes_on, opening_there}
use Rattle.shapes.proofs.past_opening.Goals as goal

pub returns-then-past-eq0 : goal.returns-then-past-eq0
returns-then-past-eq0 c =
    let none : c.args.past ≤ 0 = omega (arith, c.if-past-eq0.true) in
    opening_out c.args.text.now (c.requires 0 ∙ le-ltb 0 c.args.past none)

pub is_word-requires : goal.is_word-requires
unfolding ends_piece is_feed
is_word-requires c =
    ((refl, (refl, (refl, tt))), some_feed _ _ c.requires c.if-past-eq0.false)

pub returns-then-not-is_word : goal.returns-then-not-is_word
unfolding opening_word
returns-then-not-is_word c =
    no_opening c.args.text.now (some_feed _ _ c.requires c.if-past-eq0.false) (sym c.is_word.ensures ∙ c.if-not-is_word.true)

pub bounds-text-3 : goal.bounds-text-3
unfolding opening_word
bounds-text-3 c =
    opening_inside c.args.text.now (some_feed _ _ c.requires c.if-past-eq0.false) (sym c.is_word.ensures ∙ c.if-not-is_word.false)

pub returns-then-text-eq10 : goal.returns-then-text-eq10
unfolding opening_word
returns-then-text-eq10 c =
    opening_there c.args.text.now (some_feed _ _ c.requires c.if-past-eq0.false) (sym c.is_word.ensures ∙ c.if-not-is_word.false) c.if-text-eq10.true

pub returns-else-text-eq10 : goal.returns-else-text-eq10
unfolding opening_word
returns-else-text-eq10 c =
    opening_goes_on c.args.text.now (some_feed _ _ c.requires c.if-past-eq0.false) (sym c.is_word.ensures ∙ c.if-not-is_word.false) c.if-text-eq10.false
