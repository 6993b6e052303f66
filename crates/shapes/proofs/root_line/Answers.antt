-- By the word, the byte that ends it, the id after it, and the byte that ends that. Assumes nothing.
use mathlib.Core.Path.{refl, sym, subst, ◌∙◌}
use Prim.Native.Nat.{◌+◌}
use native.Mathlib.Omega.{arith}
use Rattle.rules.specs.Text.{is_digit, is_feed}
use Rattle.rules.specs.Form.{root_word}
use Rattle.tokens.specs.Pieces.{ends_piece, piece_from}
use Rattle.tokens.proofs.Words.{number_told, other_told}
use Rattle.shapes.specs.Shapes.{FrontIs}
use Rattle.shapes.proofs.Fronts.{no_root_word, root_inside, root_alone, id_feeds, no_id, id_inside, more_words, root_there}
use Rattle.shapes.proofs.root_line.Goals as goal

pub is_word-requires : goal.is_word-requires
unfolding ends_piece is_feed
is_word-requires c = ((refl, (refl, (refl, (refl, tt)))), c.requires)

pub returns-then-not-is_word : goal.returns-then-not-is_word
unfolding root_word
returns-then-not-is_word c =
    λ plain. no_root_word c.args.text.now c.args.at c.requires plain (sym c.is_word.ensures ∙ c.if-not-is_word.true)

pub overflow_add-end : goal.overflow_add-end
unfolding root_word
overflow_add-end c =
    let inside = root_inside c.args.text.now c.args.at c.requires (sym c.is_word.ensures ∙ c.if-not-is_word.false) in
    omega arith

pub bounds-text-end : goal.bounds-text-end
unfolding root_word
bounds-text-end c =
    root_inside c.args.text.now c.args.at c.requires (sym c.is_word.ensures ∙ c.if-not-is_word.false)

pub returns-then-text-end-ne32 : goal.returns-then-text-end-ne32
unfolding root_word
returns-then-text-end-ne32 c =
    let w = sym c.is_word.ensures ∙ c.if-not-is_word.false in
    λ plain. root_alone c.args.text.now c.args.at c.requires plain w c.if-text-end-ne32.true

pub number_at-requires : goal.number_at-requires
unfolding root_word is_digit
number_at-requires c =
    let w = sym c.is_word.ensures ∙ c.if-not-is_word.false in
    (refl, id_feeds c.args.text.now c.args.at c.requires w c.if-text-end-ne32.false)

pub bounds-text-id : goal.bounds-text-id
unfolding root_word
bounds-text-id c =
    let v = number_told (c.args.at + 4 + 1) (piece_from 32 c.args.text.now (c.args.at + 4 + 1)) c.in_ok-id.ensures in
    let w = sym c.is_word.ensures ∙ c.if-not-is_word.false in
    id_inside c.args.text.now c.args.at c.requires w c.if-text-end-ne32.false v

pub returns-then-text-id-ne10 : goal.returns-then-text-id-ne10
unfolding root_word
returns-then-text-id-ne10 c =
    let v = number_told (c.args.at + 4 + 1) (piece_from 32 c.args.text.now (c.args.at + 4 + 1)) c.in_ok-id.ensures in
    let w = sym c.is_word.ensures ∙ c.if-not-is_word.false in
    λ plain. more_words c.args.text.now c.args.at c.requires plain w c.if-text-end-ne32.false _ _ v c.if-text-id-ne10.true

pub returns : goal.returns
unfolding root_word
returns c =
    let v = number_told (c.args.at + 4 + 1) (piece_from 32 c.args.text.now (c.args.at + 4 + 1)) c.in_ok-id.ensures in
    let w = sym c.is_word.ensures ∙ c.if-not-is_word.false in
    λ plain. root_there c.args.text.now c.args.at c.requires plain w c.if-text-end-ne32.false _ _ v c.if-text-id-ne10.false

pub returns-in_err-id : goal.returns-in_err-id
unfolding root_word
returns-in_err-id c =
    let v = other_told (c.args.at + 4 + 1) (piece_from 32 c.args.text.now (c.args.at + 4 + 1)) c.in_err-id.ensures in
    let w = sym c.is_word.ensures ∙ c.if-not-is_word.false in
    λ plain. subst (FrontIs c.args.text.now c.args.at) (sym c.from_residual.ensures)
    (no_id c.args.text.now c.args.at c.requires plain w c.if-text-end-ne32.false v)
