-- By the arrow and the byte that ends it, the method's name, and the ids after that. Assumes nothing.
use mathlib.Core.Path.{refl, sym, subst, ◌∙◌}
use Prim.Native.Nat.{◌+◌}
use native.Mathlib.Omega.{arith}
use Rattle.rules.specs.Text.{is_feed, is_comma}
use Rattle.rules.specs.Tokens.{in_name}
use Rattle.rules.specs.Form.{arrow_word}
use Rattle.text.proofs.Feeds.{feed_inside}
use Rattle.tokens.specs.Pieces.{ends_piece}
use Rattle.shapes.specs.Shapes.{BackIs}
use Rattle.shapes.proofs.Backs.{no_arrow_word, arrow_inside, arrow_last, method_feeds, no_method_name, ids_feed, ids_end, other_ids, all_ids}
use Rattle.shapes.proofs.method_line.Goals as goal

pub overflow_add-to : goal.overflow_add-to
overflow_add-to c =
    let inside = feed_inside c.args.text.now (c.args.to + 1) c.requires.1.goes in
    omega arith

pub is_word-requires : goal.is_word-requires
unfolding ends_piece is_feed
is_word-requires c = ((refl, (refl, tt)), c.requires.1.goes)

pub returns-then-not-is_word : goal.returns-then-not-is_word
unfolding arrow_word
returns-then-not-is_word c =
    let a = c.args in
    λ at h. no_arrow_word a.text.now at a.id a.from a.to h (sym c.is_word.ensures ∙ c.if-not-is_word.true)

pub overflow_add-to-2 : goal.overflow_add-to-2
unfolding arrow_word
overflow_add-to-2 c =
    let a = c.args in
    let inside = arrow_inside a.text.now c.requires.0 a.id a.from a.to c.requires.1 (sym c.is_word.ensures ∙ c.if-not-is_word.false) in
    omega arith

pub bounds-text-to : goal.bounds-text-to
unfolding arrow_word
bounds-text-to c =
    let a = c.args in
    arrow_inside a.text.now c.requires.0 a.id a.from a.to c.requires.1 (sym c.is_word.ensures ∙ c.if-not-is_word.false)

pub returns-then-text-to-ne32 : goal.returns-then-text-to-ne32
unfolding arrow_word
returns-then-text-to-ne32 c =
    let a = c.args in
    let w = sym c.is_word.ensures ∙ c.if-not-is_word.false in
    λ at h. arrow_last a.text.now at a.id a.from a.to h w c.if-text-to-ne32.true

pub name_end-requires : goal.name_end-requires
unfolding arrow_word in_name is_comma
name_end-requires c =
    let a = c.args in
    let w = sym c.is_word.ensures ∙ c.if-not-is_word.false in
    (refl, method_feeds a.text.now c.requires.0 a.id a.from a.to c.requires.1 w c.if-text-to-ne32.false)

pub ids_from-requires : goal.ids_from-requires
unfolding arrow_word
ids_from-requires c =
    let a = c.args in
    let w = sym c.is_word.ensures ∙ c.if-not-is_word.false in
    let e = c.in_ok-end.ensures in (
      ids_feed a.text.now c.requires.0 a.id a.from a.to c.requires.1 w c.if-text-to-ne32.false _ e,
      ids_end a.text.now c.requires.0 a.id a.from a.to c.requires.1 w c.if-text-to-ne32.false _ e,
    )

pub returns : goal.returns
unfolding arrow_word
returns c =
    let a = c.args in
    let w = sym c.is_word.ensures ∙ c.if-not-is_word.false in
    λ at h. all_ids a.text.now at a.id a.from a.to h w c.if-text-to-ne32.false _ c.in_ok-end.ensures _ c.in_ok-ids.ensures

pub returns-in_err-ids : goal.returns-in_err-ids
unfolding arrow_word
returns-in_err-ids c =
    let a = c.args in
    let w = sym c.is_word.ensures ∙ c.if-not-is_word.false in
    λ at h. subst (BackIs a.text.now at) (sym c.from_residual-in_err-ids.ensures)
    (other_ids a.text.now at a.id a.from a.to h w c.if-text-to-ne32.false _ c.in_ok-end.ensures c.in_err-ids.ensures)

pub returns-in_err-end : goal.returns-in_err-end
unfolding arrow_word
returns-in_err-end c =
    let a = c.args in
    let w = sym c.is_word.ensures ∙ c.if-not-is_word.false in
    λ at h. subst (BackIs a.text.now at) (sym c.from_residual.ensures)
    (no_method_name a.text.now at a.id a.from a.to h w c.if-text-to-ne32.false c.in_err-end.ensures)
