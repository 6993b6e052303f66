-- By the byte that ends the id, the name after it, and the byte that ends that. Assumes nothing.
use mathlib.Core.Path.{refl, sym, subst}
use Rattle.rules.specs.Tokens.{in_name}
use Rattle.rules.specs.Text.{is_comma}
use Rattle.shapes.specs.Shapes.{FrontIs}
use Rattle.shapes.proofs.Words.{word_inside}
use Rattle.shapes.proofs.Fronts.{id_alone, name_feeds, no_name_there, name_is, third_word, action_there}
use Rattle.shapes.proofs.action_line.Goals as goal

pub bounds-text-next : goal.bounds-text-next
bounds-text-next c =
    let w = c.requires.1 in
    word_inside c.args.text.now c.requires.0 c.args.next w.feeds w.ends

pub returns-then-text-next-ne32 : goal.returns-then-text-next-ne32
returns-then-text-next-ne32 c =
    λ at w. id_alone c.args.text.now at c.args.id c.args.next w c.if-text-next-ne32.true

pub name_end-requires : goal.name_end-requires
unfolding in_name is_comma
name_end-requires c =
    (refl, name_feeds c.args.text.now c.requires.0 c.args.id c.args.next c.requires.1 c.if-text-next-ne32.false)

pub bounds-text-to : goal.bounds-text-to
bounds-text-to c =
    (name_is c.args.text.now c.requires.0 c.args.id c.args.next c.requires.1 c.if-text-next-ne32.false _ c.in_ok-to.ensures).inside

pub returns-then-text-to-ne10 : goal.returns-then-text-to-ne10
returns-then-text-to-ne10 c =
    λ at w. third_word c.args.text.now at c.args.id c.args.next w c.if-text-next-ne32.false _ c.in_ok-to.ensures c.if-text-to-ne10.true

pub returns : goal.returns
returns c =
    λ at w. action_there c.args.text.now at c.args.id c.args.next w c.if-text-next-ne32.false _ c.in_ok-to.ensures c.if-text-to-ne10.false

pub returns-in_err-to : goal.returns-in_err-to
returns-in_err-to c =
    λ at w. subst (FrontIs c.args.text.now at) (sym c.from_residual.ensures)
    (no_name_there c.args.text.now at c.args.id c.args.next w c.if-text-next-ne32.false c.in_err-to.ensures)
