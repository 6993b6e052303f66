-- By the byte that ends the id, the name after it, and the byte that ends that. Assumes nothing.
use mathlib.Core.Path.{refl, sym, subst}
use Rattle.rules.specs.Text.{is_comma}
use Rattle.rules.specs.Tokens.{in_name}
use Rattle.shapes.specs.Shapes.{BackIs}
use Rattle.shapes.proofs.Words.{word_inside}
use Rattle.shapes.proofs.Backs.{id_alone, task_feeds, no_task_name, task_is, task_last, headed}
use Rattle.shapes.proofs.compound_line.Goals as goal

pub bounds-text-next : goal.bounds-text-next
bounds-text-next c =
    let w = c.requires.1 in
    word_inside c.args.text.now c.requires.0 c.args.next w.feeds w.ends

pub returns-then-text-next-ne32 : goal.returns-then-text-next-ne32
returns-then-text-next-ne32 c =
    λ at w. id_alone c.args.text.now at c.args.id c.args.next w c.if-text-next-ne32.true

pub name_end-requires : goal.name_end-requires
unfolding in_name is_comma
name_end-requires c =
    (refl, task_feeds c.args.text.now c.requires.0 c.args.id c.args.next c.requires.1 c.if-text-next-ne32.false)

pub bounds-text-to : goal.bounds-text-to
bounds-text-to c =
    (task_is c.args.text.now c.requires.0 c.args.id c.args.next c.requires.1 c.if-text-next-ne32.false _ c.in_ok-to.ensures).inside

pub returns-then-text-to-ne32 : goal.returns-then-text-to-ne32
returns-then-text-to-ne32 c =
    λ at w. task_last c.args.text.now at c.args.id c.args.next w c.if-text-next-ne32.false _ c.in_ok-to.ensures c.if-text-to-ne32.true

pub method_line-requires : goal.method_line-requires
method_line-requires c = (
  c.requires.0,
  headed c.args.text.now c.requires.0 c.args.id c.args.next c.requires.1 c.if-text-next-ne32.false _ c.in_ok-to.ensures c.if-text-to-ne32.false,
)

pub returns : goal.returns
returns c =
    λ at w. c.method_line.ensures at
    (headed c.args.text.now at c.args.id c.args.next w c.if-text-next-ne32.false _ c.in_ok-to.ensures c.if-text-to-ne32.false)

pub returns-in_err-to : goal.returns-in_err-to
returns-in_err-to c =
    λ at w. subst (BackIs c.args.text.now at) (sym c.from_residual.ensures)
    (no_task_name c.args.text.now at c.args.id c.args.next w c.if-text-next-ne32.false c.in_err-to.ensures)
