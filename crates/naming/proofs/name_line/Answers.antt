-- `name_line`: the laws of a line (Shapes), one for each way out. Assumes nothing.
use mathlib.Core.Path.{sym, subst, ◌∙◌}
use native.Mathlib.Omega.{arith}
use Rattle.naming.specs.Lines.{Told}
use Rattle.naming.proofs.Shapes.{digit_comma, name_comma, no_line_lem, line_feeds, no_number, next_inside, another_number, no_comma, name_feeds, no_name, end_in, more_after, lists}
use Rattle.naming.proofs.name_line.Goals as goal

pub returns-then-past-at : goal.returns-then-past-at
returns-then-past-at c =
    let a = c.args in
    no_line_lem a.text.now a.number a.at a.past (c.requires a.at) (omega arith)

pub number_at-requires : goal.number_at-requires
number_at-requires c =
    let a = c.args in
    (digit_comma, line_feeds a.text.now a.at a.past (c.requires a.at) c.if-past-at.false)

pub returns-then-value-number : goal.returns-then-value-number
returns-then-value-number c =
    let a = c.args in
    let f = line_feeds a.text.now a.at a.past (c.requires a.at) c.if-past-at.false in
    another_number a.text.now a.number a.at f (sym c.in_ok-value.was ∙ c.number_at.ensures) (λ q. omega arith)

pub bounds-text-next : goal.bounds-text-next
bounds-text-next c =
    let a = c.args in
    let f = line_feeds a.text.now a.at a.past (c.requires a.at) c.if-past-at.false in
    next_inside a.text.now a.number a.at f (sym c.in_ok-value.was ∙ c.number_at.ensures)

pub returns-then-text-next-ne44 : goal.returns-then-text-next-ne44
returns-then-text-next-ne44 c =
    let a = c.args in
    let f = line_feeds a.text.now a.at a.past (c.requires a.at) c.if-past-at.false in
    no_comma a.text.now a.number a.at f (sym c.in_ok-value.was ∙ c.number_at.ensures) c.if-text-next-ne44.true

pub name_end-requires : goal.name_end-requires
name_end-requires c =
    let a = c.args in
    let f = line_feeds a.text.now a.at a.past (c.requires a.at) c.if-past-at.false in (
      name_comma,
      name_feeds a.text.now a.number a.at f (sym c.in_ok-value.was ∙ c.number_at.ensures) c.if-value-number.false c.if-text-next-ne44.false,
    )

pub bounds-text-to : goal.bounds-text-to
bounds-text-to c =
    let a = c.args in
    let f = line_feeds a.text.now a.at a.past (c.requires a.at) c.if-past-at.false in
    end_in a.text.now a.number a.at f (sym c.in_ok-value.was ∙ c.number_at.ensures) c.if-value-number.false c.if-text-next-ne44.false _ c.in_ok-to.ensures

pub returns-then-text-to-ne10 : goal.returns-then-text-to-ne10
returns-then-text-to-ne10 c =
    let a = c.args in
    let f = line_feeds a.text.now a.at a.past (c.requires a.at) c.if-past-at.false in
    more_after a.text.now a.number a.at f (sym c.in_ok-value.was ∙ c.number_at.ensures) c.if-value-number.false c.if-text-next-ne44.false _ c.in_ok-to.ensures c.if-text-to-ne10.true

pub returns : goal.returns
returns c =
    let a = c.args in
    let f = line_feeds a.text.now a.at a.past (c.requires a.at) c.if-past-at.false in
    lists a.text.now a.number a.at f (sym c.in_ok-value.was ∙ c.number_at.ensures) c.if-value-number.false c.if-text-next-ne44.false _ c.in_ok-to.ensures c.if-text-to-ne10.false

pub returns-in_err-value : goal.returns-in_err-value
returns-in_err-value c =
    let a = c.args in
    let f = line_feeds a.text.now a.at a.past (c.requires a.at) c.if-past-at.false in
    subst (Told a.text.now a.number a.at) (sym c.from_residual.ensures) (no_number a.text.now a.number a.at f (sym c.in_err-value.was ∙ c.number_at.ensures))

pub returns-in_err-to : goal.returns-in_err-to
returns-in_err-to c =
    let a = c.args in
    let f = line_feeds a.text.now a.at a.past (c.requires a.at) c.if-past-at.false in
    subst (Told a.text.now a.number a.at) (sym c.from_residual-in_err-to.ensures)
    (no_name a.text.now a.number a.at f (sym c.in_ok-value.was ∙ c.number_at.ensures) c.if-value-number.false c.if-text-next-ne44.false c.in_err-to.ensures)
