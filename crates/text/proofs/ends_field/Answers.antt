-- The two tests of the code are those of the definition, in its order. Assumes nothing.
use Rattle.rules.specs.Text.{is_feed, is_comma, ends_field}
use borrow.Author.Tests.{eq-eqb, ne_eqb}
use Rattle.text.proofs.ends_field.Goals as goal

pub returns-then-b-eq44 : goal.returns-then-b-eq44
unfolding ends_field is_comma is_feed
returns-then-b-eq44 c = simp (eq-eqb _ _ c.if-b-eq44.true)

pub returns-else-b-eq44 : goal.returns-else-b-eq44
unfolding ends_field is_comma is_feed
returns-else-b-eq44 c = simp (ne_eqb _ _ c.if-b-eq44.false)
