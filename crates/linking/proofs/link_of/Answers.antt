-- `linking::link_of` meets its contract, by whether a line defines the id. Assumes nothing.
use mathlib.Core.Path.{sym, ◌∙◌}
use native.Mathlib.Numerals.{add-one}
use native.Mathlib.Omega.{arith}
use Rattle.probing.proofs.First.{first_at}
use Rattle.ids.specs.Ids.{same_id}
use Rattle.links.proofs.Lookups.{link_at, link_nothing}
use Rattle.linking.proofs.link_of.Goals as goal

-- The line found is one of those in the table.
pub overflow_cast-result : goal.overflow_cast-result
overflow_cast-result c =
    omega (arith, (first_at (same_id c.args.table.now.ids.now c.args.id) c.args.table.now.count c.in-Some.e (sym c.find.ensures ∙ c.in-Some.is)).0)

pub overflow_add-result : goal.overflow_add-result
overflow_add-result c =
    omega (arith, (first_at (same_id c.args.table.now.ids.now c.args.id) c.args.table.now.count c.in-Some.e (sym c.find.ensures ∙ c.in-Some.is)).0)

pub returns-in-Some : goal.returns-in-Some
returns-in-Some c =
    let a = c.args in
    let e = c.in-Some.e in (
      λ es size defined. add-one e ∙ sym (link_at es a.table.now.ids.now defined a.id a.table.now.count size e (sym c.in-Some.is ∙ c.find.ensures)),
      omega (arith, (first_at (same_id a.table.now.ids.now a.id) a.table.now.count e (sym c.find.ensures ∙ c.in-Some.is)).0),
    )

pub returns-in-None : goal.returns-in-None
returns-in-None c =
    let a = c.args in (
      λ es size defined. sym (link_nothing es a.table.now.ids.now defined a.id a.table.now.count size (sym c.in-None.is ∙ c.find.ensures)),
      omega arith,
    )
