-- `links::store_link` meets its contract, by whether a line defines the id. Assumes nothing.
use mathlib.Core.Path.{◌≡◌, refl, sym, ap, ◌∙◌}
use mathlib.Core.Bool.{true, false}
use Prim.Native.Nat.{◌+◌, ◌<◌}
use native.Mathlib.Numerals.{add-one}
use native.Mathlib.Omega.{arith}
use borrow.Author.Rules.{rules}
use borrow.Author.Tests.{ne_eqb}
use lib.ListN.{length, get_or}
use Rattle.probing.proofs.First.{first_at}
use Rattle.ids.specs.Ids.{same_id}
use Rattle.links.specs.Steps.{link_to, link_in}
use Rattle.links.proofs.Stores.{tally_most, tallied_line, tallied_none, stored_one}
use Rattle.links.proofs.store_link.Goals as goal

-- The line found is one of those in the table.
pub overflow_add-links : goal.overflow_add-links
overflow_add-links c =
    omega (arith, (first_at (same_id c.args.table.now.ids.now c.args.id) c.args.table.now.count c.in-Some.d (sym c.find.ensures ∙ c.in-Some.is)).0)

pub overflow_cast-links : goal.overflow_cast-links
overflow_cast-links c =
    omega (arith, (first_at (same_id c.args.table.now.ids.now c.args.id) c.args.table.now.count c.in-Some.d (sym c.find.ensures ∙ c.in-Some.is)).0)

pub offset_bounds-used-d : goal.offset_bounds-used-d
offset_bounds-used-d c =
    let i = (first_at (same_id c.args.table.now.ids.now c.args.id) c.args.table.now.count c.in-Some.d (sym c.find.ensures ∙ c.in-Some.is)).0 in
    let h : c.in-Some.d < length c.args.used.now = omega arith in
    search rules

pub bounds-used-d : goal.bounds-used-d
bounds-used-d c =
    omega (arith, (first_at (same_id c.args.table.now.ids.now c.args.id) c.args.table.now.count c.in-Some.d (sym c.find.ensures ∙ c.in-Some.is)).0)

pub overflow_add-used : goal.overflow_add-used
overflow_add-used c = omega (arith, tally_most c.requires.4 c.in-Some.d)

pub bounds-used-d-in-Some : goal.bounds-used-d-in-Some
bounds-used-d-in-Some c =
    omega (arith, (first_at (same_id c.args.table.now.ids.now c.args.id) c.args.table.now.count c.in-Some.d (sym c.find.ensures ∙ c.in-Some.is)).0)

pub returns-in-Some : goal.returns-in-Some
returns-in-Some c =
    let a = c.args in
    let d = c.in-Some.d in
    let linked : d + 1 ≡ link_in a.table.now.ids.now a.table.now.count a.id = add-one d ∙ ap link_to (sym c.in-Some.is ∙ c.find.ensures) in
    let here = (first_at (same_id a.table.now.ids.now a.id) a.table.now.count d (sym c.find.ensures ∙ c.in-Some.is)).0 in (
      stored_one (link_in a.table.now.ids.now a.table.now.count) a.id a.n (d + 1) a.links.now false c.requires.3 linked (sym (ne_eqb (d + 1) 0 (λ q. omega arith))),
      tallied_line c.requires.4 d (d + 1) (get_or a.used.now d 0 + 1) c.requires.3 (omega arith) (add-one d) (omega arith) (add-one (get_or a.used.now d 0)),
    )

pub returns-in-None : goal.returns-in-None
returns-in-None c =
    let a = c.args in (
      stored_one (link_in a.table.now.ids.now a.table.now.count) a.id a.n 0 a.links.now true c.requires.3 (ap link_to (sym c.in-None.is ∙ c.find.ensures)) refl,
      tallied_none c.requires.4 c.requires.3,
    )
