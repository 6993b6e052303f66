-- `ids::insert` meets its contract. Assumes nothing.
use Rattle.std.proofs.Common.{List, ℕ, suc, ◌<◌, length, arith, subst, sym, ◌∙◌}
use Rattle.probing.specs.Probing.{Kept}
use Rattle.ids.specs.Ids.{same_id, hash_id}
use Rattle.ids.proofs.Keys.{id_puts}
use Rattle.ids.proofs.insert.Goals as goal

pub put-requires-clause-in_table : goal.put-requires-clause-in_table
put-requires-clause-in_table c =
    let a = c.args in
    let w = c.walk_to-end in
    (id_puts a.ids.now a.slots.now a.count c.requires.0 c.requires.3 w.result w.ensures).spot

pub returns : goal.returns
returns c =
    let a = c.args in
    let w = c.walk_to-end in
    let puts = id_puts a.ids.now a.slots.now a.count c.requires.0 c.requires.3 w.result w.ensures in
    let room : a.count < length a.slots.now = omega (arith, c.requires.0, c.requires.1) in
    (c.put.ensures.told ∙ puts.told, subst (λ (l : List ℕ). Kept (same_id a.ids.now) hash_id l (suc a.count)) (sym c.put.ensures.stored) (puts.kept room))
