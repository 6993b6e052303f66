-- `names::insert` meets its contract. Assumes nothing.
use Rattle.std.proofs.Common.{List, ℕ, suc, ◌<◌, length, arith, subst, sym, ◌∙◌}
use Rattle.probing.specs.Probing.{Kept}
use Rattle.names.specs.Names.{same_name, hash_name}
use Rattle.names.proofs.Keys.{name_puts}
use Rattle.names.proofs.insert.Goals as goal

pub put-requires-clause-in_table : goal.put-requires-clause-in_table
put-requires-clause-in_table c =
    let a = c.args in
    let w = c.walk_to-end in
    (name_puts a.text.now a.starts.now a.ends.now a.slots.now a.count c.requires.0 c.requires.4 w.result w.ensures).spot

pub returns : goal.returns
returns c =
    let a = c.args in
    let w = c.walk_to-end in
    let puts = name_puts a.text.now a.starts.now a.ends.now a.slots.now a.count c.requires.0 c.requires.4 w.result w.ensures in
    let room : a.count < length a.slots.now = omega (arith, c.requires.0, c.requires.1) in
    (c.put.ensures.told ∙ puts.told, subst (λ (l : List ℕ). Kept (same_name a.text.now a.starts.now a.ends.now) hash_name l (suc a.count)) (sym c.put.ensures.stored) (puts.kept room))
