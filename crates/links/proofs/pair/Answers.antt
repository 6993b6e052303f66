-- `links::pair` meets its contract: line by line the table and the twins stay right. Assumes nothing.
use Rattle.std.proofs.Common.{◌≡◌, ℕ, sym, subst, arith, add-one}
use Rattle.probing.specs.Probing.{Kept}
use Rattle.probing.proofs.Tables.{empty}
use Rattle.ids.specs.Ids.{same_id, hash_id}
use Rattle.links.specs.Steps.{Paired}
use Rattle.links.proofs.Pairs.{paired_none, twin_low, twins}
use Rattle.links.proofs.pair.Goals as goal

pub loop-e-init : goal.loop-e-init
loop-e-init c = record {
  table = empty (same_id c.args.ids.now) hash_id c.clear.new.slots c.clear.ensures;
  paired = paired_none c.args.ids.now c.args.twin.now c.args.last.now c.requires.count_in_bounds.2;
}

pub loop-e-preserved : goal.loop-e-preserved
loop-e-preserved c =
    let f = c.follow in
    let i = c.insert-found in
    let l = c.loop-e in record {
      table = subst (Kept (same_id c.args.ids.now) hash_id i.new.slots) (sym (add-one l.e)) i.ensures.1;
      paired = subst (λ (n : ℕ). Paired c.args.ids.now n f.new.twin f.new.last) (sym (add-one l.e)) (f.ensures c.args.ids.now i.ensures.0 l.invariant.paired);
    }

pub returns-clause-twins : goal.returns-clause-twins
returns-clause-twins c =
    let l = c.loop-e in
    let all : l.e ≡ c.args.count = omega arith in
    twins (subst (λ (n : ℕ). Paired c.args.ids.now n l.twin l.last) all l.invariant.paired)

pub returns-clause-low : goal.returns-clause-low
returns-clause-low c =
    let l = c.loop-e in
    let all : l.e ≡ c.args.count = omega arith in
    (twin_low (subst (λ (n : ℕ). Paired c.args.ids.now n l.twin l.last) all l.invariant.paired), l.auto.twin)
