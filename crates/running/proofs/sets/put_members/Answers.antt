-- `put_members`: the set of all members is what the members left make of the set so far. Assumes nothing.
use Rattle.std.proofs.Common.{◌≡◌, ℕ, ◌+◌, ◌-◌, [], get_or, take, drop, sym, ap, ◌∙◌, arith}
use lib.ListN.{drop_of_length-le}
use Rattle.rules.specs.State.{insert_all}
use Rattle.running.specs.Sets.{members_at, past}
use Rattle.running.proofs.sets.put_members.Goals as goal

pub returns-clause-put : goal.returns-clause-put
unfolding members_at past
returns-clause-put c =
    let l = c.loop-member in
    let n = get_or c.args.fields.now c.args.at 0 in
    let from = c.args.at + 1 in
    let items = take (from + n - from) (drop from c.args.fields.now) in
    let none : drop l.member-index items ≡ [] = drop_of_length-le items {i = l.member-index} c.loop-member-test.false in
    let count : from + n - from ≡ n = omega arith in
    ap (insert_all l.words) (sym none) ∙ sym l.invariant.1 ∙ ap (λ (m : ℕ). insert_all c.args.words.now (take m (drop from c.args.fields.now))) count
