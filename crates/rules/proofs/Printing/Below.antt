-- The sets of a line that was read are below the proposition count. Assumes nothing.
use mathlib.Core.Path.{◌≡◌, sym, subst}
use mathlib.Core.Bool.{true}
use mathlib.Core.List.{List}
use Prim.Native.Nat.{ℕ, ◌<◌}
use lib.Dec.{ltb}
use borrow.Author.Tests.{ltb-true}
use Rattle.rules.specs.declared.Header.{Header}
use Rattle.rules.specs.State.{no_propositions, insert_all}
use Rattle.rules.specs.Table.{initial, action, table, role_number, in_range}
use Rattle.rules.specs.Case.{members_at, set_at, initial_of, action_of}
use Rattle.rules.specs.Ranges.{GoodHeader, SetBelow, ActionBelow}
use Rattle.rules.proofs.Judgement.Each.{Each, each_weaken}
use Rattle.rules.proofs.Judgement.Reading.{Rises, ForLine}
use Rattle.rules.proofs.Judgement.Back.{set_back}

set_below : (h : Header) (vs : List ℕ) → GoodHeader h → Each (λ v. ltb v h.propositions ≡ true) vs → Rises true 0 vs
    → SetBelow h (insert_all no_propositions vs)
set_below h vs good hs r =
    subst (Each (λ p. p < h.propositions)) (sym (set_back h vs good hs r))
    (each_weaken (λ v. ltb v h.propositions ≡ true) (λ v. v < h.propositions) vs (λ v. ltb-true v h.propositions) hs)

pub initial_below : (h : Header) → GoodHeader h → ForLine h 0 initial (λ l vs. SetBelow h (initial_of (l, vs)))
unfolding ForLine table role_number in_range initial_of set_at members_at
initial_below h good = (λ vs n hs r. set_below h vs good hs r, tt)

pub action_below : (h : Header) → GoodHeader h → ForLine h 0 action (λ l vs. ActionBelow h (action_of (l, vs)))
unfolding ForLine table role_number in_range action_of set_at members_at
action_below h good = (
  λ a na ha ra b nb hb rb c nc hc rc d nd hd rd. record {
    needed_below = set_below h a good ha ra;
    forbidden_below = set_below h b good hb rb;
    added_below = set_below h c good hc rc;
    deleted_below = set_below h d good hd rd;
  },
  tt,
)
