-- A set of propositions has the words of a state: each set of a line, and each state that a plan passes. Assumes nothing.
use mathlib.Core.Path.{◌≡◌, refl, ◌∙◌}
use mathlib.Core.List.{List, [], ◌∷◌}
use Prim.Native.Nat.{ℕ}
use lib.ListN.{length}
use Rattle.rules.specs.State.{State, Action, word_count, no_propositions, insert, insert_all, next, action_at, states}
use Rattle.rules.specs.Table.{Value}
use Rattle.rules.specs.Case.{set_at, members_at}
use Rattle.rules.proofs.Members.{length_insert, length_next}
use Rattle.rules.proofs.Tables.{length_tabulate}
use Rattle.rules.proofs.Judgement.Each.{Each, each_nil, each_cons}

abbrev pub Worded : State → Type 0
Worded s = length s ≡ word_count

pub insert_all_lem : (s : State) (ps : List ℕ) → length (insert_all s ps) ≡ length s
insert_all_lem s [] = refl
insert_all_lem s (p ∷ ps) = insert_all_lem (insert s p) ps ∙ length_insert s p

pub all_worded : (ps : List ℕ) → Worded (insert_all no_propositions ps)
unfolding no_propositions
all_worded ps = insert_all_lem no_propositions ps ∙ length_tabulate word_count 0 (λ i. 0)

pub set_worded : (values : List Value) (i : ℕ) → Worded (set_at values i)
unfolding set_at
set_worded values i = all_worded (members_at values i)

pub states_worded : (actions : List Action) (plan : List ℕ) (s : State) → Worded s → Each Worded (states actions plan s)
unfolding states
states_worded actions [] s w = each_cons Worded s [] w (each_nil Worded)
states_worded actions (a ∷ plan) s w =
    each_cons Worded s (states actions plan (next s (action_at actions a))) w
    (states_worded actions plan (next s (action_at actions a)) (length_next s (action_at actions a)))
