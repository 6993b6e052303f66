-- A line that was read is the line of what it stands for: the other way from reading, line by line. Assumes nothing.
use mathlib.Core.Path.{◌≡◌, refl, ap}
use mathlib.Core.Bool.{true}
use mathlib.Core.List.{List, [], ◌∷◌}
use Prim.Native.Nat.{ℕ}
use Prim.Native.Char.{code}
use lib.Dec.{ltb}
use Rattle.rules.specs.declared.Header.{Header}
use Rattle.rules.specs.State.{no_propositions, insert_all}
use Rattle.rules.specs.Table.{Value, scalar, listed, header, initial, action, method, constraint, plan, node, table, role_number, in_range}
use Rattle.rules.specs.Case.{Valued, scalar_at, members_at, set_at, header_of, initial_of, action_of, sign_of, constraint_of, as_constraint, plan_of, node_of, as_node, no_header}
use Rattle.rules.specs.Fields.{propositions_of, header_line, initial_line, action_line, constraint_line, cues_line, node_line}
use Rattle.rules.proofs.Fields.{members_back}
use Rattle.rules.proofs.Judgement.Each.{Each}
use Rattle.rules.proofs.Judgement.Reading.{Rises, ForLine}
use Rattle.rules.proofs.Judgement.Sound.{GoodHeader, ascends}

pub set_back : (h : Header) (vs : List ℕ) → GoodHeader h → Each (λ v. ltb v h.propositions ≡ true) vs → Rises true 0 vs
    → propositions_of (insert_all no_propositions vs) ≡ vs
set_back h vs good hs r = members_back vs (ascends h.propositions 0 vs good.few_propositions hs r)

pub header_back : ForLine no_header 0 header (λ l vs. header_line (header_of (l, vs)) ≡ (l, vs))
unfolding ForLine table role_number header_line header_of
header_back = (λ a ha b hb c hc d hd e he f hf g hg. refl, tt)

pub initial_back : (h : Header) → GoodHeader h → ForLine h 0 initial (λ l vs. initial_line (initial_of (l, vs)) ≡ (l, vs))
unfolding ForLine table role_number in_range initial_line initial_of set_at members_at
initial_back h good = (λ vs n hs r. ap (λ (ps : List ℕ). (code "I", listed ps ∷ [])) (set_back h vs good hs r), tt)

pub action_back : (h : Header) → GoodHeader h → ForLine h 0 action (λ l vs. action_line (action_of (l, vs)) ≡ (l, vs))
unfolding ForLine table role_number in_range action_line action_of set_at members_at
action_back h good = (
  λ a na ha ra b nb hb rb c nc hc rc d nd hd rd.
      λ i. (
        code "A",
        listed (set_back h a good ha ra i) ∷ listed (set_back h b good hb rb i) ∷ listed (set_back h c good hc rc i) ∷ listed (set_back h d good hd rd i) ∷ [],
      ),
  tt,
)

-- A method's line, by its three values.
unfoldable pub method_line : List Value → Valued
method_line vs = (code "M", scalar (scalar_at vs 0) ∷ listed (members_at vs 1) ∷ scalar (scalar_at vs 2) ∷ [])

pub method_back : (h : Header) → ForLine h 0 method (λ l vs. method_line vs ≡ (l, vs))
unfolding ForLine table role_number method_line scalar_at members_at
method_back h = (λ t ht ss n hs c hc. refl, tt)

pub constraint_back : (h : Header) (n : ℕ) → ForLine h n constraint (λ l vs. constraint_line (as_constraint (l, vs)) ≡ (l, vs))
unfolding ForLine table role_number constraint_line as_constraint constraint_of sign_of scalar_at
constraint_back h n = (
  λ i hi j hj. refl,
  (λ p hp u hu. refl, (λ p hp u hu. refl, (λ p hp u hu. refl, (λ p hp u hu. refl, (λ u hu p hp v hv. refl, (λ u hu p hp v hv. refl, tt)))))),
)

pub plan_back : (h : Header) → ForLine h 0 plan (λ l vs. cues_line (plan_of (l, vs)) ≡ (l, vs))
unfolding ForLine table role_number cues_line plan_of members_at
plan_back h = (λ vs n hs. refl, tt)

pub node_back : (h : Header) → ForLine h 0 node (λ l vs. node_line (as_node (l, vs)) ≡ (l, vs))
unfolding ForLine table role_number node_line as_node node_of scalar_at
node_back h = (λ m hm. refl, (λ m hm g hg. refl, (λ a ha i hi. refl, tt)))
