-- What reading guarantees of a case: each number is in its range and each list has its length, since each line was read by a row of the
-- table and each group of lines by its count.
use mathlib.Core.Logic.{◌≢◌}
use mathlib.Core.Path.{◌≡◌, refl, sym, ap, subst, ◌∙◌}
use mathlib.Core.Bool.{Bool, true, false, ◌&&◌, not}
use mathlib.Core.List.Memᴰ.{head as here}
use mathlib.Core.List.{List, [], ◌∷◌}
use Prim.Native.Nat.{ℕ, suc, ◌+◌, ◌*◌, ◌≤◌, ◌<◌}
use native.Mathlib.Omega.{arith}
use lib.Dec.{eqb, leb, ltb}
use lib.ListN.{length}
use borrow.Author.Tests.{leb-true, ltb-true, eqb-false, not-true}
use Rattle.rules.specs.declared.Header.{Header}
use Rattle.rules.specs.declared.Answer.TheVariants.{Unreadable}
use Rattle.rules.specs.State.{word_count, proposition_most, no_propositions, insert_all}
use Rattle.rules.specs.Table.{Value, header, initial, action, method, constraint, plan, node, table, role_number, is_compound, in_range}
use Rattle.rules.specs.Result.{Result, found, refused, ◌>>◌}
use Rattle.rules.specs.Case.{Constraint, Case, scalar_at, members_at, set_at, header_of, initial_of, action_of, constraint_of, as_constraint, plan_of, node_of, as_node, one_line, many, one_method, no_surplus, read_body, no_header, read_from, read_case}
use Rattle.rules.specs.Fields.{propositions_of}
pub use Rattle.rules.specs.Ranges.{GoodHeader, GoodConstraint, GoodMethod, GoodNode, IsSet, GoodAction, Sound}
use Rattle.rules.proofs.Members.{propositions_fit}
use Rattle.rules.proofs.Fields.{Ascends, set_back}
use Rattle.rules.proofs.Worded.{Worded, all_worded}
use Rattle.rules.proofs.Judgement.Each.{Each, each_nil, each_tail, each_weaken, both_true}
use Rattle.rules.proofs.Judgement.Reading.{Rises, ForLine, OfReading, Says, ReadSays, says_then, read_then, one_line_says, Counted, many_say, lines_say}

-- ---- Tests as what they say

first_le : (a b : ℕ) (t : Bool) → (leb a b && t) ≡ true → a ≤ b
first_le a b t e = leb-true a b (both_true (leb a b) t e).0

second_le : (t : Bool) (a b : ℕ) → (t && leb a b) ≡ true → a ≤ b
second_le t a b e = leb-true a b (both_true t (leb a b) e).1

second_ne : (t : Bool) (a b : ℕ) → (t && not (eqb a b)) ≡ true → b ≢ a
second_ne t a b e q = eqb-false a b (not-true (eqb a b) (both_true t (not (eqb a b)) e).1) (sym q)

each_below : (n : ℕ) (vs : List ℕ) → Each (λ v. ltb v n ≡ true) vs → Each (λ v. v < n) vs
each_below n vs = each_weaken (λ v. ltb v n ≡ true) (λ v. v < n) vs (λ v. ltb-true v n)

-- ---- Each line, by its rows of the table

pub header_good : ForLine no_header 0 header (λ l vs. GoodHeader (header_of (l, vs)))
unfolding ForLine table role_number in_range is_compound header_of
header_good = (
  λ p hp a ha c hc m hm g hg q hq n hn. omega (arith, leb-true, first_le, second_le (leb a g) (suc g) (a + c) hg, second_le (leb 1 n) n 3000 hn),
  tt,
)

-- What the values of an M line say, before its constraints are read.
abbrev MethodLine : Header → List Value → Type 0
MethodLine h vs =
    GoodMethod h (record { task = scalar_at vs 0; subtasks = members_at vs 1; constraints = [] }) × (scalar_at vs 1 ≡ length (members_at vs 1))
    × (scalar_at vs 2 ≤ 64)

method_line_good : (h : Header) → ForLine h 0 method (λ l vs. MethodLine h vs)
unfolding ForLine table role_number in_range is_compound scalar_at members_at
method_line_good h = (
  λ t ht vs n hs c hc. (
    record {
      task_least = first_le h.actions t (ltb t (h.actions + h.compounds)) ht;
      task_below = second_le (leb h.actions t) (suc t) (h.actions + h.compounds) ht;
      few_subtasks = leb-true (length vs) 32 n;
      subtasks_below = each_below (h.actions + h.compounds) vs hs;
      few_constraints = omega arith;
      constraints_good = each_nil (GoodConstraint h (length vs));
    },
    refl,
    leb-true c 64 hc,
  ),
  tt,
)

constraint_good : (h : Header) (count : ℕ) → ForLine h count constraint (λ l vs. GoodConstraint h count (as_constraint (l, vs)))
unfolding ForLine table role_number in_range as_constraint constraint_of scalar_at
constraint_good h count = (λ i hi j hj. omega (arith, leb-true, first_le, second_ne (ltb j count) j i hj), omega (arith, leb-true))

-- What the P line says.
abbrev PlanLine : Header → List ℕ → Type 0
PlanLine h cues = Counted (λ a. a < h.actions) h.cues cues

plan_good : (h : Header) → ForLine h 0 plan (λ l vs. PlanLine h (plan_of (l, vs)))
unfolding ForLine table role_number in_range plan_of members_at
plan_good h = (λ vs n hs. (n, each_below h.actions vs hs), tt)

node_good : (h : Header) → ForLine h 0 node (λ l vs. GoodNode h (as_node (l, vs)))
unfolding ForLine table role_number in_range as_node node_of scalar_at
node_good h = (
  omega (arith, leb-true),
  (omega (arith, leb-true), (λ a ha i hi. omega (arith, leb-true, first_le, second_le (leb 1 i) i h.cues hi), tt)),
)

-- The members of a set ascend, below as many propositions as a state has bits.
pub ascends : (top low : ℕ) (vs : List ℕ) → top ≤ proposition_most → Each (λ v. ltb v top ≡ true) vs → Rises true low vs → Ascends low (64 * word_count) vs
ascends top low [] few hs r = tt
ascends top low (v ∷ vs) few hs r =
    let below : v < top = ltb-true v top (hs v (here refl)) in
    (leb-true low v r.0, omega (arith, propositions_fit), ascends top (v + 1) vs few (each_tail (λ v. ltb v top ≡ true) v vs hs) r.1)

set_good : (h : Header) (vs : List ℕ) → GoodHeader h → Each (λ v. ltb v h.propositions ≡ true) vs → Rises true 0 vs → IsSet (insert_all no_propositions vs)
set_good h vs good hs r = set_back vs (ascends h.propositions 0 vs good.few_propositions hs r)

initial_good : (h : Header) → GoodHeader h → ForLine h 0 initial (λ l vs. IsSet (initial_of (l, vs)))
unfolding ForLine table role_number in_range initial_of set_at members_at
initial_good h good = (λ vs n hs r. set_good h vs good hs r, tt)

action_good : (h : Header) → GoodHeader h → ForLine h 0 action (λ l vs. GoodAction (action_of (l, vs)))
unfolding ForLine table role_number in_range action_of set_at members_at
action_good h good = (
  λ a na ha ra b nb hb rb c nc hc rc d nd hd rd. record {
    needed_set = set_good h a good ha ra;
    forbidden_set = set_good h b good hb rb;
    added_set = set_good h c good hc rc;
    deleted_set = set_good h d good hd rd;
  },
  tt,
)

-- ---- Line by line

with_constraints : (h : Header) (vs : List Value) (cs : List Constraint) → MethodLine h vs
    → Counted (GoodConstraint h (scalar_at vs 1)) (scalar_at vs 2) cs
    → GoodMethod h (record { task = scalar_at vs 0; subtasks = members_at vs 1; constraints = cs })
with_constraints h vs cs w f =
    let m = w.0 in
    record {
      task_least = m.task_least;
      task_below = m.task_below;
      few_subtasks = m.few_subtasks;
      subtasks_below = m.subtasks_below;
      few_constraints = omega (arith, f.0, w.2);
      constraints_good = subst (λ (s : ℕ). Each (GoodConstraint h s) cs) w.1 f.1;
    }

method_good : (text : List ℕ) (h : Header) (n place : ℕ) → ReadSays (GoodMethod h) (one_method text h n place)
unfolding one_method
method_good text h n place =
    read_then (MethodLine h) (GoodMethod h) (one_line text h method 0 (λ x. x.1) n place) _
    (one_line_says text h method 0 (λ x. x.1) n place (MethodLine h) (method_line_good h))
    (λ x w. let s = scalar_at x.0 1 in let count = scalar_at x.0 2 in
    read_then (Counted (GoodConstraint h s) count) (GoodMethod h) (many (one_line text h constraint s as_constraint) count x.1 x.2) _
    (lines_say text h constraint s as_constraint count x.1 x.2 (GoodConstraint h s) (constraint_good h s))
    (λ y f. with_constraints h x.0 y.0 w f))

body_sound : (text : List ℕ) (h : Header) (n place : ℕ) → GoodHeader h → ReadSays Sound (read_body text h n place)
unfolding read_body
body_sound text h n place good =
    read_then IsSet Sound (one_line text h initial 0 initial_of n place) _
    (one_line_says text h initial 0 initial_of n place IsSet (initial_good h good))
    (λ i a. read_then (Counted GoodAction h.actions) Sound (many (one_line text h action 0 action_of) h.actions i.1 i.2) _
    (lines_say text h action 0 action_of h.actions i.1 i.2 GoodAction (action_good h good))
    (λ acts b. read_then (Counted (GoodMethod h) h.methods) Sound (many (one_method text h) h.methods acts.1 acts.2) _
    (many_say (GoodMethod h) (one_method text h) (method_good text h) h.methods acts.1 acts.2)
    (λ ms c. read_then (PlanLine h) Sound (one_line text h plan 0 plan_of ms.1 ms.2) _
    (one_line_says text h plan 0 plan_of ms.1 ms.2 (PlanLine h) (plan_good h))
    (λ cs d. read_then (Counted (GoodNode h) h.nodes) Sound (many (one_line text h node 0 as_node) h.nodes cs.1 cs.2) _
    (lines_say text h node 0 as_node h.nodes cs.1 cs.2 (GoodNode h) (node_good h))
    (λ ns e. record {
      head_good = good;
      initial_set = a;
      actions_good = b.1;
      actions_length = b.0;
      methods_length = c.0;
      methods_good = c.1;
      plan_length = d.0;
      plan_below = d.1;
      nodes_length = e.0;
      nodes_good = e.1;
    })))))

from_sound : (text : List ℕ) (n place : ℕ) → ReadSays Sound (read_from text n place)
unfolding read_from
from_sound text n place =
    read_then GoodHeader Sound (one_line text no_header header 0 header_of n place) _
    (one_line_says text no_header header 0 header_of n place GoodHeader header_good)
    (λ x g. body_sound text x.0 x.1 x.2 g)

surplus_says : (text : List ℕ) (n place : ℕ) → Says (λ x. Unit {0}) (no_surplus text n place)
unfolding no_surplus
surplus_says text n place = go (ltb place (length text))
  where
    go : (b : Bool) → Says {A = Unit {0}} (λ x. Unit {0}) (elim b as (λ b. Result (Unit {0})) [ true ↦ refused (Unreadable n 1) | false ↦ found tt ])
    go true = OfReading.unreadable
    go false = tt

pub case_says : (text : List ℕ) → Says Sound (read_case text)
unfolding read_case
case_says text =
    says_then (λ x. Sound x.0) Sound (read_from text 1 0) _ (from_sound text 1 0)
    (λ x s. over_then (no_surplus text x.1 x.2) (surplus_says text x.1 x.2) s)
  where
    over_then : {k : Case} (r : Result (Unit {0})) → Says (λ x. Unit {0}) r → Sound k → Says Sound (r >> found k)
    over_then (found u) w s = s
    over_then (refused r) w s = w

pub sound : (text : List ℕ) (k : Case) → read_case text ≡ found k → Sound k
sound text k e = subst (λ (r : Result Case). Says Sound r) e (case_says text)

-- The initial set of a case that was read has the words of a state.
pub initial_worded : (k : Case) → Sound k → Worded k.initial
initial_worded k s = ap length (sym s.initial_set) ∙ all_worded (propositions_of k.initial)
