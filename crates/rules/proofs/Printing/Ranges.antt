-- What is within the ranges passes the tests of its line: each number by its range, a set by its propositions, which ascend. Assumes nothing.
use mathlib.Core.Path.{◌≡◌, refl, sym, ap}
use mathlib.Core.Bool.{Bool, true, false, not}
use mathlib.Core.List.Memᴰ.{head as here}
use mathlib.Core.List.{List, [], ◌∷◌}
use Prim.Native.Nat.{ℕ, zero, suc, ◌+◌, ◌-◌, ◌*◌, ◌^◌, ◌≤◌, ◌<◌}
use Prim.Native.Char.{code}
use native.Mathlib.Nat.{pow-le-pow_right}
use native.Mathlib.Omega.{arith}
use lib.Dec.{ltb}
use lib.ListN.{length}
use borrow.Author.Tests.{le-leb, lt-ltb, ne_eqb}
use Rattle.rules.specs.declared.Header.{Header}
use Rattle.rules.specs.declared.Sign.TheVariants.{Positive, Negative}
use Rattle.rules.specs.State.{State, Action, word_count, proposition_most, member}
use Rattle.rules.specs.Table.{header, initial, action, method, constraint, plan, node, set, table, row_of, role_number, is_compound, in_range, scalar, listed}
use Rattle.rules.specs.Case.{Constraint, O, B, F, W, Method, NodeLine, D, E, L, Valued, no_header}
use Rattle.rules.specs.Fields.{propositions_from, propositions_of, set_value, header_line, initial_line, action_line, constraint_line, cues_line, node_line}
use Rattle.rules.specs.Ranges.{GoodHeader, GoodConstraint, GoodMethod, GoodNode, SetBelow, ActionBelow}
use Rattle.rules.proofs.Tables.{and_both}
use Rattle.rules.proofs.Fields.{Ascends}
use Rattle.rules.proofs.Judgement.Each.{Each, each_tail}
use Rattle.rules.proofs.Printing.Numbers.{Plain}
use Rattle.rules.proofs.Printing.Tests.{OkMembers, OkItem, OkLine}

-- A count of propositions is a plain number.
most_plain : Plain proposition_most
unfolding proposition_most
most_plain = omega arith

-- ---- Lists

below_ok : (top : ℕ) (vs : List ℕ) → Plain top → Each (λ v. v < top) vs → OkMembers (λ v. ltb v top) false 0 vs
below_ok top [] small f = tt
below_ok top (v ∷ vs) small f =
    let b : v < top = f v (here refl) in
    (and_both (le-leb 0 v (omega arith)) (lt-ltb v top b), omega arith, below_ok top vs small (each_tail (λ v. v < top) v vs f))

ascends_ok : (top low : ℕ) (vs : List ℕ) → Plain top → Ascends low top vs → OkMembers (λ v. ltb v top) true low vs
ascends_ok top low [] small a = tt
ascends_ok top low (v ∷ vs) small (l, u, a) = (and_both (le-leb low v l) (lt-ltb v top u), omega arith, ascends_ok top (v + 1) vs small a)

ascends_length : (top low : ℕ) (vs : List ℕ) → Ascends low top vs → length vs ≤ top - low
ascends_length top low [] a = omega arith
ascends_length top low (v ∷ vs) (l, u, a) = let n = ascends_length top (v + 1) vs a in omega arith

-- ---- Sets

-- The propositions of a set ascend.
from_ascends : (s : State) (top n p low : ℕ) → low ≤ p → Each (λ q. q < top) (propositions_from s n p) → Ascends low top (propositions_from s n p)
from_ascends s top zero p low l f = tt
from_ascends s top (suc n) p low l f =
    go (member s p) f (λ g. from_ascends s top n (suc p) (p + 1) (omega arith) g) (λ g. from_ascends s top n (suc p) low (omega arith) g)
  where
    more : List ℕ
    more = propositions_from s n (suc p)

    go : (b : Bool) → Each (λ q. q < top) (elim b [ true ↦ p ∷ more | false ↦ more ]) → (Each (λ q. q < top) more → Ascends (p + 1) top more)
        → (Each (λ q. q < top) more → Ascends low top more) → Ascends low top (elim b [ true ↦ p ∷ more | false ↦ more ])
    go true f this later = (l, f p (here refl), this (each_tail (λ q. q < top) p more f))
    go false f this later = later f

set_ok : (h : Header) (n : ℕ) (before : List ℕ) (s : State) → GoodHeader h → SetBelow h s → OkItem h n before set (set_value s)
unfolding in_range propositions_of
set_ok h n before s good f =
    let few = good.few_propositions in
    let a = from_ascends s h.propositions (64 * word_count) 0 0 (omega arith) f in
    let l : length (propositions_from s (64 * word_count) 0) ≤ h.propositions = omega (arith, ascends_length h.propositions 0 (propositions_of s) a) in
    (le-leb (length (propositions_of s)) h.propositions l, omega (arith, most_plain), ascends_ok h.propositions 0 (propositions_of s) (omega (arith, most_plain)) a)

-- ---- Lines

-- A method's own line, the first of its lines.
unfoldable pub method_head : Method → Valued
method_head m = (code "M", scalar m.task ∷ listed m.subtasks ∷ scalar (length m.constraints) ∷ [])

-- One item passes its tests, and then the others.
infixr 2 ◌then◌
abbrev ◌then◌ : {X Y : Type 0} → X → Y → X × Y
x then y = (x, y)

pub header_ok : (h : Header) → GoodHeader h → OkLine no_header 0 header (header_line h)
unfolding OkLine header_line row_of table role_number in_range is_compound
header_ok h g =
    refl then (le-leb h.propositions proposition_most g.few_propositions, omega (arith, most_plain)) then (le-leb h.actions 1024 g.few_actions, omega arith)
    then (le-leb h.compounds 1024 g.few_compounds, omega arith) then (le-leb h.methods 2048 g.few_methods, omega arith)
    then (and_both (le-leb h.actions h.goal g.goal_least) (lt-ltb h.goal (h.actions + h.compounds) g.goal_below), omega arith)
    then (le-leb h.cues 1000 g.few_cues, omega arith)
    then (and_both (le-leb 1 h.nodes g.some_nodes) (le-leb h.nodes 3000 g.few_nodes), omega arith) then tt

module _ (h : Header) (good : GoodHeader h) where
  pub initial_ok : (s : State) → SetBelow h s → OkLine h 0 initial (initial_line s)
  unfolding OkLine initial_line row_of table role_number
  initial_ok s b = refl then set_ok h 0 [] s good b then tt

  pub action_ok : (a : Action) → ActionBelow h a → OkLine h 0 action (action_line a)
  unfolding OkLine action_line row_of table role_number
  action_ok a b =
      refl then set_ok h 0 _ a.needed good b.needed_below then set_ok h 0 _ a.forbidden good b.forbidden_below
      then set_ok h 0 _ a.added good b.added_below then set_ok h 0 _ a.deleted good b.deleted_below then tt

  pub method_ok : (m : Method) → GoodMethod h m → OkLine h 0 method (method_head m)
  unfolding OkLine method_head row_of table role_number in_range is_compound
  method_ok m g =
      refl
      then (and_both (le-leb h.actions m.task g.task_least) (lt-ltb m.task (h.actions + h.compounds) g.task_below), omega arith)
      then (
        le-leb (length m.subtasks) 32 g.few_subtasks,
        omega arith,
        below_ok (h.actions + h.compounds) m.subtasks (omega arith) g.subtasks_below,
      )
      then (le-leb (length m.constraints) 64 g.few_constraints, omega arith) then tt

  proposition_ok : (p : ℕ) → p < h.propositions → (ltb p h.propositions ≡ true) × Plain p
  proposition_ok p b = (lt-ltb p h.propositions b, omega (arith, most_plain))

  -- A set of subtasks is a plain number, as a method has at most 32 subtasks.
  subtasks_ok : (count : ℕ) → count ≤ 32 → (u : ℕ) → u < 2 ^ count → (ltb u (2 ^ count) ≡ true) × Plain u
  subtasks_ok count few u b =
      let p : 2 ^ count ≤ 2 ^ 32 = pow-le-pow_right {n = 2} (omega arith) {i = count} {j = 32} few in (lt-ltb u (2 ^ count) b, omega arith)

  pub constraint_ok : (count : ℕ) → count ≤ 32 → (c : Constraint) → GoodConstraint h count c → OkLine h count constraint (constraint_line c)
  unfolding OkLine constraint_line row_of table role_number in_range
  constraint_ok count few (O i j) (bi, bj, ne) =
      refl then (lt-ltb i count bi, omega arith) then (and_both (lt-ltb j count bj) (ap not (ne_eqb j i (λ e. ne (sym e)))), omega arith) then tt
  constraint_ok count few (B Positive p u) (bp, bu) = refl then proposition_ok p bp then subtasks_ok count few u bu then tt
  constraint_ok count few (B Negative p u) (bp, bu) = refl then proposition_ok p bp then subtasks_ok count few u bu then tt
  constraint_ok count few (F Positive p u) (bp, bu) = refl then proposition_ok p bp then subtasks_ok count few u bu then tt
  constraint_ok count few (F Negative p u) (bp, bu) = refl then proposition_ok p bp then subtasks_ok count few u bu then tt
  constraint_ok count few (W Positive u p v) (bu, bp, bv) =
      refl then subtasks_ok count few u bu then proposition_ok p bp then subtasks_ok count few v bv then tt
  constraint_ok count few (W Negative u p v) (bu, bp, bv) =
      refl then subtasks_ok count few u bu then proposition_ok p bp then subtasks_ok count few v bv then tt

  pub plan_ok : (cs : List ℕ) → length cs ≡ h.cues → Each (λ a. a < h.actions) cs → OkLine h 0 plan (cues_line cs)
  unfolding OkLine cues_line row_of table role_number in_range
  plan_ok cs n f = refl then (n, below_ok h.actions cs (omega arith) f) then tt

  pub node_ok : (x : NodeLine) → GoodNode h x → OkLine h 0 node (node_line x)
  unfolding OkLine node_line row_of table role_number in_range
  node_ok (D m) b = refl then (lt-ltb m h.methods b, omega arith) then tt
  node_ok (E m g) (bm, bg) = refl then (lt-ltb m h.methods bm, omega arith) then (le-leb g h.cues bg, omega arith) then tt
  node_ok (L a i) (ba, l, u) =
      refl then (lt-ltb a h.actions ba, omega arith) then (and_both (le-leb 1 i l) (le-leb i h.cues u), omega arith) then tt
