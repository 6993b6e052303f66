-- The statements of Rules beside the tests of the verdict: each test is passed exactly where its statement holds, and the states of a case
-- are the only ones that follow its cues. Each test is split as it is written. Assumes nothing.
use mathlib.Core.Path.{◌≡◌, refl, sym, ◌∙◌, ap}
use mathlib.Core.Bool.{Bool, true, false, ◌&&◌, not, false≢true}
use mathlib.Core.List.{List, [], ◌∷◌}
use mathlib.Core.Logic.{◌↔◌, ◌≢◌}
use Prim.Native.Nat.{ℕ, zero, suc, ◌+◌, ◌-◌, ◌≤◌, ◌<◌}
use native.Mathlib.Numerals.{add-one}
use native.Mathlib.Omega.{arith}
use lib.Dec.{eqb, leb, ltb, eqb-suc-zero}
use lib.ListN.{length, get_or}
use lib.Seq.{ext_get_or}
use borrow.Author.Tests.{ltb-true, lt-ltb, leb-true, le-leb, eqb-true, eq-eqb}
use Rattle.rules.specs.declared.Sign.{Sign}
use Rattle.rules.specs.declared.Sign.TheVariants.{Positive, Negative}
use Rattle.rules.specs.State.{State, Action, member, action_at, next, states, state_at, no_propositions}
use Rattle.rules.specs.Index.{Span, Part, part_of, only, c, f, is_before}
use Rattle.rules.specs.Case.{Constraint, O, B, F, W, Method, method_at, NodeLine, D, E, L, Case}
use Rattle.rules.specs.Tree.{no_subtasks, is_method_of, of_task, right_letter}
use Rattle.rules.specs.Constraint.{signed, holds_in, holds_from, keeps}
use Rattle.rules.specs.Verdict.{states_of}
use Rattle.rules.specs.Rules.{cue_action, AreStates, MethodOf, Fits, InState, HoldsIn, Keeps}
use Rattle.rules.proofs.Tables.{and_left, and_right, and_both, every_at, every_of}

-- ---- Constraints

not_iff : (b : Bool) → (not b ≡ true) ↔ (b ≡ true → ⊥)
not_iff true = (λ e y. false≢true e, λ n. absurd (n refl))
not_iff false = (λ e y. false≢true y, λ n. refl)

-- The signed test, beside its statement.
pub holds_iff : (ss : List State) (s : Sign) (p l : ℕ) → (holds_in ss s p l ≡ true) ↔ HoldsIn ss s p l
unfolding holds_in signed HoldsIn
holds_iff ss Positive p l = (λ e. e, λ e. e)
holds_iff ss Negative p l = not_iff (member (state_at ss l) p)

pub keeps_iff : (ss : List State) (at : Part → Span) (d : Constraint) → (keeps (holds_in ss) at d ≡ true) ↔ Keeps ss at d
unfolding keeps Keeps holds_from is_before
keeps_iff ss at (O i j) = (ltb-true (f (at (only i))) (c (at (only j))), lt-ltb (f (at (only i))) (c (at (only j))))
keeps_iff ss at (B s p u) = holds_iff ss s p (c (at (part_of u)) - 1)
keeps_iff ss at (F s p u) = holds_iff ss s p (f (at (part_of u)))
keeps_iff ss at (W s u p v) =
    let first = f (at (part_of u)) in
    let past = c (at (part_of v)) in (
      λ e l lo hi. (holds_iff ss s p l).0 (every_at (past - first) first (λ m. holds_in ss s p m) e l lo (omega arith)),
      λ h. every_of (past - first) first (λ m. holds_in ss s p m) (λ l lo hi. (holds_iff ss s p l).1 (h l lo (omega arith))),
    )

-- ---- Signs: where a between asks about no state, both hold; over a mixed stretch both are broken.

pub no_state_kept : (ss : List State) (at : Part → Span) (s : Sign) (u p v : ℕ) → c (at (part_of v)) ≤ f (at (part_of u)) → Keeps ss at (W s u p v)
unfolding Keeps
no_state_kept ss at s u p v none = λ l lo hi. let z : ⊥ = omega arith in absurd z

-- State l is one that the between of U and V asks about.
abbrev Asked : (Part → Span) → ℕ → ℕ → ℕ → Type 0
Asked at u v l = (f (at (part_of u)) ≤ l) × (l < c (at (part_of v)))

pub mixed_broken : (ss : List State) (at : Part → Span) (s : Sign) (u p v : ℕ) {l m : ℕ} → Asked at u v l → Asked at u v m
    → InState ss p l → (InState ss p m → ⊥) → Keeps ss at (W s u p v) → ⊥
unfolding Keeps HoldsIn
mixed_broken ss at Positive u p v {m = m} i j y n k = n (k m j.0 j.1)
mixed_broken ss at Negative u p v {l = l} i j y n k = k l i.0 i.1 y

-- Of the two signs of a condition before or after, one is kept and the other broken.
pub one_broken : (ss : List State) (at : Part → Span) (p u : ℕ)
    → (Keeps ss at (B Negative p u) ↔ (Keeps ss at (B Positive p u) → ⊥)) × (Keeps ss at (F Negative p u) ↔ (Keeps ss at (F Positive p u) → ⊥))
unfolding Keeps HoldsIn
one_broken ss at p u = ((λ n. n, λ n. n), (λ n. n, λ n. n))

-- ---- Nodes

pub method_iff : (k : Case) (m t : ℕ) → (is_method_of k m t ≡ true) ↔ MethodOf k m t
unfolding is_method_of
method_iff k m t =
    let a = ltb m (length k.methods) in
    let b = leb k.head.actions t in
    let d = eqb (method_at k.methods m).task t in (
      λ e. record {
        there = ltb-true m (length k.methods) (and_left a (b && d) e);
        compound = leb-true k.head.actions t (and_left b d (and_right a (b && d) e));
        own = eqb-true (method_at k.methods m).task t (and_right b d (and_right a (b && d) e));
      },
      λ h. and_both (lt-ltb m (length k.methods) h.there)
          (and_both (le-leb k.head.actions t h.compound) (eq-eqb (method_at k.methods m).task t h.own)),
    )

pub none_iff : (m : Method) → (no_subtasks m ≡ true) ↔ (m.subtasks ≡ [])
unfolding no_subtasks
none_iff m = (λ e. go m.subtasks e, λ e. ap (λ (ts : List ℕ). eqb (length ts) 0) e)
  where
    go : (ts : List ℕ) → eqb (length ts) 0 ≡ true → ts ≡ []
    go [] e = refl
    go (t ∷ ts) e = absurd (false≢true (sym (eqb-suc-zero (length ts)) ∙ e))

pub some_iff : (m : Method) → (not (no_subtasks m) ≡ true) ↔ (m.subtasks ≢ [])
unfolding no_subtasks
some_iff m = (
  λ e q. false≢true (sym (ap not ((none_iff m).1 q)) ∙ e),
  λ n. go m.subtasks n,
)
  where
    go : (ts : List ℕ) → ts ≢ [] → not (eqb (length ts) 0) ≡ true
    go [] n = absurd (n refl)
    go (t ∷ ts) n = ap not (eqb-suc-zero (length ts))

both_iff : {A B : Type 0} (a b : Bool) → (a ≡ true) ↔ A → (b ≡ true) ↔ B → ((a && b) ≡ true) ↔ (A × B)
both_iff a b x y = (λ e. (x.0 (and_left a b e), y.0 (and_right a b e)), λ h. and_both (x.1 h.0) (y.1 h.1))

-- Both tests of a node: it is of the task, and its letter is right.
abbrev pub fits : Case → NodeLine → ℕ → Bool
fits k x t = of_task k x t && right_letter k x

pub fits_iff : (k : Case) (x : NodeLine) (t : ℕ) → (fits k x t ≡ true) ↔ Fits k x t
unfolding of_task right_letter Fits
fits_iff k (D m) t = both_iff (is_method_of k m t) (not (no_subtasks (method_at k.methods m))) (method_iff k m t) (some_iff (method_at k.methods m))
fits_iff k (E m g) t = both_iff (is_method_of k m t) (no_subtasks (method_at k.methods m)) (method_iff k m t) (none_iff (method_at k.methods m))
fits_iff k (L a i) t =
    let b = ltb t k.head.actions && eqb a t in
    let w = both_iff (ltb t k.head.actions) (eqb a t) (ltb-true t k.head.actions, lt-ltb t k.head.actions) (eqb-true a t, eq-eqb a t) in
    (λ e. w.0 (and_left b true e), λ h. and_both (w.1 h) refl)

-- ---- States

module _ (actions : List Action) where
  pub states_length : (plan : List ℕ) (s : State) → length (states actions plan s) ≡ length plan + 1
  unfolding states
  states_length [] s = refl
  states_length (a ∷ plan) s = let e = states_length plan (next s (action_at actions a)) in omega arith

  states_first : (plan : List ℕ) (s : State) → state_at (states actions plan s) 0 ≡ s
  unfolding states state_at
  states_first [] s = refl
  states_first (a ∷ plan) s = refl

  states_follow : (plan : List ℕ) (s : State) (i : ℕ) → i < length plan
      → state_at (states actions plan s) (suc i) ≡ next (state_at (states actions plan s) i) (action_at actions (get_or plan i 0))
  unfolding states state_at
  states_follow [] s i h = absurd (omega arith)
  states_follow (a ∷ plan) s zero h = states_first plan (next s (action_at actions a))
  states_follow (a ∷ plan) s (suc i) h = states_follow plan (next s (action_at actions a)) i (omega arith)

pub are_states : (k : Case) → AreStates k (states_of k)
unfolding states_of cue_action
are_states k = record {
  count = states_length k.actions k.plan k.initial;
  initial = states_first k.actions k.plan k.initial;
  follows = λ i h. rw add-one (states_follow k.actions k.plan k.initial i h);
}

pub states_unique : (k : Case) (ss ss' : List State) → AreStates k ss → AreStates k ss' → ss ≡ ss'
unfolding state_at
states_unique k ss ss' v w = ext_get_or no_propositions ss ss' (v.count ∙ sym w.count) same
  where
    same : (i : ℕ) → i < length ss → get_or ss i no_propositions ≡ get_or ss' i no_propositions
    same zero h = v.initial ∙ sym w.initial
    same (suc i) h =
        let b : i < length k.plan = let n = v.count in omega arith in
        let e = same i (omega arith) in
        let p : get_or ss (suc i) no_propositions ≡ next (get_or ss i no_propositions) (cue_action k i) = rw add-one at (v.follows i b) in
        let q : get_or ss' (suc i) no_propositions ≡ next (get_or ss' i no_propositions) (cue_action k i) = rw add-one at (w.follows i b) in
        p ∙ ap (λ (s : State). next s (cue_action k i)) e ∙ sym q
