-- The index-based rules of a case, as statements and not as an order of tests (01, "States and cues", "Indexes" and "The tree"; 02, Card 1): what
-- acceptance means. Each is said apart from the test that the verdict makes; proofs/Statements shows the two equal. (What a cue needs and
-- leaves, proposition by proposition: proofs/Members.) Assumes nothing.
use Rattle.std.specs.Prelude.{◌≡◌, true, cond, ◌≢◌, ℕ, ◌+◌, ◌-◌, ◌≤◌, ◌<◌, eqb, length, get_or}
use mathlib.Core.List.{List, [], ◌∷◌, ◌++◌, map, Memᴰ as Mem}
use Rattle.rules.specs.declared.Sign.{Sign}
use Rattle.rules.specs.declared.Sign.TheVariants.{Positive, Negative}
use Rattle.rules.specs.State.{State, Action, member, applies, next, action_at, state_at}
use Rattle.rules.specs.Index.{Span, Part, part_of, only, c, f}
use Rattle.rules.specs.Case.{Constraint, O, B, F, W, method_at, NodeLine, D, E, L, Case}
use Rattle.rules.specs.Tree.{Tree, leaf, empty, task, Trees, no_tree, more, preorder, root_line}
use Rattle.rules.specs.Constraint.{constraints_of, parts_of}

-- ---- States and cues

-- The action of cue i + 1.
unfoldable pub cue_action : Case → ℕ → Action
cue_action k i = action_at k.actions (get_or k.plan i 0)

-- "State 0 is the initial one; state i follows cue i."
pub record AreStates (k : Case) (states : List State) : Type 0 where
  pub count : length states ≡ length k.plan + 1
  pub initial : state_at states 0 ≡ k.initial
  pub follows : (i : ℕ) → i < length k.plan → state_at states (i + 1) ≡ next (state_at states i) (cue_action k i)

-- Cue i + 1 applies in state i.
abbrev pub CueApplies : Case → List State → ℕ → Type 0
CueApplies k states i = applies (state_at states i) (cue_action k i) ≡ true

-- ---- The tree

-- "for a compound task one of its own methods"
pub record MethodOf (k : Case) (m t : ℕ) : Type 0 where
  pub there : m < length k.methods
  pub compound : k.head.actions ≤ t
  pub own : (method_at k.methods m).task ≡ t

-- "each node fits the task expected there (an action leaf for an action; for a compound task one of its own methods)", "method m, not
-- empty" for D and "empty method m" for E
unfoldable pub Fits : Case → NodeLine → ℕ → Type 0
Fits k (D m) t = MethodOf k m t × ((method_at k.methods m).subtasks ≢ [])
Fits k (E m g) t = MethodOf k m t × ((method_at k.methods m).subtasks ≡ [])
Fits k (L a i) t = (t < k.head.actions) × (a ≡ t)

-- "The tree is right if the root decomposes the goal, each node fits the task expected there"
unfoldable mutual
  pub FitsTask : Case → Tree → ℕ → Type 0
  FitsTask k (leaf a i) t = Fits k (L a i) t
  FitsTask k (empty m g) t = Fits k (E m g) t
  FitsTask k (task m ts) t = Fits k (D m) t × FitsTasks k ts (method_at k.methods m).subtasks

  pub FitsTasks : Case → Trees → List ℕ → Type 0
  FitsTasks k no_tree [] = Unit {0}
  FitsTasks k no_tree (t ∷ ts) = ⊥
  FitsTasks k (more x xs) [] = ⊥
  FitsTasks k (more x xs) (t ∷ ts) = FitsTask k x t × FitsTasks k xs ts

-- The actions of the leaves that claim position i.
unfoldable pub claim_of : ℕ → NodeLine → List ℕ
claim_of i (D m) = []
claim_of i (E m g) = []
claim_of i (L a j) = cond (eqb i j) (a ∷ []) []

unfoldable pub claimants : ℕ → List NodeLine → List ℕ
claimants i [] = []
claimants i (x ∷ xs) = claim_of i x ++ claimants i xs

-- ---- Constraints

-- p is in state l.
abbrev pub InState : List State → ℕ → ℕ → Type 0
InState states p l = member (state_at states l) p ≡ true

-- "The test "p holds in state l" therefore carries a sign" (02, Card 1): p is in state l, or it is not.
unfoldable pub HoldsIn : List State → Sign → ℕ → ℕ → Type 0
HoldsIn states Positive p l = InState states p l
HoldsIn states Negative p l = InState states p l → ⊥

-- "T before V holds if f(T) < c(V). before(p, U): p is in state c(U) - 1. after(p, U): p is in state f(U). between(U, p, V): p is in each
-- state l with f(U) ≤ l < c(V)". "b, f and w [..] ask that the proposition be false in the same states" (02, Card 1). At the span of each
-- part of the task that the constraint belongs to.
unfoldable pub Keeps : List State → (Part → Span) → Constraint → Type 0
Keeps states at (O i j) = f (at (only i)) < c (at (only j))
Keeps states at (B s p u) = HoldsIn states s p (c (at (part_of u)) - 1)
Keeps states at (F s p u) = HoldsIn states s p (f (at (part_of u)))
Keeps states at (W s u p v) = (l : ℕ) → f (at (part_of u)) ≤ l → l < c (at (part_of v)) → HoldsIn states s p l

-- ---- All of them

pub record Rules (k : Case) : Type 0 where
  -- "The plan runs from the initial state if each cue i applies in state i - 1."
  pub states : List State
  pub are : AreStates k states
  pub runs : (i : ℕ) → i < length k.plan → CueApplies k states i
  -- "and no line is over or lacking": the node lines are those of one tree.
  pub tree : Tree
  pub preordered : map root_line (preorder tree) ≡ k.nodes
  pub fitting : FitsTask k tree k.head.goal
  -- "Each position 1 to k is claimed by just one leaf, and that leaf's action is the cue there."
  pub claimed : (i : ℕ) → i < k.head.cues → claimants (i + 1) k.nodes ≡ get_or k.plan i 0 ∷ []
  -- Every constraint of every node's method holds.
  pub kept : (x : Tree) → Mem x (preorder tree) → (d : Constraint) → Mem d (constraints_of k x) → Keeps states (parts_of x) d
