-- What a constraint means, and the first that is broken (01, "Indexes" and rows 10 to 13 of its table; 02, Card 1). Assumes nothing.
use Rattle.std.specs.Prelude.{Bool, true, false, not, List, [], ◌∷◌, ℕ, ◌+◌, ◌-◌}
use Rattle.std.proofs.Math.Option.{Option, none, some}
use Rattle.rules.specs.declared.Answer.{Answer}
use Rattle.rules.specs.declared.Answer.TheVariants.{OrderBroken, BeforeBroken, AfterBroken, BetweenBroken}
use Rattle.rules.specs.declared.Sign.{Sign}
use Rattle.rules.specs.declared.Sign.TheVariants.{Positive, Negative}
use Rattle.rules.specs.State.{State, member, every, state_at}
use Rattle.rules.specs.Index.{Span, Part, part_of, only, span_of_part, c, f, is_before}
use Rattle.rules.specs.Case.{Constraint, O, B, F, W, method_at, Case}
use Rattle.rules.specs.Tree.{Tree, leaf, empty, task, span, subtask_spans}

-- "The test "p holds in state l" therefore carries a sign" (02, Card 1): whether proposition p is in state l, or whether it is not.
abbrev pub Holds : Type 0
Holds = Sign → ℕ → ℕ → Bool

-- A test with a sign.
unfoldable pub signed : Sign → Bool → Bool
signed Positive holds = holds
signed Negative holds = not holds

unfoldable pub holds_in : List State → Holds
holds_in states s p l = signed s (member (state_at states l) p)

-- The signed test of p holds in each state l with first ≤ l < past; "no such l, then it holds".
unfoldable pub holds_from : Holds → Sign → ℕ → ℕ → ℕ → Bool
holds_from holds s p first past = every (past - first) first (λ l. holds s p l)

-- "T before V holds if f(T) < c(V). before(p, U): p is in state c(U) - 1. after(p, U): p is in state f(U). between(U, p, V): p is in each
-- state l with f(U) ≤ l < c(V); no such l, then it holds." "b, f and w [..] ask that the proposition be false in the same states" (02, Card
-- 1). At the span of each part of the task that the constraint belongs to.
unfoldable pub keeps : Holds → (Part → Span) → Constraint → Bool
keeps holds at (O i j) = is_before (at (only i)) (at (only j))
keeps holds at (B s p u) = holds s p (c (at (part_of u)) - 1)
keeps holds at (F s p u) = holds s p (f (at (part_of u)))
keeps holds at (W s u p v) = holds_from holds s p (f (at (part_of u))) (c (at (part_of v)))

-- The constraints that a tree's root brings: those of its method.
unfoldable pub constraints_of : Case → Tree → List Constraint
constraints_of k (leaf a i) = []
constraints_of k (empty m g) = (method_at k.methods m).constraints
constraints_of k (task m ts) = (method_at k.methods m).constraints

-- The spans of the parts of a tree's root.
unfoldable pub parts_of : Tree → Part → Span
parts_of t part = span_of_part (span t) (subtask_spans t) part

-- "first broken O, B, F, W": 10, 11, 12, 13. "Broken ones give 11, 12 and 13" (02, Card 1), whatever the sign.
unfoldable pub broken_at : ℕ → ℕ → Constraint → Answer
broken_at line number (O i j) = OrderBroken line number
broken_at line number (B s p u) = BeforeBroken line number
broken_at line number (F s p u) = AfterBroken line number
broken_at line number (W s u p v) = BetweenBroken line number

-- "each method's in text order", from constraint `number` on.
abbrev pub first_broken_of : Holds → (Part → Span) → ℕ → ℕ → List Constraint → Option Answer
first_broken_of holds at line number [] = none
first_broken_of holds at line number (d ∷ ds) =
    elim (keeps holds at d) [ true ↦ first_broken_of holds at line (number + 1) ds | false ↦ some (broken_at line number d) ]

abbrev pub or_else : Option Answer → Option Answer → Option Answer
or_else none later = later
or_else (some r) later = some r

-- "constraints, nodes in order": the trees, in preorder, whose roots stand from a line on.
unfoldable pub first_broken : Case → Holds → ℕ → List Tree → Option Answer
first_broken k holds line [] = none
first_broken k holds line (t ∷ ts) =
    or_else (first_broken_of holds (parts_of t) line 0 (constraints_of k t)) (first_broken k holds (line + 1) ts)
