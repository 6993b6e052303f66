-- The first constraint that is broken, if any: by recursion on a node's constraints and on the nodes, each is tried only after all before
-- it have held.
use mathlib.Core.Path.{◌≡◌, refl, sym, ◌∙◌, ap}
use mathlib.Core.Bool.{Bool, true, false, false≢true}
use mathlib.Core.List.{List, [], ◌∷◌}
use mathlib.Core.Option.{Option, none, some}
use Prim.Native.Nat.{ℕ, suc, ◌+◌}
use native.Mathlib.Omega.{arith}
use lib.ListN.{length}
use Rattle.rules.specs.declared.Answer.{Answer}
use Rattle.rules.specs.State.{State}
use Rattle.rules.specs.Index.{Part, Span}
use Rattle.rules.specs.Case.{Constraint, Case}
use Rattle.rules.specs.Tree.{Tree}
use Rattle.rules.specs.Constraint.{holds_in, keeps, constraints_of, parts_of, broken_at, first_broken_of, or_else, first_broken}
use Rattle.rules.specs.Rules.{Keeps}
use Rattle.rules.specs.Refusals.{KeepsAll, BreaksOne}
use Rattle.rules.proofs.Statements.{keeps_iff}
use Rattle.rules.proofs.Judgement.Each.{Each, each_nil, each_cons, First, first_here, first_later, first_in}

-- A constraint is broken at the parts of a task.
abbrev Breaks : List State → (Part → Span) → Constraint → Type 0
Breaks ss at d = Keeps ss at d → ⊥

breaks : (ss : List State) (at : Part → Span) (d : Constraint) → keeps (holds_in ss) at d ≡ false → Breaks ss at d
breaks ss at d e h = false≢true (sym e ∙ (keeps_iff ss at d).1 h)

-- Of one task's constraints, counted from n: all hold; or the first that is broken.
abbrev BrokenOfSays : List State → (Part → Span) → ℕ → ℕ → List Constraint → Option Answer → Type 0
BrokenOfSays ss at line n ds none = Each (Keeps ss at) ds
BrokenOfSays ss at line n ds (some r) = (w : First (Keeps ss at) (Breaks ss at) ds) × (r ≡ broken_at line (n + length w.before) w.it)

broken_of_says : (ss : List State) (at : Part → Span) (line n : ℕ) (ds : List Constraint)
    → BrokenOfSays ss at line n ds (first_broken_of (holds_in ss) at line n ds)
broken_of_says ss at line n [] = each_nil (Keeps ss at)
broken_of_says ss at line n (d ∷ ds) =
    go (keeps (holds_in ss) at d) refl (first_broken_of (holds_in ss) at line (n + 1) ds) (broken_of_says ss at line (n + 1) ds)
  where
    later : Keeps ss at d → (o : Option Answer) → BrokenOfSays ss at line (n + 1) ds o → BrokenOfSays ss at line n (d ∷ ds) o
    later e none f = each_cons (Keeps ss at) d ds e f
    later e (some r) w =
        let q : n + 1 + length w.0.before ≡ n + suc (length w.0.before) = omega arith in
        (first_later d ds e w.0, w.1 ∙ ap (λ (m : ℕ). broken_at line m w.0.it) q)

    go : (b : Bool) → keeps (holds_in ss) at d ≡ b → (o : Option Answer) → BrokenOfSays ss at line (n + 1) ds o
        → BrokenOfSays ss at line n (d ∷ ds) (elim b [ true ↦ o | false ↦ some (broken_at line n d) ])
    go true e o f = later ((keeps_iff ss at d).0 e) o f
    go false e o f = let q : n ≡ n + 0 = omega arith in (first_here d ds (breaks ss at d e), ap (λ (m : ℕ). broken_at line m d) q)

-- Of trees whose roots stand from a line on: all constraints hold; or the first that is broken.
abbrev pub BrokenSays : Case → List State → ℕ → List Tree → Option Answer → Type 0
BrokenSays k ss line ts none = Each (KeepsAll k ss) ts
BrokenSays k ss line ts (some r) =
    (w : First (KeepsAll k ss) (BreaksOne k ss) ts) × (r ≡ broken_at (line + length w.before) (length w.bad.before) w.bad.it)

pub broken_says : (k : Case) (ss : List State) (line : ℕ) (ts : List Tree) → BrokenSays k ss line ts (first_broken k (holds_in ss) line ts)
unfolding first_broken
broken_says k ss line [] = each_nil (KeepsAll k ss)
broken_says k ss line (t ∷ ts) =
    go (first_broken_of (holds_in ss) (parts_of t) line 0 (constraints_of k t)) (broken_of_says ss (parts_of t) line 0 (constraints_of k t))
    (first_broken k (holds_in ss) (line + 1) ts) (broken_says k ss (line + 1) ts)
  where
    later : KeepsAll k ss t → (o : Option Answer) → BrokenSays k ss (line + 1) ts o → BrokenSays k ss line (t ∷ ts) o
    later e none f = each_cons (KeepsAll k ss) t ts e f
    later e (some r) w =
        let q : line + 1 + length w.0.before ≡ line + suc (length w.0.before) = omega arith in
        (first_later t ts e w.0, w.1 ∙ ap (λ (m : ℕ). broken_at m (length w.0.bad.before) w.0.bad.it) q)

    go : (o : Option Answer) → BrokenOfSays ss (parts_of t) line 0 (constraints_of k t) o → (o' : Option Answer)
        → BrokenSays k ss (line + 1) ts o' → BrokenSays k ss line (t ∷ ts) (or_else o o')
    go none f o' g = later f o' g
    go (some r) w o' g =
        let p : line ≡ line + 0 = omega arith in
        let q : 0 + length w.0.before ≡ length w.0.before = omega arith in
        (first_here t ts w.0, w.1 ∙ (λ j. broken_at (p j) (q j) w.0.it))

pub none_broken_lem : (k : Case) (ss : List State) (line : ℕ) (ts : List Tree) → Each (KeepsAll k ss) ts → first_broken k (holds_in ss) line ts ≡ none
none_broken_lem k ss line ts f = go (first_broken k (holds_in ss) line ts) (broken_says k ss line ts)
  where
    go : (o : Option Answer) → BrokenSays k ss line ts o → o ≡ none
    go none w = refl
    go (some r) (w, q) =
        absurd (w.bad.bad (f w.it (first_in ts w) w.bad.it (first_in (constraints_of k w.it) w.bad)))
