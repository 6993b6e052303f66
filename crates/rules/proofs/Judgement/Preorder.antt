-- The lines of a tree in preorder, its levels, and what its leaves claim: all by recursion on the tree or on the lines.
use mathlib.Core.Path.{◌≡◌, refl}
use mathlib.Core.Bool.{true}
use mathlib.Core.List.{List, [], ◌∷◌, ◌++◌, map, map-append}
use Prim.Native.Nat.{ℕ, suc, ◌≤◌, max}
use Rattle.rules.specs.Case.{NodeLine, D, E, L, Case}
use Rattle.rules.specs.Tree.{Tree, leaf, empty, task, Trees, no_tree, more, preorder, preorders, root_line, ClaimTest, level_count}
use Rattle.rules.specs.Rules.{FitsTask}

abbrev pub lines_of : Tree → List NodeLine
lines_of x = map root_line (preorder x)

abbrev pub lines_of_all : Trees → List NodeLine
lines_of_all xs = map root_line (preorders xs)

pub lines_more : (x : Tree) (xs : Trees) → lines_of_all (more x xs) ≡ lines_of x ++ lines_of_all xs
unfolding preorders
lines_more x xs = map-append root_line (preorder x) (preorders xs)

-- How many levels a tree has.
unfoldable mutual
  pub height : Tree → ℕ
  height (leaf a i) = 1
  height (empty m g) = 1
  height (task m xs) = suc (heights xs)

  pub heights : Trees → ℕ
  heights no_tree = 0
  heights (more x xs) = max (height x) (heights xs)

-- ---- Claims, line by line

-- The positions claimed after a line, and whether its claim passes.
abbrev pub claim : NodeLine → List ℕ → List ℕ
claim (D m) c = c
claim (E m g) c = c
claim (L a i) c = i ∷ c

abbrev pub Passes : ClaimTest → NodeLine → List ℕ → Type 0
Passes ok (D m) c = Unit {0}
Passes ok (E m g) c = Unit {0}
Passes ok (L a i) c = ok a i c ≡ true

abbrev pub claimed_by : List NodeLine → List ℕ → List ℕ
claimed_by [] c = c
claimed_by (x ∷ xs) c = claimed_by xs (claim x c)

abbrev pub ClaimsPass : ClaimTest → List NodeLine → List ℕ → Type 0
ClaimsPass ok [] c = Unit {0}
ClaimsPass ok (x ∷ xs) c = Passes ok x c × ClaimsPass ok xs (claim x c)

pub claimed_append : (xs ys : List NodeLine) (c : List ℕ) → claimed_by (xs ++ ys) c ≡ claimed_by ys (claimed_by xs c)
claimed_append [] ys c = refl
claimed_append (x ∷ xs) ys c = claimed_append xs ys (claim x c)

module _ (ok : ClaimTest) where
  pub claims_join : (xs ys : List NodeLine) (c : List ℕ) → ClaimsPass ok xs c → ClaimsPass ok ys (claimed_by xs c) → ClaimsPass ok (xs ++ ys) c
  claims_join [] ys c f g = g
  claims_join (x ∷ xs) ys c f g = (f.0, claims_join xs ys (claim x c) f.1 g)

  pub claims_left : (xs ys : List NodeLine) (c : List ℕ) → ClaimsPass ok (xs ++ ys) c → ClaimsPass ok xs c
  claims_left [] ys c f = tt
  claims_left (x ∷ xs) ys c f = (f.0, claims_left xs ys (claim x c) f.1)

  pub claims_right : (xs ys : List NodeLine) (c : List ℕ) → ClaimsPass ok (xs ++ ys) c → ClaimsPass ok ys (claimed_by xs c)
  claims_right [] ys c f = f
  claims_right (x ∷ xs) ys c f = claims_right xs ys (claim x c) f.1

-- The node lines are those of a tree of at most 64 levels that fits the goal, and each leaf may claim its position.
pub record TreeOf (k : Case) (ok : ClaimTest) (t : Tree) : Type 0 where
  pub preordered : lines_of t ≡ k.nodes
  pub fitting : FitsTask k t k.head.goal
  pub shallow : height t ≤ level_count
  pub passing : ClaimsPass ok k.nodes []
