-- The span of a tree with the gaps of a choice, by what its lines say whatever the gaps: its start is the least of its cues and its gaps,
-- its end the greatest. Said by bounds: what is at most the start is at most each of them. By recursion on the tree. Assumes nothing.
use mathlib.Core.Path.{◌≡◌, refl, sym, ap, subst, ◌∙◌}
use mathlib.Core.Logic.{◌↔◌, ◌≢◌, by_cases}
use mathlib.Core.List.{List, [], ◌∷◌, ◌++◌}
use mathlib.Core.List.Memᴰ.{append_left as in_left}
use mathlib.Core.List.Memᴰ.{append_right as in_right}
use mathlib.Core.List.Memᴰ.{head as here}
use Prim.Native.Nat.{ℕ, ◌+◌, ◌≤◌, ◌<◌, max}
use native.Mathlib.Decide.{dec_lt}
use native.Mathlib.Omega.{arith}
use lib.ListN.{get_or}
use Rattle.rules.specs.Index.{Span, at, of_cue, of_gap, greatest, hull}
use Rattle.rules.specs.Case.{method_at, NodeLine, D, E, L, Case}
use Rattle.rules.specs.Tree.{Tree, leaf, empty, task, Trees, no_tree, more, preorder, preorders, root_line, span, spans}
use Rattle.rules.specs.Rules.{Fits, FitsTask, FitsTasks}
use Rattle.rules.specs.Ranges.{GoodNode}
use Rattle.rules.specs.Gaps.{Within, Choice}
use Rattle.rules.proofs.Spans.{hull_one, hull_cons_start}
use Rattle.rules.proofs.Judgement.Each.{Each, each_tail}
use Rattle.rules.proofs.Judgement.Preorder.{lines_of, lines_of_all, lines_more}
use Rattle.rules.proofs.Gaps.Texts.{gap_within}
use Rattle.rules.proofs.Gaps.Trees.{empties_in, empties_in_all, regapped, regapped_all}
use Rattle.gaps.specs.Sums.{low_of, high_of}
use Rattle.gaps.proofs.Summing.{low_most}

-- ---- Trees whose spans are those of their cues and gaps

-- A task has a subtree.
abbrev pub SomeTree : Trees → Type 0
SomeTree no_tree = ⊥
SomeTree (more t ts) = Unit {0}

-- No task lacks subtrees, and no position is past the last of k.
unfoldable mutual
  pub ProperTree : ℕ → Tree → Type 0
  ProperTree k (leaf x i) = i ≤ k
  ProperTree k (empty m g) = Unit {0}
  ProperTree k (task m ts) = SomeTree ts × ProperTrees k ts

  pub ProperTrees : ℕ → Trees → Type 0
  ProperTrees k no_tree = Unit {0}
  ProperTrees k (more t ts) = ProperTree k t × ProperTrees k ts

abbrev GoodRoot : Case → Tree → Type 0
GoodRoot k y = GoodNode k.head (root_line y)

pub some_trees : (k : Case) (ts : Trees) (us : List ℕ) → us ≢ [] → FitsTasks k ts us → SomeTree ts
unfolding FitsTasks
some_trees k no_tree [] n w = absurd (n refl)
some_trees k no_tree (u ∷ us) n w = absurd w
some_trees k (more t ts) us n w = tt

mutual
  unfolding preorder FitsTask Fits root_line ProperTree

  pub proper_tree : (k : Case) (x : Tree) (u : ℕ) → Each (λ y. GoodNode k.head (root_line y)) (preorder x) → FitsTask k x u → ProperTree k.head.cues x
  proper_tree k (leaf x i) u g w = (g (leaf x i) (here refl)).2
  proper_tree k (empty m y) u g w = tt
  proper_tree k (task m ts) u g w =
      let us = (method_at k.methods m).subtasks in
      (some_trees k ts us w.0.1 w.1, proper_trees k ts us (each_tail (GoodRoot k) (task m ts) (preorders ts) g) w.1)

  pub proper_trees : (k : Case) (ts : Trees) (us : List ℕ) → Each (λ y. GoodNode k.head (root_line y)) (preorders ts) → FitsTasks k ts us
      → ProperTrees k.head.cues ts
  proper_trees k no_tree us g w = tt
  proper_trees k (more t ts) [] g w = absurd w
  proper_trees k (more t ts) (u ∷ us) g w =
      (proper_tree k t u (λ y m. g y (in_left (preorders ts) m)) w.0, proper_trees k ts us (λ y m. g y (in_right (preorder t) m)) w.1)

-- ---- The start

-- z is at most each cue of lines, and each of n gaps of a choice, from gap a on.
abbrev pub Least : ℕ → List ℕ → ℕ → ℕ → List NodeLine → ℕ → Type 0
Least k gs a n ns z = (z ≤ low_of k ns) × ((s : ℕ) → a ≤ s → s < a + n → z ≤ of_gap (get_or gs s 0))

low_both : (k : ℕ) (xs ys : List NodeLine) (z : ℕ) → z ≤ low_of k xs → z ≤ low_of k ys → z ≤ low_of k (xs ++ ys)
low_both k [] ys z a b = b
low_both k (D m ∷ xs) ys z a b = low_both k xs ys z a b
low_both k (E m g ∷ xs) ys z a b = low_both k xs ys z a b
low_both k (L x i ∷ xs) ys z a b = let h = low_both k xs ys z (omega arith) b in omega arith

low_left : (k : ℕ) (xs ys : List NodeLine) (z : ℕ) → z ≤ low_of k (xs ++ ys) → z ≤ low_of k xs
low_left k [] ys z h = omega (arith, low_most k ys)
low_left k (D m ∷ xs) ys z h = low_left k xs ys z h
low_left k (E m g ∷ xs) ys z h = low_left k xs ys z h
low_left k (L x i ∷ xs) ys z h = let r = low_left k xs ys z (omega arith) in omega arith

low_right : (k : ℕ) (xs ys : List NodeLine) (z : ℕ) → z ≤ low_of k (xs ++ ys) → z ≤ low_of k ys
low_right k [] ys z h = h
low_right k (D m ∷ xs) ys z h = low_right k xs ys z h
low_right k (E m g ∷ xs) ys z h = low_right k xs ys z h
low_right k (L x i ∷ xs) ys z h = low_right k xs ys z (omega arith)

-- What holds of n things from a on, and of m from there on, holds of n + m.
module _ (P : ℕ → Type 0) (a n m : ℕ) where
  both_runs : ((s : ℕ) → a ≤ s → s < a + n → P s) → ((s : ℕ) → a + n ≤ s → s < a + n + m → P s) → (s : ℕ) → a ≤ s → s < a + (n + m) → P s
  both_runs f g s l h = by_cases (dec_lt s (a + n)) (λ r. f s l r) (λ r. g s (omega arith) (omega arith))

  first_run : ((s : ℕ) → a ≤ s → s < a + (n + m) → P s) → (s : ℕ) → a ≤ s → s < a + n → P s
  first_run f s l h = f s l (omega arith)

  second_run : ((s : ℕ) → a ≤ s → s < a + (n + m) → P s) → (s : ℕ) → a + n ≤ s → s < a + n + m → P s
  second_run f s l h = f s (omega arith) (omega arith)

module _ (k : ℕ) (gs : List ℕ) (z : ℕ) where
  abbrev Above : ℕ → Type 0
  Above s = z ≤ of_gap (get_or gs s 0)

  -- The lines of two parts, one after the other.
  least_join : (a n m : ℕ) (xs ys : List NodeLine) → (Least k gs a n xs z × Least k gs (a + n) m ys z) ↔ Least k gs a (n + m) (xs ++ ys) z
  least_join a n m xs ys = (
    λ (p, q). (low_both k xs ys z p.0 q.0, both_runs Above a n m p.1 q.1),
    λ r.
        ((low_left k xs ys z r.0, first_run Above a n m r.1), (low_right k xs ys z r.0, second_run Above a n m r.1)),
  )

  least_trees : (a : ℕ) (t : Tree) (ts : Trees) → (Least k gs a (empties_in t) (lines_of t) z × Least k gs (a + empties_in t) (empties_in_all ts) (lines_of_all ts) z)
      ↔ Least k gs a (empties_in_all (more t ts)) (lines_of_all (more t ts)) z
  unfolding empties_in
  least_trees a t ts =
      subst (λ (l : List NodeLine). (Least k gs a (empties_in t) (lines_of t) z × Least k gs (a + empties_in t) (empties_in_all ts) (lines_of_all ts) z)
      ↔ Least k gs a (empties_in t + empties_in_all ts) l z) (sym (lines_more t ts))
      (least_join a (empties_in t) (empties_in_all ts) (lines_of t) (lines_of_all ts))

  -- No lines, no gaps: nothing more is asked than that z is at most the last gap.
  least_none : (a : ℕ) → z ≤ of_gap k → Least k gs a 0 [] z
  least_none a h = (h, λ s l r. absurd (omega arith))

  mutual
    unfolding regapped empties_in span preorder root_line ProperTree at of_cue of_gap

    start_least : (a : ℕ) (x : Tree) → Within k gs → ProperTree k x → (z ≤ (span (regapped gs a x)).start) ↔ Least k gs a (empties_in x) (lines_of x) z
    start_least a (leaf x i) w p = (λ h. (omega arith, λ s l r. absurd (omega arith)), λ h. omega (arith, h.0))
    start_least a (empty m g) w p = (
      λ h. (omega (arith, gap_within k gs a w), λ s l r. let e : s ≡ a = omega arith in omega (arith, ap (λ (i : ℕ). get_or gs i 0) e)),
      λ h. h.1 a (omega arith) (omega arith),
    )
    start_least a (task m ts) w p = starts_least a ts w p.0 p.1

    starts_least : (a : ℕ) (ts : Trees) → Within k gs → SomeTree ts → ProperTrees k ts
        → (z ≤ (hull (spans (regapped_all gs a ts))).start) ↔ Least k gs a (empties_in_all ts) (lines_of_all ts) z
    starts_least a no_tree w o p = absurd o
    starts_least a (more t no_tree) w o p =
        let one = start_least a t w p.0 in
        let is = ap (λ (s : Span). s.start) (hull_one (span (regapped gs a t))) in
        let both = least_trees a t no_tree in (
          λ h.
              let first = one.0 (omega (arith, is, h)) in
              both.0 (first, least_none (a + empties_in t) (omega (arith, low_most k (lines_of t), first.0))),
          λ h. omega (arith, is, one.1 (both.1 h).0),
        )
    starts_least a (more t (more u us)) w o p =
        let one = start_least a t w p.0 in
        let rest = starts_least (a + empties_in t) (more u us) w tt p.1 in
        let next = regapped_all gs (a + empties_in t + empties_in u) us in
        let is = hull_cons_start (span (regapped gs a t)) (span (regapped gs (a + empties_in t) u)) (spans next) in
        let both = least_trees a t (more u us) in (
          λ h. both.0 (one.0 (omega (arith, is, h)), rest.0 (omega (arith, is, h))),
          λ h. let r = both.1 h in omega (arith, is, one.1 r.0, rest.1 r.1),
        )

-- ---- The end

-- Each cue of lines is at most z, and each of n gaps of a choice, from gap a on.
abbrev pub Most : List ℕ → ℕ → ℕ → List NodeLine → ℕ → Type 0
Most gs a n ns z = (high_of ns ≤ z) × ((s : ℕ) → a ≤ s → s < a + n → of_gap (get_or gs s 0) ≤ z)

high_append : (xs ys : List NodeLine) → high_of (xs ++ ys) ≡ max (high_of xs) (high_of ys)
high_append [] ys = omega arith
high_append (D m ∷ xs) ys = high_append xs ys
high_append (E m g ∷ xs) ys = high_append xs ys
high_append (L x i ∷ xs) ys = let h = high_append xs ys in omega arith

module _ (gs : List ℕ) (z : ℕ) where
  abbrev Below : ℕ → Type 0
  Below s = of_gap (get_or gs s 0) ≤ z

  most_trees : (a : ℕ) (t : Tree) (ts : Trees) → (Most gs a (empties_in t) (lines_of t) z × Most gs (a + empties_in t) (empties_in_all ts) (lines_of_all ts) z)
      ↔ Most gs a (empties_in_all (more t ts)) (lines_of_all (more t ts)) z
  unfolding empties_in
  most_trees a t ts =
      let n = empties_in t in
      let m = empties_in_all ts in
      let high = ap high_of (lines_more t ts) ∙ high_append (lines_of t) (lines_of_all ts) in (
        λ (p, q). (omega (arith, p.0, q.0), both_runs Below a n m p.1 q.1),
        λ r. ((omega (arith, r.0), first_run Below a n m r.1), (omega (arith, r.0), second_run Below a n m r.1)),
      )

  mutual
    unfolding regapped empties_in span spans preorder root_line at of_cue of_gap hull greatest

    end_most : (a : ℕ) (x : Tree) → ((span (regapped gs a x)).end ≤ z) ↔ Most gs a (empties_in x) (lines_of x) z
    end_most a (leaf x i) = (λ h. (omega arith, λ s l r. absurd (omega arith)), λ h. omega (arith, h.0))
    end_most a (empty m g) = (
      λ h. (omega arith, λ s l r. let e : s ≡ a = omega arith in omega (arith, ap (λ (i : ℕ). get_or gs i 0) e)),
      λ h. h.1 a (omega arith) (omega arith),
    )
    end_most a (task m ts) = ends_most a ts

    ends_most : (a : ℕ) (ts : Trees) → ((hull (spans (regapped_all gs a ts))).end ≤ z) ↔ Most gs a (empties_in_all ts) (lines_of_all ts) z
    ends_most a no_tree = (λ h. (omega arith, λ s l r. absurd (omega arith)), λ h. omega arith)
    ends_most a (more t ts) =
        let one = end_most a t in
        let rest = ends_most (a + empties_in t) ts in
        let both = most_trees a t ts in (
          λ h. both.0 (one.0 (omega (arith, h)), rest.0 (omega (arith, h))),
          λ h. let r = both.1 h in omega (arith, one.1 r.0, rest.1 r.1),
        )

-- ---- Of a choice

module _ (k e a : ℕ) where
  pub start_sums : (x : Tree) (gs : List ℕ) → Choice k e gs → a + empties_in x ≤ e → ProperTree k x → (z : ℕ)
      → (z ≤ (span (regapped gs a x)).start) ↔ ((z ≤ low_of k (lines_of x)) × ((s : ℕ) → a ≤ s → s < a + empties_in x → z ≤ of_gap (get_or gs s 0)))
  start_sums x gs c r p z = start_least k gs z a x c.1 p

  pub end_sums : (x : Tree) (gs : List ℕ) → Choice k e gs → a + empties_in x ≤ e → ProperTree k x → (z : ℕ)
      → ((span (regapped gs a x)).end ≤ z) ↔ ((high_of (lines_of x) ≤ z) × ((s : ℕ) → a ≤ s → s < a + empties_in x → of_gap (get_or gs s 0) ≤ z))
  end_sums x gs c r p z = end_most gs z a x

  pub starts_sums : (ts : Trees) (gs : List ℕ) → Choice k e gs → a + empties_in_all ts ≤ e → SomeTree ts → ProperTrees k ts → (z : ℕ)
      → (z ≤ (hull (spans (regapped_all gs a ts))).start)
      ↔ ((z ≤ low_of k (lines_of_all ts)) × ((s : ℕ) → a ≤ s → s < a + empties_in_all ts → z ≤ of_gap (get_or gs s 0)))
  starts_sums ts gs c r o p z = starts_least k gs z a ts c.1 o p

  pub ends_sums : (ts : Trees) (gs : List ℕ) → Choice k e gs → a + empties_in_all ts ≤ e → SomeTree ts → ProperTrees k ts → (z : ℕ)
      → ((hull (spans (regapped_all gs a ts))).end ≤ z)
      ↔ ((high_of (lines_of_all ts) ≤ z) × ((s : ℕ) → a ≤ s → s < a + empties_in_all ts → of_gap (get_or gs s 0) ≤ z))
  ends_sums ts gs c r o p z = ends_most gs z a ts
