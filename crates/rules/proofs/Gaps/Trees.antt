-- A tree with other gaps: its empty tasks take the gaps of a choice in turn, in preorder, and it is the tree of the case with those gaps,
-- as neither what fits nor what is claimed goes by a gap. Assumes nothing.
use mathlib.Core.Path.{◌≡◌, refl, sym, ap, ap₂, ◌∙◌, subst}
use mathlib.Core.List.{List, [], ◌∷◌, ◌++◌}
use Prim.Native.Nat.{ℕ, suc, ◌+◌, ◌≤◌, max}
use native.Mathlib.Omega.{arith}
use lib.ListN.{get_or}
use Rattle.rules.specs.Case.{method_at, NodeLine, D, E, L, Case}
use Rattle.rules.specs.Tree.{Tree, leaf, empty, task, Trees, no_tree, more, preorder, root_line, ClaimTest, level_count}
use Rattle.rules.specs.Rules.{MethodOf, Fits, FitsTask, FitsTasks}
use Rattle.rules.specs.Gaps.{empty_count, with_gaps, case_with}
use Rattle.rules.proofs.Judgement.Preorder.{lines_of, lines_of_all, lines_more, height, heights, ClaimsPass, TreeOf}

-- How many empty tasks a tree has.
unfoldable mutual
  pub empties_in : Tree → ℕ
  empties_in (leaf x i) = 0
  empties_in (empty m g) = 1
  empties_in (task m ts) = empties_in_all ts

  pub empties_in_all : Trees → ℕ
  empties_in_all no_tree = 0
  empties_in_all (more t ts) = empties_in t + empties_in_all ts

-- The tree whose first empty task has gap a of a choice.
unfoldable mutual
  pub regapped : List ℕ → ℕ → Tree → Tree
  regapped gs a (leaf x i) = leaf x i
  regapped gs a (empty m g) = empty m (get_or gs a 0)
  regapped gs a (task m ts) = task m (regapped_all gs a ts)

  pub regapped_all : List ℕ → ℕ → Trees → Trees
  regapped_all gs a no_tree = no_tree
  regapped_all gs a (more t ts) = more (regapped gs a t) (regapped_all gs (a + empties_in t) ts)

-- ---- Lines

pub empty_append : (xs ys : List NodeLine) → empty_count (xs ++ ys) ≡ empty_count xs + empty_count ys
empty_append [] ys = omega arith
empty_append (D m ∷ xs) ys = empty_append xs ys
empty_append (E m g ∷ xs) ys = let h = empty_append xs ys in omega arith
empty_append (L x i ∷ xs) ys = empty_append xs ys

pub gaps_append : (gs : List ℕ) (a : ℕ) (xs ys : List NodeLine)
    → with_gaps gs a (xs ++ ys) ≡ with_gaps gs a xs ++ with_gaps gs (a + empty_count xs) ys
gaps_append gs a [] ys = let e : a ≡ a + 0 = omega arith in ap (λ (n : ℕ). with_gaps gs n ys) e
gaps_append gs a (D m ∷ xs) ys = ap (λ (l : List NodeLine). D m ∷ l) (gaps_append gs a xs ys)
gaps_append gs a (E m g ∷ xs) ys =
    let e : suc a + empty_count xs ≡ a + suc (empty_count xs) = omega arith in
    ap (λ (l : List NodeLine). E m (get_or gs a 0) ∷ l)
    (gaps_append gs (suc a) xs ys ∙ ap (λ (n : ℕ). with_gaps gs (suc a) xs ++ with_gaps gs n ys) e)
gaps_append gs a (L x i ∷ xs) ys = ap (λ (l : List NodeLine). L x i ∷ l) (gaps_append gs a xs ys)

mutual
  unfolding empties_in preorder root_line

  pub empties_lines : (x : Tree) → empty_count (lines_of x) ≡ empties_in x
  empties_lines (leaf x i) = refl
  empties_lines (empty m g) = refl
  empties_lines (task m ts) = empties_lines_all ts

  pub empties_lines_all : (xs : Trees) → empty_count (lines_of_all xs) ≡ empties_in_all xs
  empties_lines_all no_tree = refl
  empties_lines_all (more x xs) =
      let h = empties_lines x in
      let r = empties_lines_all xs in
      ap empty_count (lines_more x xs) ∙ empty_append (lines_of x) (lines_of_all xs) ∙ ap₂ ◌+◌ h r

mutual
  unfolding regapped preorder root_line

  pub lines_with : (gs : List ℕ) (a : ℕ) (x : Tree) → lines_of (regapped gs a x) ≡ with_gaps gs a (lines_of x)
  lines_with gs a (leaf x i) = refl
  lines_with gs a (empty m g) = refl
  lines_with gs a (task m ts) = ap (λ (l : List NodeLine). D m ∷ l) (lines_with_all gs a ts)

  pub lines_with_all : (gs : List ℕ) (a : ℕ) (xs : Trees) → lines_of_all (regapped_all gs a xs) ≡ with_gaps gs a (lines_of_all xs)
  lines_with_all gs a no_tree = refl
  lines_with_all gs a (more x xs) =
      let h = lines_with gs a x in
      let r = lines_with_all gs (a + empties_in x) xs in
      let n = ap (λ (m : ℕ). with_gaps gs (a + m) (lines_of_all xs)) (sym (empties_lines x)) in
      lines_more (regapped gs a x) (regapped_all gs (a + empties_in x) xs) ∙ ap₂ ◌++◌ h (r ∙ n)
      ∙ sym (ap (λ (l : List NodeLine). with_gaps gs a l) (lines_more x xs) ∙ gaps_append gs a (lines_of x) (lines_of_all xs))

-- ---- Levels and claims

mutual
  unfolding regapped height

  pub height_with : (gs : List ℕ) (a : ℕ) (x : Tree) → height (regapped gs a x) ≡ height x
  height_with gs a (leaf x i) = refl
  height_with gs a (empty m g) = refl
  height_with gs a (task m ts) = ap suc (heights_with gs a ts)

  pub heights_with : (gs : List ℕ) (a : ℕ) (xs : Trees) → heights (regapped_all gs a xs) ≡ heights xs
  heights_with gs a no_tree = refl
  heights_with gs a (more x xs) = ap₂ max (height_with gs a x) (heights_with gs (a + empties_in x) xs)

pub passes_with : (ok : ClaimTest) (gs : List ℕ) (a : ℕ) (xs : List NodeLine) (c : List ℕ) → ClaimsPass ok xs c → ClaimsPass ok (with_gaps gs a xs) c
passes_with ok gs a [] c p = tt
passes_with ok gs a (D m ∷ xs) c p = (tt, passes_with ok gs a xs c p.1)
passes_with ok gs a (E m g ∷ xs) c p = (tt, passes_with ok gs (suc a) xs c p.1)
passes_with ok gs a (L x i ∷ xs) c p = (p.0, passes_with ok gs a xs (i ∷ c) p.1)

-- ---- What fits

module _ (k : Case) (gs : List ℕ) where
  method_with : (m t : ℕ) → MethodOf k m t → MethodOf (case_with gs k) m t
  unfolding case_with
  method_with m t w = record { there = w.there; compound = w.compound; own = w.own }

  mutual
    unfolding FitsTask FitsTasks Fits regapped case_with

    pub fits_with : (a : ℕ) (x : Tree) (t : ℕ) → FitsTask k x t → FitsTask (case_with gs k) (regapped gs a x) t
    fits_with a (leaf x i) t w = w
    fits_with a (empty m g) t w = (method_with m t w.0, w.1)
    fits_with a (task m xs) t w = ((method_with m t w.0.0, w.0.1), fits_with_all a xs (method_at k.methods m).subtasks w.1)

    pub fits_with_all : (a : ℕ) (xs : Trees) (ts : List ℕ) → FitsTasks k xs ts → FitsTasks (case_with gs k) (regapped_all gs a xs) ts
    fits_with_all a no_tree [] w = tt
    fits_with_all a no_tree (t ∷ ts) w = w
    fits_with_all a (more x xs) [] w = w
    fits_with_all a (more x xs) (t ∷ ts) w = (fits_with a x t w.0, fits_with_all (a + empties_in x) xs ts w.1)

-- The tree of a case, with other gaps, is that of the case with those gaps.
pub tree_with : (k : Case) (ok : ClaimTest) (t : Tree) (gs : List ℕ) → TreeOf k ok t → TreeOf (case_with gs k) ok (regapped gs 0 t)
unfolding case_with
tree_with k ok t gs w = record {
  preordered = lines_with gs 0 t ∙ ap (λ (l : List NodeLine). with_gaps gs 0 l) w.preordered;
  fitting = fits_with k gs 0 t k.head.goal w.fitting;
  shallow = subst (λ (n : ℕ). n ≤ level_count) (sym (height_with gs 0 t)) w.shallow;
  passing = passes_with ok gs 0 k.nodes [] w.passing;
}
