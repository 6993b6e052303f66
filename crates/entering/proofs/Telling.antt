-- What the parts of a node's tree and of its subtrees tell of their spans with every choice: the start is the least of the cues and the gaps
-- below, the end the greatest. Assumes nothing.
use mathlib.Core.Path.{◌≡◌, refl, sym, ap, ap₂, subst, ◌∙◌}
use mathlib.Core.Logic.{⊎_elim}
use mathlib.Core.Bool.{true, ◌&&◌}
use mathlib.Core.List.Memᴰ.{append_cases as in_either}
use mathlib.Core.List.{List, []}
use Prim.Native.Nat.{ℕ, zero, suc, ◌+◌, ◌≤◌, ◌<◌}
use native.Mathlib.Omega.{arith}
use borrow.Author.Tests.{leb-true, ltb-true, le-leb, lt-ltb}
use lib.Dec.{leb, ltb}
use lib.ListN.{length, get_or}
use Rattle.rules.specs.State.{bit}
use Rattle.rules.specs.Index.{Span}
use Rattle.rules.specs.Tree.{Tree, leaf, empty, task, Trees, no_tree, more, preorder, preorders, span, spans, subtask_spans}
use Rattle.rules.proofs.Judgement.Each.{Each, each_nil, each_cons, both_true}
use Rattle.rules.proofs.Judgement.Preorder.{lines_of}
use Rattle.rules.proofs.Gaps.Trees.{empties_in, empties_in_all, regapped, regapped_all, empties_lines}
use Rattle.constraints.proofs.Held.{subtrees_of, count_of}
use Rattle.gaps.specs.Sums.{in_run}
use Rattle.gaps.proofs.Spans.{ProperTree, ProperTrees, start_sums, end_sums}
use Rattle.entering.specs.declared.sums.Part.{Part}
use Rattle.entering.specs.Entering.{Tells}
use Rattle.entering.specs.Parts.{part_in, no_span, PartsTell}
use Rattle.entering.specs.Trees.{PartSays, PartsSaid}

-- ---- One tree

run_in : (a n s : ℕ) → in_run a n s ≡ true → (a ≤ s) × (s < a + n)
run_in a n s e = let b = both_true (leb a s) (ltb s (a + n)) e in (leb-true a s b.0, ltb-true s (a + n) b.1)

in_run_lem : (a n s : ℕ) → a ≤ s → s < a + n → in_run a n s ≡ true
in_run_lem a n s l h = ap₂ ◌&&◌ (le-leb a s l) (lt-ltb s (a + n) h)

module _ (x : Tree) {k a : ℕ} {p : Part} (w : PartSays k a (lines_of x) p) where
  taken : (s : ℕ) → bit p.set s ≡ true → (a ≤ s) × (s < a + empties_in x)
  taken s b = let r = run_in a _ s (sym (w.set s) ∙ b) in (r.0, omega (arith, r.1, empties_lines x))

  takes : (s : ℕ) → a ≤ s → s < a + empties_in x → bit p.set s ≡ true
  takes s l h = w.set s ∙ in_run_lem a _ s l (omega (arith, empties_lines x))

  pub tree_tells : (e : ℕ) → a + empties_in x ≤ e → ProperTree k x → Tells k e (λ gs. span (regapped gs a x)) p
  tree_tells e below proper =
      let low = w.low in
      let high = w.high in
      record {
        starts = λ gs c z.
            let i = start_sums k e a x gs c below proper z in (
              λ h. let q = i.0 h in (omega (arith, q.0), λ s b. let t = taken s b in q.1 s t.0 t.1),
              λ q. i.1 (omega (arith, q.0), λ s l h. q.1 s (takes s l h)),
            );
        ends = λ gs c z.
            let i = end_sums k e a x gs c below proper z in (
              λ h. let q = i.0 h in (omega (arith, q.0), λ s b. let t = taken s b in q.1 s t.0 t.1),
              λ q. i.1 (omega (arith, q.0), λ s l h. q.1 s (takes s l h)),
            );
      }

-- ---- The subtrees

module _ (k e : ℕ) (sums : List Part) where
  trees_tell : (a : ℕ) (xs : Trees) (i : ℕ) → PartsSaid k a xs sums i → a + empties_in_all xs ≤ e → ProperTrees k xs → (j : ℕ) → j < count_of xs
      → Tells k e (λ gs. get_or (spans (regapped_all gs a xs)) j no_span) (part_in sums (i + j))
  unfolding spans regapped empties_in ProperTree
  trees_tell a no_tree i w b p j h = absurd (omega arith)
  trees_tell a (more x xs) i w b p zero h =
      let same : i ≡ i + 0 = omega arith in
      subst (λ (m : ℕ). Tells k e (λ gs. span (regapped gs a x)) (part_in sums m)) same (tree_tells x w.0 e (omega arith) p.0)
  trees_tell a (more x xs) i w b p (suc j) h =
      let same : i + 1 + j ≡ i + suc j = omega arith in
      subst (λ (m : ℕ). Tells k e (λ gs. get_or (spans (regapped_all gs (a + empties_in x) xs)) j no_span) (part_in sums m)) same
      (trees_tell (a + empties_in x) xs (i + 1) w.1 (omega arith) p.1 j (omega arith))

spans_count : (gs : List ℕ) (a : ℕ) (xs : Trees) → length (spans (regapped_all gs a xs)) ≡ count_of xs
unfolding spans regapped
spans_count gs a no_tree = refl
spans_count gs a (more x xs) = ap suc (spans_count gs (a + empties_in x) xs)

subtrees_with : (gs : List ℕ) (a : ℕ) (x : Tree) → spans (regapped_all gs a (subtrees_of x)) ≡ subtask_spans (regapped gs a x)
unfolding spans regapped subtask_spans
subtrees_with gs a (leaf x i) = refl
subtrees_with gs a (empty m g) = refl
subtrees_with gs a (task m xs) = refl

pub subtrees_empties : (x : Tree) → empties_in_all (subtrees_of x) ≤ empties_in x
unfolding empties_in
subtrees_empties (leaf x i) = omega arith
subtrees_empties (empty m g) = omega arith
subtrees_empties (task m xs) = omega arith

subtrees_proper : (k : ℕ) (x : Tree) → ProperTree k x → ProperTrees k (subtrees_of x)
unfolding ProperTree
subtrees_proper k (leaf x i) p = tt
subtrees_proper k (empty m g) p = tt
subtrees_proper k (task m xs) p = p.1

-- The parts of a node and of its subtasks.
pub node_tells : {k a : ℕ} (e : ℕ) (x : Tree) {own : Part} (sums : List Part) → PartSays k a (lines_of x) own → PartsSaid k a (subtrees_of x) sums 0 → ProperTree k x
    → a + empties_in x ≤ e → count_of (subtrees_of x) ≤ 32
    → PartsTell k e (λ gs. span (regapped gs a x)) (λ gs. subtask_spans (regapped gs a x)) (count_of (subtrees_of x)) own sums
node_tells {k} {a} e x sums w v p b few =
    let less = subtrees_empties x in
    record {
      few = few;
      counted = λ gs. ap length (sym (subtrees_with gs a x)) ∙ spans_count gs a (subtrees_of x);
      whole = tree_tells x w e b p;
      each = λ j h.
          let first : 0 + j ≡ j = omega arith in
          subst (λ (m : ℕ). Tells k e (λ gs. get_or (subtask_spans (regapped gs a x)) j no_span) (part_in sums m)) first
          (subst (λ (at : List ℕ → List Span). Tells k e (λ gs. get_or (at gs) j no_span) (part_in sums (0 + j)))
          (λ i gs. subtrees_with gs a x i) (trees_tell k e sums a (subtrees_of x) 0 v (omega arith) (subtrees_proper k x p) j h));
    }

-- ---- The nodes of a tree

mutual
  unfolding preorder ProperTree

  pub proper_nodes : (k : ℕ) (x : Tree) → ProperTree k x → Each (ProperTree k) (preorder x)
  proper_nodes k (leaf x i) p = each_cons (ProperTree k) (leaf x i) [] p (each_nil (ProperTree k))
  proper_nodes k (empty m g) p = each_cons (ProperTree k) (empty m g) [] p (each_nil (ProperTree k))
  proper_nodes k (task m xs) p = each_cons (ProperTree k) (task m xs) (preorders xs) p (proper_nodes_all k xs p.1)

  proper_nodes_all : (k : ℕ) (xs : Trees) → ProperTrees k xs → Each (ProperTree k) (preorders xs)
  proper_nodes_all k no_tree p = each_nil (ProperTree k)
  proper_nodes_all k (more x xs) p = λ y m.
      ⊎_elim (λ i. proper_nodes k x p.0 y i) (λ i. proper_nodes_all k xs p.1 y i) (in_either (preorder x) m)
