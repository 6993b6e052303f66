-- What makes the check refuse the text with other gaps: it is too long; or a constraint is broken in the tree with those gaps, which is the
-- only tree that its check could find. Assumes nothing.
use mathlib.Core.Path.{◌≡◌, refl, sym, ap, ◌∙◌, subst}
use mathlib.Core.Bool.{false, false≢true}
use mathlib.Core.List.{List, Memᴰ as Mem}
use Prim.Native.Nat.{ℕ, ◌≤◌, ◌<◌}
use native.Mathlib.Omega.{arith}
use lib.ListN.{length}
use Rattle.rules.specs.State.{State}
use Rattle.rules.specs.Result.{found}
use Rattle.rules.specs.Case.{Constraint, Case, read_case}
use Rattle.rules.specs.Tree.{Tree, leaf, empty, task, preorder, may_claim, walk_tree}
use Rattle.rules.specs.Constraint.{holds_in, keeps, constraints_of, parts_of}
use Rattle.rules.specs.Verdict.{Found, Lent, text_most, states_of, check}
use Rattle.rules.specs.Rules.{Keeps}
use Rattle.rules.specs.Gaps.{ChoiceOf, case_with, text_with}
use Rattle.rules.proofs.Statements.{keeps_iff}
use Rattle.rules.proofs.Judgement.Walk.{walk_shows}
use Rattle.rules.proofs.Judgement.WalkFinds.{tree_unique}
use Rattle.rules.proofs.Judgement.Refusals.{Accepts, CheckSays, check_says}
use Rattle.rules.proofs.Gaps.Trees.{regapped, tree_with}
use Rattle.rules.proofs.Gaps.Texts.{reads_with}

-- What is found has passed all rows.
passed : (lists : List Lent) (text : List ℕ) (k : Case) (t : Tree) → check lists text ≡ found (k, t) → Accepts lists text k t
passed lists text k t e = subst (λ (f : Found Tree). CheckSays lists text f) e (check_says lists text)

pub long_fails : (lists : List Lent) (k : Case) (gs : List ℕ) → text_most < length (text_with gs k) → (x : Case × Tree) → check lists (text_with gs k) ≡ found x
    → ⊥
long_fails lists k gs h (l, t) e =
    let s : length (text_with gs k) ≤ text_most = (passed lists (text_with gs k) l t e).covered.grown.runs.reads.admits.short_text in
    omega arith

-- ---- The gaps change neither the methods nor the states.

pub constraints_with : (gs : List ℕ) (k : Case) (x : Tree) → constraints_of (case_with gs k) x ≡ constraints_of k x
unfolding constraints_of case_with
constraints_with gs k (leaf a i) = refl
constraints_with gs k (empty m g) = refl
constraints_with gs k (task m ts) = refl

pub states_with : (gs : List ℕ) (k : Case) → states_of (case_with gs k) ≡ states_of k
unfolding states_of case_with
states_with gs k = refl

module _ (lists : List Lent) (text : List ℕ) (k : Case) (t : Tree) (claimed gs : List ℕ) (reading : read_case text ≡ found k)
    (walk : walk_tree k (may_claim k.plan) ≡ found (t, claimed)) (choice : ChoiceOf k gs) where
  -- If the text with other gaps is accepted, then as the case with those gaps.
  same_case : (l : Case) (u : Tree) → check lists (text_with gs k) ≡ found (l, u) → l ≡ case_with gs k
  same_case l u e =
      let r = (passed lists (text_with gs k) l u e).covered.grown.runs.reads.reading in
      let q = reads_with text k gs reading choice in
      cc

  -- And with the tree with those gaps.
  same_tree : (u : Tree) → check lists (text_with gs k) ≡ found (case_with gs k, u) → u ≡ regapped gs 0 t
  same_tree u e =
      let a = (passed lists (text_with gs k) (case_with gs k) u e).covered.grown in
      let w = tree_with k (may_claim k.plan) t gs (walk_shows k (may_claim k.plan) t claimed walk).0 in
      tree_unique (case_with gs k) (case_with gs k).head.goal u (regapped gs 0 t) (a.preordered ∙ sym w.preordered) a.fitting w.fitting

  pub accepted_with : (x : Case × Tree) → check lists (text_with gs k) ≡ found x → x ≡ (case_with gs k, regapped gs 0 t)
  accepted_with (l, u) e =
      let p = same_case l u e in
      let f : check lists (text_with gs k) ≡ found (case_with gs k, u) = e ∙ ap (λ (c : Case). found (c, u)) p in
      let q = same_tree u f in
      λ j. (p j, q j)

  -- So every constraint of that tree is kept.
  pub breaks_fails : (x : Tree) → Mem x (preorder (regapped gs 0 t)) → (d : Constraint) → Mem d (constraints_of k x)
      → keeps (holds_in (states_of k)) (parts_of x) d ≡ false → (y : Case × Tree) → check lists (text_with gs k) ≡ found y → ⊥
  breaks_fails x m d i broken y e =
      let f : check lists (text_with gs k) ≡ found (case_with gs k, regapped gs 0 t) = e ∙ ap (λ (z : Case × Tree). found z) (accepted_with y e) in
      let a = passed lists (text_with gs k) (case_with gs k) (regapped gs 0 t) f in
      let kept = a.kept x m d (subst (λ (cs : List Constraint). Mem d cs) (sym (constraints_with gs k x)) i) in
      let still = subst (λ (ss : List State). Keeps ss (parts_of x) d) (states_with gs k) kept in
      false≢true (sym broken ∙ (keeps_iff (states_of k) (parts_of x) d).1 still)
