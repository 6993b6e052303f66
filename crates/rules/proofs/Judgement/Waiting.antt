-- The node lines read one by one with the tasks that wait: a line takes the first, and its subtasks wait ahead of the rest. A tree that
-- fits takes just the task that it fits, by recursion on the tree; so a walk that stops has read right lines up to there.
use mathlib.Core.Path.{◌≡◌, refl, sym, ◌∙◌, ap, subst, subst₃}
use mathlib.Core.Bool.{true, false}
use mathlib.Core.List.{List, [], ◌∷◌, ◌++◌, append_assoc}
use Prim.Native.Nat.{ℕ, ◌+◌, ◌≤◌}
use native.Mathlib.Omega.{arith}
use lib.ListN.{length, length-append}
use Rattle.rules.specs.declared.Answer.{Answer}
use Rattle.rules.specs.declared.Answer.TheVariants.{WrongTask, TooDeep, WrongClaim, WrongLetter, SurplusNode, MissingNode}
use Rattle.rules.specs.Case.{method_at, NodeLine, D, E, L, Case}
use Rattle.rules.specs.Tree.{Tree, leaf, empty, task, Trees, no_tree, more, preorder, root_line, of_task, right_letter, ClaimTest}
use Rattle.rules.specs.Rules.{FitsTask, FitsTasks}
use Rattle.rules.specs.Refusals.{Expected, expected_at, below, waiting}
use Rattle.rules.proofs.Statements.{fits, fits_iff}
use Rattle.rules.proofs.Judgement.Preorder.{lines_of, lines_of_all, lines_more, height, heights, claim, Passes, claimed_by, ClaimsPass, claimed_append, claims_left, claims_right}

-- Each line fits the task that is expected there, stands at most at level 64, and may claim its position.
abbrev pub Reached : Case → ClaimTest → List NodeLine → List Expected → List ℕ → Type 0
Reached k ok [] st c = Unit {0}
Reached k ok (x ∷ xs) [] c = ⊥
Reached k ok (x ∷ xs) (e ∷ st) c = (fits k x e.0 ≡ true) × (e.1 ≤ 64) × Passes ok x c × Reached k ok xs (below k e.1 x ++ st) (claim x c)

-- Why the walk stops at a line: no node where one is expected; a node over; one of another task; a wrong letter; level 65; a claim that
-- doesn't pass.
pub data Stop (k : Case) (ok : ClaimTest) (line : ℕ) (c : List ℕ) : List NodeLine → List Expected → Answer → Type 0 where
  lacking : {e : Expected} {st : List Expected} → Stop k ok line c [] (e ∷ st) (MissingNode line)
  over : {x : NodeLine} {xs : List NodeLine} → Stop k ok line c (x ∷ xs) [] (SurplusNode line)
  other : {x : NodeLine} {xs : List NodeLine} {t level : ℕ} {st : List Expected} → of_task k x t ≡ false
      → Stop k ok line c (x ∷ xs) ((t, level) ∷ st) (WrongTask line)
  letter : {x : NodeLine} {xs : List NodeLine} {t level : ℕ} {st : List Expected} → of_task k x t ≡ true → right_letter k x ≡ false
      → Stop k ok line c (x ∷ xs) ((t, level) ∷ st) (WrongLetter line)
  deep : {x : NodeLine} {xs : List NodeLine} {t : ℕ} {st : List Expected} → fits k x t ≡ true
      → Stop k ok line c (x ∷ xs) ((t, 65) ∷ st) (TooDeep line)
  unclaimable : {a i : ℕ} {xs : List NodeLine} {t level : ℕ} {st : List Expected} → fits k (L a i) t ≡ true → level ≤ 64 → ok a i c ≡ false
      → Stop k ok line c (L a i ∷ xs) ((t, level) ∷ st) (WrongClaim line i)

-- Where a walk stands: the line, the nodes from there on, and the positions claimed.
pub record Point : Type 0 where
  pub line : ℕ
  pub left : List NodeLine
  pub claimed : List ℕ

abbrev pub point : ℕ → List NodeLine → List ℕ → Point
point n ls c = record { line = n; left = ls; claimed = c }

-- The walk of what is expected stops: the lines before are right, and there it stops with this answer.
pub record Stopped (k : Case) (ok : ClaimTest) (p : Point) (st : List Expected) (r : Answer) : Type 0 where
  pub before : List NodeLine
  pub rest : List NodeLine
  pub split : p.left ≡ before ++ rest
  pub reached : Reached k ok before st p.claimed
  pub stop : Stop k ok (p.line + length before) (claimed_by before p.claimed) rest (waiting k before st) r

-- ---- A tree that fits takes the task that it fits

module _ (k : Case) where
  waiting_none : (xs : List NodeLine) → waiting k xs [] ≡ []
  waiting_none [] = refl
  waiting_none (x ∷ xs) = refl

  waiting_append : (xs ys : List NodeLine) (st : List Expected) → waiting k (xs ++ ys) st ≡ waiting k ys (waiting k xs st)
  waiting_append [] ys st = refl
  waiting_append (x ∷ xs) ys [] = sym (waiting_none ys)
  waiting_append (x ∷ xs) ys (e ∷ st) = waiting_append xs ys (below k e.1 x ++ st)

  mutual
    unfolding FitsTask FitsTasks preorder root_line

    pub tree_waiting : (x : Tree) (t level : ℕ) (st : List Expected) → FitsTask k x t → waiting k (lines_of x) ((t, level) ∷ st) ≡ st
    tree_waiting (leaf a i) t level st f = refl
    tree_waiting (empty m g) t level st f = refl
    tree_waiting (task m xs) t level st f = trees_waiting xs (method_at k.methods m).subtasks (level + 1) st f.1

    trees_waiting : (xs : Trees) (ts : List ℕ) (level : ℕ) (st : List Expected) → FitsTasks k xs ts
        → waiting k (lines_of_all xs) (expected_at level ts ++ st) ≡ st
    trees_waiting no_tree [] level st f = refl
    trees_waiting no_tree (t ∷ ts) level st f = absurd f
    trees_waiting (more x xs) [] level st f = absurd f
    trees_waiting (more x xs) (t ∷ ts) level st f =
        let all = expected_at level (t ∷ ts) ++ st in
        ap (λ (ls : List NodeLine). waiting k ls all) (lines_more x xs) ∙ waiting_append (lines_of x) (lines_of_all xs) all
        ∙ ap (λ (s : List Expected). waiting k (lines_of_all xs) s) (tree_waiting x t level (expected_at level ts ++ st) f.0)
        ∙ trees_waiting xs ts level st f.1

module _ (k : Case) (ok : ClaimTest) where
  reached_append : (xs ys : List NodeLine) (st : List Expected) (c : List ℕ) → Reached k ok xs st c
      → Reached k ok ys (waiting k xs st) (claimed_by xs c) → Reached k ok (xs ++ ys) st c
  reached_append [] ys st c f g = g
  reached_append (x ∷ xs) ys [] c f g = absurd f
  reached_append (x ∷ xs) ys (e ∷ st) c f g = (f.0, f.1, f.2, reached_append xs ys (below k e.1 x ++ st) (claim x c) f.3 g)

  mutual
    unfolding FitsTask FitsTasks preorder root_line height

    pub tree_reached : (x : Tree) (t level : ℕ) (st : List Expected) (c : List ℕ) → FitsTask k x t → level + height x ≤ 65
        → ClaimsPass ok (lines_of x) c → Reached k ok (lines_of x) ((t, level) ∷ st) c
    tree_reached (leaf a i) t level st c f h p = ((fits_iff k (L a i) t).1 f, omega arith, p.0, tt)
    tree_reached (empty m g) t level st c f h p = ((fits_iff k (E m g) t).1 f, omega arith, tt, tt)
    tree_reached (task m xs) t level st c f h p =
        ((fits_iff k (D m) t).1 f.0, omega arith, tt, trees_reached xs (method_at k.methods m).subtasks (level + 1) st c f.1 (omega arith) p.1)

    trees_reached : (xs : Trees) (ts : List ℕ) (level : ℕ) (st : List Expected) (c : List ℕ) → FitsTasks k xs ts → level + heights xs ≤ 65
        → ClaimsPass ok (lines_of_all xs) c → Reached k ok (lines_of_all xs) (expected_at level ts ++ st) c
    trees_reached no_tree [] level st c f h p = tt
    trees_reached no_tree (t ∷ ts) level st c f h p = tt
    trees_reached (more x xs) [] level st c f h p = absurd f
    trees_reached (more x xs) (t ∷ ts) level st c f h p =
        let q = subst (λ (ls : List NodeLine). ClaimsPass ok ls c) (lines_more x xs) p in
        let later = expected_at level ts ++ st in
        let d = claimed_by (lines_of x) c in
        let first = tree_reached x t level later c f.0 (omega arith) (claims_left ok (lines_of x) (lines_of_all xs) c q) in
        let rest = trees_reached xs ts level st d f.1 (omega arith) (claims_right ok (lines_of x) (lines_of_all xs) c q) in
        subst (λ (ls : List NodeLine). Reached k ok ls ((t, level) ∷ later) c) (sym (lines_more x xs))
        (reached_append (lines_of x) (lines_of_all xs) ((t, level) ∷ later) c first
        (subst (λ (s : List Expected). Reached k ok (lines_of_all xs) s d) (sym (tree_waiting k x t level later f.0)) rest))

  -- ---- Right lines before a stop

  pub stopped_after : (line : ℕ) (xs left : List NodeLine) (c : List ℕ) (st : List Expected) {r : Answer} → Reached k ok xs st c
      → Stopped k ok (point (line + length xs) left (claimed_by xs c)) (waiting k xs st) r → Stopped k ok (point line (xs ++ left) c) st r
  stopped_after line xs left c st {r} f s =
      let ys = s.before in
      let n : line + length xs + length ys ≡ line + length (xs ++ ys) = omega (arith, length-append xs ys) in
      record {
        before = xs ++ ys;
        rest = s.rest;
        split = ap (λ (l : List NodeLine). xs ++ l) s.split ∙ sym (append_assoc xs ys s.rest);
        reached = reached_append xs ys st c f s.reached;
        stop = subst₃ (λ (m : ℕ) (d : List ℕ) (z : List Expected). Stop k ok m d s.rest z r)
            n (sym (claimed_append xs ys c)) (sym (waiting_append k xs ys st)) s.stop;
      }

  -- A stop at the first line.
  pub stopped_here : {p : Point} {st : List Expected} {r : Answer} → Stop k ok p.line p.claimed p.left st r → Stopped k ok p st r
  stopped_here {p} {st} {r} s =
      let e : p.line ≡ p.line + 0 = omega arith in
      record { before = []; rest = p.left; split = refl; reached = tt; stop = subst (λ (n : ℕ). Stop k ok n p.claimed p.left st r) e s }
