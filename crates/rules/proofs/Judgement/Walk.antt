-- The walk finds just the tree whose lines stand there: a node's line is taken first, and each of its subtasks is walked on what the one
-- before it left, so what is found and what is left make up the lines, by recursion on the levels and on the subtasks.
use mathlib.Core.Path.{◌≡◌, refl, sym, ◌∙◌, ap, subst}
use mathlib.Core.Bool.{Bool, true, false}
use mathlib.Core.List.{List, [], ◌∷◌, ◌++◌, append_assoc, append-nil}
use Prim.Native.Nat.{ℕ, zero, suc, ◌+◌, ◌≤◌, max}
use native.Mathlib.Omega.{arith}
use lib.ListN.{length, length-append}
use Rattle.rules.specs.declared.Answer.{Answer}
use Rattle.rules.specs.declared.Answer.TheVariants.{TooDeep, WrongClaim}
use Rattle.rules.specs.Case.{method_at, NodeLine, D, E, L, Case}
use Rattle.rules.specs.Tree.{Tree, leaf, more, preorder, root_line, Trees, of_task, right_letter, task, Walk, Walker, walk_subtasks, ClaimTest, walk_fitting, node_fits, walk_node, none_over, level_count, walk_tree}
use Rattle.rules.specs.Result.{Result, found, refused, ◌>>=◌, ◌>>◌}
use Rattle.rules.specs.Rules.{FitsTask, FitsTasks}
use Rattle.rules.specs.Refusals.{Expected, expected_at, below, root}
use Rattle.rules.proofs.Statements.{fits, fits_iff}
use Rattle.rules.proofs.Tables.{and_both}
use Rattle.rules.proofs.Judgement.Preorder.{lines_of, lines_of_all, lines_more, height, heights, claim, Passes, claimed_by, ClaimsPass, claimed_append, claims_join, TreeOf}
use Rattle.rules.proofs.Judgement.Waiting.{Stop, lacking, over, other, letter, deep, unclaimable, Point, point, Stopped, tree_waiting, tree_reached, stopped_after, stopped_here}

-- From one point to another something has been walked: it fits, is no higher than the levels left, and has taken its lines, the first of
-- those that were there, with their claims.
pub record Walked (Fit : Type 0) (high : ℕ) (lines : List NodeLine) (ok : ClaimTest) (levels : ℕ) (p q : Point) : Type 0 where
  pub fitting : Fit
  pub shallow : high ≤ levels
  pub taken : p.left ≡ lines ++ q.left
  pub past : q.line ≡ p.line + length lines
  pub claims : q.claimed ≡ claimed_by lines p.claimed
  pub passed : ClaimsPass ok lines p.claimed

walked_join : {A B C : Type 0} {a b : ℕ} {xs ys : List NodeLine} {ok : ClaimTest} {levels : ℕ} {p q r : Point} (zs : List NodeLine) → zs ≡ xs ++ ys
    → (A → B → C) → Walked A a xs ok levels p q → Walked B b ys ok levels q r → Walked C (max a b) zs ok levels p r
walked_join {C = C} {a} {b} {xs} {ys} {ok} {levels} {p} {r = r} zs e both v w =
    subst (λ (ls : List NodeLine). Walked C (max a b) ls ok levels p r) (sym e)
    (record {
      fitting = both v.fitting w.fitting;
      shallow = omega arith;
      taken = v.taken ∙ ap (λ (l : List NodeLine). xs ++ l) w.taken ∙ sym (append_assoc xs ys r.left);
      past = omega (arith, length-append xs ys);
      claims = w.claims ∙ ap (λ (c : List ℕ). claimed_by ys c) v.claims ∙ sym (claimed_append xs ys p.claimed);
      passed = claims_join ok xs ys p.claimed v.passed (subst (λ (c : List ℕ). ClaimsPass ok ys c) v.claims w.passed);
    })

-- ---- What a walk says

module _ (k : Case) (ok : ClaimTest) where
  -- A walk stops, at whatever level leaves it so many and with whatever waits after what it walks.
  abbrev StopsAt : ℕ → Point → (ℕ → List Expected) → Answer → Type 0
  StopsAt levels p expected r = (level : ℕ) (st : List Expected) → level + levels ≡ 65 → Stopped k ok p (expected level ++ st) r

  -- A tree that fits the task has been walked; or the walk stops.
  abbrev WalkSays : ℕ → ℕ → Point → Walk Tree → Type 0
  WalkSays levels t p (found (x, n, left, c)) = Walked (FitsTask k x t) (height x) (lines_of x) ok levels p (point n left c)
  WalkSays levels t p (refused r) = StopsAt levels p (λ level. (t, level) ∷ []) r

  -- Trees that fit the tasks; or the walk stops.
  abbrev WalksSay : ℕ → List ℕ → Point → Walk Trees → Type 0
  WalksSay levels ts p (found (xs, n, left, c)) = Walked (FitsTasks k xs ts) (heights xs) (lines_of_all xs) ok levels p (point n left c)
  WalksSay levels ts p (refused r) = StopsAt levels p (λ level. expected_at level ts) r

  -- A walker that does so for each task, wherever it stands.
  abbrev WalkerSays : ℕ → Walker → Type 0
  WalkerSays levels walk = (t : ℕ) (p : Point) → WalkSays levels t p (walk t p.line p.left p.claimed)

  -- A tree that has been walked, and then a stop.
  stopped_tree : (x : Tree) {levels t : ℕ} {p q : Point} {level : ℕ} {st : List Expected} {r : Answer}
      → Walked (FitsTask k x t) (height x) (lines_of x) ok levels p q → level + levels ≡ 65 → Stopped k ok q st r → Stopped k ok p ((t, level) ∷ st) r
  stopped_tree x {t = t} {p} {q} {level} {st} {r} w e s =
      let c = p.claimed in
      subst (λ (z : List NodeLine). Stopped k ok (point p.line z c) ((t, level) ∷ st) r) (sym w.taken)
      (stopped_after k ok p.line (lines_of x) q.left c ((t, level) ∷ st)
      (tree_reached k ok x t level st c w.fitting (omega arith) w.passed)
      (subst (λ (z : List Expected). Stopped k ok (point (p.line + length (lines_of x)) q.left (claimed_by (lines_of x) c)) z r)
      (sym (tree_waiting k x t level st w.fitting))
      (subst (λ (z : Point). Stopped k ok z st r) (λ j. point (w.past j) q.left (w.claims j)) s)))

  -- Trees after a first one.
  abbrev with_tree : Tree → Walk Trees → Walk Trees
  with_tree x ws = ws >>= λ (xs, line, nodes, claimed). found (more x xs, line, nodes, claimed)

  with_tree_lem : (x : Tree) (ws : Walk Trees) (levels t : ℕ) (ts : List ℕ) (p q : Point)
      → Walked (FitsTask k x t) (height x) (lines_of x) ok levels p q → WalksSay levels ts q ws → WalksSay levels (t ∷ ts) p (with_tree x ws)
  unfolding FitsTasks heights
  with_tree_lem x (found (xs, n, left, c)) levels t ts p q w s = walked_join (lines_of_all (more x xs)) (lines_more x xs) (λ f g. (f, g)) w s
  with_tree_lem x (refused r) levels t ts p q w s = λ level st e. stopped_tree x w e (s level st e)

  follow_tree_lem : (w : Walk Tree) (rest : ℕ → List NodeLine → List ℕ → Walk Trees) (levels t : ℕ) (ts : List ℕ) (p : Point) → WalkSays levels t p w
      → ((q : Point) → WalksSay levels ts q (rest q.line q.left q.claimed))
      → WalksSay levels (t ∷ ts) p (w >>= λ (x, line, nodes, claimed). with_tree x (rest line nodes claimed))
  follow_tree_lem (found (x, n, left, c)) rest levels t ts p w f = with_tree_lem x (rest n left c) levels t ts p (point n left c) w (f (point n left c))
  follow_tree_lem (refused r) rest levels t ts p w f = λ level st e. w level (expected_at level ts ++ st) e

  subtasks_say : (levels : ℕ) (walk : Walker) → WalkerSays levels walk → (ts : List ℕ) (p : Point)
      → WalksSay levels ts p (walk_subtasks walk ts p.line p.left p.claimed)
  unfolding FitsTasks heights preorder
  subtasks_say levels walk f [] p = record { fitting = tt; shallow = omega arith; taken = refl; past = omega arith; claims = refl; passed = tt }
  subtasks_say levels walk f (t ∷ ts) p =
      follow_tree_lem (walk t p.line p.left p.claimed) (walk_subtasks walk ts) levels t ts p (f t p) (λ q. subtasks_say levels walk f ts q)

  -- A line that fits, and then a stop.
  stopped_node : (x : NodeLine) {t line level : ℕ} {left : List NodeLine} {c : List ℕ} {st : List Expected} {r : Answer} → fits k x t ≡ true
      → level ≤ 64 → Passes ok x c → Stopped k ok (point (line + 1) left (claim x c)) (below k level x ++ st) r
      → Stopped k ok (point line (x ∷ left) c) ((t, level) ∷ st) r
  stopped_node x {t} {line} {level} {left} {c} {st} e h p s = stopped_after k ok line (x ∷ []) left c ((t, level) ∷ st) (e, h, p, tt) s

  as_task_lem : (m : ℕ) (ws : Walk Trees) (levels t line : ℕ) (left : List NodeLine) (c : List ℕ) → fits k (D m) t ≡ true
      → WalksSay levels (method_at k.methods m).subtasks (point (line + 1) left c) ws
      → WalkSays (suc levels) t (point line (D m ∷ left) c) (ws >>= λ (ts, line, nodes, claimed). found (task m ts, line, nodes, claimed))
  unfolding FitsTask height preorder root_line
  as_task_lem m (found (xs, n, rest, d)) levels t line left c e w =
      record {
        fitting = ((fits_iff k (D m) t).0 e, w.fitting);
        shallow = omega arith;
        taken = ap (λ (l : List NodeLine). D m ∷ l) w.taken;
        past = omega arith;
        claims = w.claims;
        passed = (tt, w.passed);
      }
  as_task_lem m (refused r) levels t line left c e w = λ level st q. stopped_node (D m) e (omega arith) tt (w (level + 1) st (omega arith))

  fitting_says : (levels : ℕ) (walk : Walker) → WalkerSays levels walk → (x : NodeLine) (t line : ℕ) (left : List NodeLine) (c : List ℕ)
      → fits k x t ≡ true → WalkSays (suc levels) t (point line (x ∷ left) c) (walk_fitting k ok walk x line left c)
  unfolding FitsTask height preorder root_line
  fitting_says levels walk f (D m) t line left c e =
      let ts = (method_at k.methods m).subtasks in
      as_task_lem m (walk_subtasks walk ts (line + 1) left c) levels t line left c e (subtasks_say levels walk f ts (point (line + 1) left c))
  fitting_says levels walk f (E m g) t line left c e =
      record { fitting = (fits_iff k (E m g) t).0 e; shallow = omega arith; taken = refl; past = omega arith; claims = refl; passed = (tt, tt) }
  fitting_says levels walk f (L a i) t line left c e = go (ok a i c) refl
    where
      go : (b : Bool) → ok a i c ≡ b
          → WalkSays (suc levels) t (point line (L a i ∷ left) c)
          (elim b [ true ↦ found (leaf a i, line + 1, left, i ∷ c) | false ↦ refused (WrongClaim line i) ])
      go true p = record { fitting = (fits_iff k (L a i) t).0 e; shallow = omega arith; taken = refl; past = omega arith; claims = refl; passed = (p, tt) }
      go false p = λ level st q. stopped_here k ok (unclaimable e (omega arith) p)

  -- A node that is there: it doesn't fit, or what becomes of it if it does.
  node_there : (levels t line : ℕ) (x : NodeLine) (left : List NodeLine) (c : List ℕ) (w : Walk Tree)
      → (fits k x t ≡ true → WalkSays levels t (point line (x ∷ left) c) w)
      → WalkSays levels t (point line (x ∷ left) c) (node_fits (of_task k x t) (right_letter k x) line >> w)
  node_there levels t line x left c w f = go (of_task k x t) refl (right_letter k x) refl
    where
      go : (a : Bool) → of_task k x t ≡ a → (b : Bool) → right_letter k x ≡ b
          → WalkSays levels t (point line (x ∷ left) c) (node_fits a b line >> w)
      go true p true q = f (and_both p q)
      go true p false q = λ level st z. stopped_here k ok (letter p q)
      go false p b q = λ level st z. stopped_here k ok (other p)

  node_deep : (t line : ℕ) (x : NodeLine) (left : List NodeLine) (c : List ℕ) → fits k x t ≡ true
      → WalkSays zero t (point line (x ∷ left) c) (refused (TooDeep line))
  node_deep t line x left c e = λ level st q.
      let s : 65 ≡ level = omega arith in
      stopped_here k ok (subst (λ (n : ℕ). Stop k ok line c (x ∷ left) ((t, n) ∷ st) (TooDeep line)) s (deep e))

  node_says : (levels t line : ℕ) (left : List NodeLine) (c : List ℕ) → WalkSays levels t (point line left c) (walk_node levels k ok t line left c)
  unfolding walk_node
  node_says zero t line [] c = λ level st q. stopped_here k ok lacking
  node_says zero t line (x ∷ left) c = node_there zero t line x left c (refused (TooDeep line)) (node_deep t line x left c)
  node_says (suc levels) t line [] c = λ level st q. stopped_here k ok lacking
  node_says (suc levels) t line (x ∷ left) c =
      let walk : Walker = λ t' line' left' c'. walk_node levels k ok t' line' left' c' in
      node_there (suc levels) t line x left c (walk_fitting k ok walk x line left c)
      (fitting_says levels walk (λ t' q. node_says levels t' q.line q.left q.claimed) x t line left c)

  -- The root's tree, with the claims of all lines; or where the walk of the root stops.
  abbrev pub TreeSays : Result (Tree × List ℕ) → Type 0
  TreeSays (found (x, c)) = TreeOf k ok x × (c ≡ claimed_by k.nodes [])
  TreeSays (refused r) = Stopped k ok (point (k.plan_line + 1) k.nodes []) (root k) r

  pub tree_says : TreeSays (walk_tree k ok)
  unfolding walk_tree level_count
  tree_says =
      go (walk_node 64 k ok k.head.goal (k.plan_line + 1) k.nodes []) (node_says 64 k.head.goal (k.plan_line + 1) k.nodes [])
    where
      go : (w : Walk Tree) → WalkSays 64 k.head.goal (point (k.plan_line + 1) k.nodes []) w
          → TreeSays (w >>= λ (t, line, nodes, claimed). none_over line nodes >> found (t, claimed))
      go (found (x, line, [], c)) w =
          let e : lines_of x ≡ k.nodes = sym (w.taken ∙ append-nil (lines_of x)) in
          let p = subst (λ (ls : List NodeLine). ClaimsPass ok ls []) e w.passed in (
            record { preordered = e; fitting = w.fitting; shallow = w.shallow; passing = p },
            w.claims ∙ ap (λ (ls : List NodeLine). claimed_by ls []) e,
          )
      go (found (x, line, y ∷ left, c)) w = stopped_tree x w refl (stopped_here k ok over)
      go (refused r) w = w 1 [] refl

  -- What the walk finds is the tree whose lines stand there, with the claims of all of them.
  pub walk_shows : (t : Tree) (c : List ℕ) → walk_tree k ok ≡ found (t, c) → TreeOf k ok t × (c ≡ claimed_by k.nodes [])
  walk_shows t c e = subst TreeSays e tree_says
