-- How a node's line fits: what the code takes of the node, and of the method that it names, settles the first step of the node's walk.
-- Assumes nothing.
use mathlib.Core.Path.{◌≡◌, refl, sym, ap, subst, ◌∙◌}
use mathlib.Core.Bool.{Bool, true, false, not}
use mathlib.Core.List.{List, [], ◌∷◌}
use Prim.Native.Nat.{ℕ, zero, suc, ◌+◌, ◌-◌, ◌≤◌, ◌<◌}
use native.Mathlib.Omega.{arith}
use borrow.Author.Tests.{ltb-true, ltb-false, eqb-false, not-true}
use lib.Dec.{eqb, ltb}
use lib.ListN.{length, get_or, drop, drop_of_length-le}
use lib.Seq.{drop-cons, get_or-take}
use Rattle.std.specs.Prelude.{Result as Returned, Ok, Err}
use Rattle.rules.specs.declared.Answer.{Answer}
use Rattle.rules.specs.declared.Answer.TheVariants.{WrongTask, TooDeep, WrongLetter, MissingNode}
use Rattle.rules.specs.Result.{Result, found, refused, ◌>>◌}
use Rattle.rules.specs.Case.{NodeLine, D, E, L, Case, method_at}
use Rattle.rules.specs.Tree.{Tree, empty, Walk, walk_subtasks, no_subtasks, of_task, right_letter, ClaimTest, may_claim, walk_fitting, node_fits, walk_node}
use Rattle.rules.proofs.Statements.{fits}
use Rattle.rules.proofs.Tables.{and_right, and_both}
use Rattle.rules.proofs.Judgement.Each.{each_at}
use Rattle.rules.proofs.Judgement.Sound.{Sound, GoodNode}
use Rattle.rules.proofs.Judgement.Nodes.{of_task_lem}
use Rattle.rules.proofs.Judgement.WalkFinds.{node_fits_lem, node_deep}
use Rattle.fields.specs.Directory.{methods_from}
use Rattle.tree.specs.declared.fit.Place.{Place}
use Rattle.tree.specs.declared.fit.Fit.{Fit}
use Rattle.tree.specs.declared.fit.Fit.TheVariants.{Open, Empty as EmptyFit, Leaf as LeafFit}
use Rattle.tree.specs.Layout.{marks_from, directory_of}
use Rattle.tree.specs.Fits.{line_at, as_entry, method_head, head_in, pick_fit, fit_if, fit_of, at_level}
use Rattle.tree.specs.Standing.{MethodsAt, ClaimWithin, node_from, as_task, Beyond, Judged}
use Rattle.tree.proofs.Entries.{HeadIs, head_is}

-- ---- The node's line

-- Each node's numbers are in their ranges.
pub good_node : (k : Case) → Sound k → (n : ℕ) (x : NodeLine) (left : List NodeLine) → n < k.head.nodes → drop n k.nodes ≡ x ∷ left → GoodNode k.head x
good_node k s n x left h e =
    let room : n < length k.nodes = omega (arith, s.nodes_length) in
    let same : get_or k.nodes n (D 0) ≡ x = first (sym (drop-cons k.nodes n (D 0) room) ∙ e) in
    subst (GoodNode k.head) same (each_at (GoodNode k.head) k.nodes n (D 0) s.nodes_good room)
  where
    first : {y z : NodeLine} {ys zs : List NodeLine} → y ∷ ys ≡ z ∷ zs → y ≡ z
    first e = cc

-- ---- The method that it names

module _ (k : Case) (fields : List ℕ) (w : List ℕ) (s : Sound k) (there-are : MethodsAt k fields (directory_of w)) (m : ℕ) (h : m < k.head.methods) where
  pub head_here : HeadIs fields (get_or w (methods_from + m) 0) (method_at k.methods m)
  unfolding methods_from marks_from
  head_here =
      let few = s.head_good.few_methods in
      subst (λ (p : ℕ). HeadIs fields p (method_at k.methods m)) (get_or-take marks_from w (methods_from + m) 0 (omega arith))
      (head_is fields (get_or (directory_of w) (methods_from + m) 0) (method_at k.methods m) (there-are m h))

  no_subtasks_lem : no_subtasks (method_at k.methods m) ≡ eqb (head_in fields w m).subtasks.count 0
  unfolding no_subtasks
  no_subtasks_lem = ap (λ (x : ℕ). eqb x 0) head_here.count

  -- The two tests of a node that names it.
  of_task_D : (t : ℕ) → of_task k (D m) t ≡ eqb (head_in fields w m).task t
  of_task_D t = of_task_lem k s (D m) t h ∙ ap (λ (x : ℕ). eqb x t) head_here.task

  of_task_E : (t g : ℕ) → g ≤ k.head.cues → of_task k (E m g) t ≡ eqb (head_in fields w m).task t
  of_task_E t g q = of_task_lem k s (E m g) t (h, q) ∙ ap (λ (x : ℕ). eqb x t) head_here.task

  letter_D : right_letter k (D m) ≡ not (eqb (head_in fields w m).subtasks.count 0)
  unfolding right_letter
  letter_D = ap not no_subtasks_lem

  letter_E : (g : ℕ) → right_letter k (E m g) ≡ eqb (head_in fields w m).subtasks.count 0
  unfolding right_letter
  letter_E g = no_subtasks_lem

-- ---- The first step of the node's walk

module _ (k : Case) (ok : ClaimTest) (t line : ℕ) (claimed : List ℕ) where
  pub walk_lacking : (levels : ℕ) → walk_node levels k ok t line [] claimed ≡ refused (MissingNode line)
  unfolding walk_node
  walk_lacking zero = refl
  walk_lacking (suc levels) = refl

  module _ (x : NodeLine) (left : List NodeLine) where
    walk_refused : (levels : ℕ) (a : Answer) → node_fits (of_task k x t) (right_letter k x) line ≡ refused a → walk_node levels k ok t line (x ∷ left) claimed ≡ refused a
    unfolding walk_node
    walk_refused zero a e = ap (λ (r : Result (Unit {0})). r >> refused (TooDeep line)) e
    walk_refused (suc levels) a e = ap (λ (r : Result (Unit {0})). r >> walk_fitting k ok (walk_node levels k ok) x line left claimed) e

-- ---- What the code's fit makes of it

-- A fit at a level, or the answer that refuses it.
abbrev pub levelled : ℕ → Returned Fit Answer → Answer → Returned Fit Answer
levelled level (Ok f) deep = at_level level f deep
levelled level (Err a) deep = Err a

-- The same by the test of the level.
abbrev levelled_by : Bool → Returned Fit Answer → Answer → Returned Fit Answer
levelled_by v (Ok f) deep = pick_fit v (Ok f) (Err deep)
levelled_by v (Err a) deep = Err a

module _ (k : Case) (fields : List ℕ) (p : Place) (t level : ℕ) where
  abbrev n : ℕ
  n = p.node

  abbrev ok : ClaimTest
  ok = may_claim k.plan

  abbrev here : ℕ
  here = line_at k.plan_line n

  abbrev deep : Answer
  deep = TooDeep here

  pub judged_lacking : k.head.nodes ≤ n → Sound k → Judged k fields p t level (Err (MissingNode here))
  judged_lacking h s claimed =
      let none : drop n k.nodes ≡ [] = drop_of_length-le k.nodes {i = n} (let l = s.nodes_length in omega arith) in
      ap (λ (l : List NodeLine). walk_node (65 - level) k ok t here l claimed) none ∙ walk_lacking k ok t here claimed (65 - level)

  module _ (x : NodeLine) (there : drop n k.nodes ≡ x ∷ drop (n + 1) k.nodes) where
    misfits : (a : Answer) → node_fits (of_task k x t) (right_letter k x) here ≡ refused a → Judged k fields p t level (Err a)
    misfits a e claimed =
        ap (λ (l : List NodeLine). walk_node (65 - level) k ok t here l claimed) there
        ∙ walk_refused k ok t here claimed x (drop (n + 1) k.nodes) (65 - level) a e

    other_task : of_task k x t ≡ false → Judged k fields p t level (Err (WrongTask here))
    other_task e = misfits (WrongTask here) (ap (λ (b : Bool). node_fits b (right_letter k x) here) e)

    wrong_letter : of_task k x t ≡ true → right_letter k x ≡ false → Judged k fields p t level (Err (WrongLetter here))
    wrong_letter e z = misfits (WrongLetter here) (λ j. node_fits (e j) (z j) here)

    too_deep : fits k x t ≡ true → ltb level 65 ≡ false → Judged k fields p t level (Err deep)
    too_deep e h claimed =
        let z : 65 - level ≡ zero = let q = ltb-false level 65 h in omega arith in
        ap (λ (l : List NodeLine). walk_node (65 - level) k ok t here l claimed) there
        ∙ ap (λ (d : ℕ). walk_node d k ok t here (x ∷ drop (n + 1) k.nodes) claimed) z
        ∙ node_deep k ok t here x (drop (n + 1) k.nodes) claimed e

    goes : fits k x t ≡ true → ltb level 65 ≡ true → (claimed : List ℕ)
        → node_from k (65 - level) t n claimed ≡ walk_fitting k ok (walk_node (64 - level) k ok) x here (drop (n + 1) k.nodes) claimed
    goes e h claimed =
        let z : 65 - level ≡ suc (64 - level) = let q = ltb-true level 65 h in omega arith in
        ap (λ (l : List NodeLine). walk_node (65 - level) k ok t here l claimed) there
        ∙ ap (λ (d : ℕ). walk_node d k ok t here (x ∷ drop (n + 1) k.nodes) claimed) z
        ∙ node_fits_lem k ok (64 - level) t here x (drop (n + 1) k.nodes) claimed e

    -- A fit f, if both tests say so and a level is left.
    judged_by : (f : Fit) (a b v : Bool) → of_task k x t ≡ a → right_letter k x ≡ b → ltb level 65 ≡ v
        → (fits k x t ≡ true → ltb level 65 ≡ true → Judged k fields p t level (Ok f))
        → Judged k fields p t level (levelled_by v (fit_if a b f here) deep)
    judged_by f true true true e q h w = w (and_both e q) h
    judged_by f true true false e q h w = too_deep (and_both e q) h
    judged_by f true false v e q h w = wrong_letter e q
    judged_by f false b v e q h w = other_task e

  next_line : here + 1 ≡ line_at k.plan_line (n + 1)
  unfolding line_at
  next_line = omega arith

  module _ (w : List ℕ) (s : Sound k) (there-are : MethodsAt k fields (directory_of w)) where
    open_judged : (m : ℕ) (next : Place) → drop n k.nodes ≡ D m ∷ drop (n + 1) k.nodes → m < k.head.methods → Beyond k fields p next
        → fits k (D m) t ≡ true → ltb level 65 ≡ true → Judged k fields p t level (Ok (Open (head_in fields w m).subtasks next))
    unfolding method_head
    open_judged m next there h b e v =
        let c = (head_in fields w m).subtasks in
        let head = head_here k fields w s there-are m h in
        let letter = sym (letter_D k fields w s there-are m h) ∙ and_right (of_task k (D m) t) (right_letter k (D m)) e in
        let some = eqb-false c.count 0 (not-true (eqb c.count 0) letter) in (
          m,
          (λ claimed. goes (D m) there e v claimed
              ∙ λ j. as_task m (walk_subtasks (walk_node (64 - level) k ok) (head.subtasks j) (next_line j) (drop (n + 1) k.nodes) claimed)),
          ltb-true level 65 v,
          record { some = omega arith; inside = omega (arith, head.inside, head.count) },
          b,
        )

    empty_judged : (m g : ℕ) (next : Place) → drop n k.nodes ≡ E m g ∷ drop (n + 1) k.nodes → g ≤ k.head.cues → Beyond k fields p next
        → fits k (E m g) t ≡ true → ltb level 65 ≡ true → Judged k fields p t level (Ok (EmptyFit g next))
    empty_judged m g next there h b e v = (
      m,
      (λ claimed. goes (E m g) there e v claimed ∙ ap (λ (l : ℕ). found (empty m g, l, drop (n + 1) k.nodes, claimed)) next_line),
      (let few = s.head_good.few_cues in omega arith),
      b,
    )

    leaf_judged : (a i : ℕ) (next : Place) → drop n k.nodes ≡ L a i ∷ drop (n + 1) k.nodes → ClaimWithin k n i → Beyond k fields p next
        → fits k (L a i) t ≡ true → ltb level 65 ≡ true → Judged k fields p t level (Ok (LeafFit a i next))
    leaf_judged a i next there h b e v = (
      (λ claimed. goes (L a i) there e v claimed
          ∙ ap (λ (l : ℕ). elim (ok a i claimed) as (λ z. Walk Tree) [
            | true ↦ found (Rattle.rules.specs.Tree.leaf a i, l, drop (n + 1) k.nodes, i ∷ claimed)
            | false ↦ refused (Rattle.rules.specs.declared.Answer.TheVariants.WrongClaim here i)
          ]) next_line),
      h,
      b,
    )

    pub judged : (x : NodeLine) (next : Place) → drop n k.nodes ≡ x ∷ drop (n + 1) k.nodes → GoodNode k.head x → Beyond k fields p next
        → Judged k fields p t level (levelled level (fit_of fields w (as_entry x) next t here) deep)
    unfolding at_level fit_of right_letter
    judged (D m) next there good b =
        judged_by (D m) there (Open (head_in fields w m).subtasks next) (eqb (head_in fields w m).task t)
        (not (eqb (head_in fields w m).subtasks.count 0)) (ltb level 65)
        (of_task_D k fields w s there-are m good t) (letter_D k fields w s there-are m good) refl (open_judged m next there good b)
    judged (E m g) next there good b =
        judged_by (E m g) there (EmptyFit g next) (eqb (head_in fields w m).task t) (eqb (head_in fields w m).subtasks.count 0) (ltb level 65)
        (of_task_E k fields w s there-are m good.0 t g good.1) (letter_E k fields w s there-are m good.0 g) refl (empty_judged m g next there good.1 b)
    judged (L a i) next there good b =
        judged_by (L a i) there (LeafFit a i next) (eqb a t) true (ltb level 65) (of_task_lem k s (L a i) t good) refl refl
        (leaf_judged a i next there (record { node = b.there; low = good.1; high = good.2 }) b)
