-- Laws of the walk of a node, one for each way through its code: the hypotheses are the facts as the code's places hand them over.
-- Assumes nothing.
use mathlib.Core.Path.{◌≡◌, refl, sym, ap, subst, ◌∙◌}
use mathlib.Core.Bool.{Bool, true, false, ◌&&◌, not}
use mathlib.Core.List.{List, ◌∷◌}
use Prim.Native.Nat.{ℕ, ◌+◌, ◌-◌, ◌*◌, ◌≤◌, ◌<◌}
use native.Mathlib.Omega.{arith}
use borrow.Author.Tests.{eq-eqb, ne_eqb}
use lib.Dec.{eqb}
use lib.ListN.{length, get_or, set, take, drop, length-drop}
use lib.Seq.{sets, length-take-le}
use Rattle.std.specs.Prelude.{Result, Ok, Err}
use Rattle.rules.specs.declared.Answer.{Answer}
use Rattle.rules.specs.declared.Answer.TheVariants.{WrongClaim}
use Rattle.rules.specs.Index.{at, of_cue, of_gap, hull}
use Rattle.rules.specs.Result.{found, refused}
use Rattle.rules.specs.Case.{Case}
use Rattle.rules.specs.Tree.{Tree, Trees, leaf, span, spans, Walk, may_claim, is_in}
use Rattle.tree.specs.declared.fit.Fit.TheVariants.{Open, Empty as EmptyFit, Leaf as LeafFit}
use Rattle.tree.specs.declared.fit.Given.{Given}
use Rattle.tree.specs.declared.fit.Place.{Place}
use Rattle.tree.specs.declared.fit.Subtasks.{Subtasks}
use Rattle.tree.specs.declared.rows.Walked.{Walked}
use Rattle.index.specs.Spans.{span_of}
use Rattle.tree.specs.Layout.{rows_from, marks_from, size, sizes, row, rows, rows_all, marks_of, directory_of, marks_in}
use Rattle.tree.specs.Fits.{line_at, SubtasksWithin, subtasks_in}
use Rattle.tree.specs.Standing.{as_task, Steady, ClaimWithin, list_from, claim_from, Beyond, Judged, put_row, settled, Told, ToldAll, ClaimTold, Claims, WalksNode, WalksList}
use Rattle.tree.proofs.Stores.{in_front, row_rows, row_directory, row_marks, mark_rows, mark_directory, mark_marks}
use Rattle.tree.proofs.Claimed.{marks_claim, mark_clear, mark_set}

-- ---- A claim

-- The plan has the action x at position i.
module _ (k : Case) (n a i x : ℕ) (next : Place) (w : List ℕ) (c : ClaimWithin k n i) (few : k.head.cues ≤ 1000) (is : x ≡ get_or k.plan (i - 1) 0) where
  low : 1 ≤ i
  low = c.low

  high : i ≤ k.head.cues
  high = c.high

  -- What the code's test says of the claim.
  planned : (b : Bool) → eqb x a ≡ b → eqb (get_or k.plan (i - 1) 0) a ≡ b
  planned b e = ap (λ (y : ℕ). eqb y a) (sym is) ∙ e

  same_place : 1 + (i - 1) ≡ i
  same_place = let l = low in omega arith

  abbrev by_test : List ℕ → Bool → Walk Tree
  by_test claimed b =
      elim b [
        | true ↦ found (leaf a i, line_at k.plan_line (n + 1), drop (n + 1) k.nodes, i ∷ claimed)
        | false ↦ refused (WrongClaim (line_at k.plan_line n) i)
      ]

  pub claim_right : (r : Walked) (v : List ℕ) → x ≡ a → get_or w (marks_from + (i - 1)) 0 ≡ 0
      → r ≡ settled (of_cue i) next → v ≡ put_row n (at (of_cue i)) next.node (set w (marks_from + (i - 1)) 1) → Claims k n a i next w (Ok r) v
  unfolding may_claim
  claim_right r v p q er ev claimed m =
      let u = set w (marks_from + (i - 1)) 1 in
      let free : is_in i claimed ≡ false = sym (ap (λ (x : ℕ). is_in x claimed) same_place) ∙ mark_clear k.head.cues (i - 1) claimed w (omega arith) m q in
      let test : may_claim k.plan a i claimed ≡ true =
      ap (λ (b : Bool). b && not (is_in i claimed)) (planned true (eq-eqb _ _ p)) ∙ ap not free in
      subst (λ (b : Bool). ClaimTold k n a i next w (by_test claimed b) (Ok r) v) (sym test) (
        ap Ok er,
        ap (drop rows_from) ev ∙ row_rows n (at (of_cue i)) next.node u
            ∙ ap (λ (l : List ℕ). sets l (3 * n) (row (at (of_cue i)) next.node)) (mark_rows w (i - 1) 1 (omega arith)),
        ap (marks_in k.head.cues) ev ∙ row_marks n (at (of_cue i)) next.node u k.head.cues few
            ∙ mark_marks w (i - 1) 1 k.head.cues (omega arith) ∙ ap (λ (l : List ℕ). set l (i - 1) 1) m
            ∙ marks_claim k.head.cues (i - 1) claimed (omega arith) ∙ ap (λ (x : ℕ). marks_of k.head.cues (x ∷ claimed)) same_place,
        ap directory_of ev ∙ row_directory n (at (of_cue i)) next.node u ∙ mark_directory w (i - 1) 1,
      )

  claim_wrong : (l : ℕ) (v claimed : List ℕ) → may_claim k.plan a i claimed ≡ false → l ≡ line_at k.plan_line n
      → ClaimTold k n a i next w (claim_from k n a i claimed) (Err (WrongClaim l i)) v
  claim_wrong l v claimed test e =
      subst (λ (b : Bool). ClaimTold k n a i next w (by_test claimed b) (Err (WrongClaim l i)) v) (sym test) (ap (λ (x : ℕ). Err (WrongClaim x i)) e)

  pub claim_other : (l : ℕ) (v : List ℕ) → (x ≡ a → ⊥) → l ≡ line_at k.plan_line n → Claims k n a i next w (Err (WrongClaim l i)) v
  unfolding may_claim
  claim_other l v p e claimed m =
      claim_wrong l v claimed (ap (λ (b : Bool). b && not (is_in i claimed)) (planned false (ne_eqb _ _ p))) e

  pub claim_taken : (l : ℕ) (v : List ℕ) → x ≡ a → (get_or w (marks_from + (i - 1)) 0 ≡ 0 → ⊥) → l ≡ line_at k.plan_line n
      → Claims k n a i next w (Err (WrongClaim l i)) v
  unfolding may_claim
  claim_taken l v p q e claimed m =
      let taken : is_in i claimed ≡ true = sym (ap (λ (x : ℕ). is_in x claimed) same_place) ∙ mark_set k.head.cues (i - 1) claimed w (omega arith) m q in
      claim_wrong l v claimed (ap (λ (b : Bool). b && not (is_in i claimed)) (planned true (eq-eqb _ _ p)) ∙ ap not taken) e

-- ---- A method's subtasks, as the part of the fields that is lent

module _ (fields : List ℕ) (s : Subtasks) where
  lent_count : s.at + s.count - s.at ≡ s.count
  lent_count = omega arith

  pub lent_subtasks : take (s.at + s.count - s.at) (drop s.at fields) ≡ subtasks_in fields s
  lent_subtasks = ap (λ (c : ℕ). take c (drop s.at fields)) lent_count

  pub lent_some : SubtasksWithin fields s → 0 < length (take (s.at + s.count - s.at) (drop s.at fields))
  lent_some h =
      let o = h.some in
      let i = h.inside in
      let e = ap length lent_subtasks ∙ length-take-le s.count (drop s.at fields) (omega (arith, length-drop s.at fields)) in
      omega arith

-- ---- What a call answered

pub same_ok : {a b : Walked} → ◌≡◌ {A = Result Walked Answer} (Ok a) (Ok b) → a ≡ b
same_ok e = cc

pub ok_not_err : {a : Walked} {b : Answer} → ◌≡◌ {A = Result Walked Answer} (Ok a) (Err b) → ⊥
ok_not_err e = cc

-- ---- A node, by how it fits

module _ (k : Case) (fields : List ℕ) (t level : ℕ) (p : Place) (w : List ℕ) where
  abbrev n : ℕ
  n = p.node

  abbrev Here : Result Walked Answer → List ℕ → Type 0
  Here r v = WalksNode k fields (65 - level) t n w r v

  pub refuses : (a : Answer) (v : List ℕ) → Judged k fields p t level (Err a) → Here (Err a) v
  refuses a v j claimed m = subst (λ (x : Walk Tree). Told k fields n w x (Err a) v) (sym (j claimed)) refl

  module _ (next : Place) (b : Beyond k fields p next) where
    pub inside : (g : Given) → Steady k fields g w → n < g.nodes
    inside g st = let a = st.count in let q = b.there in omega arith

    step_line : (q : ℕ) → next.node ≡ q → line_at k.plan_line (n + 1) ≡ line_at k.plan_line next.node
    step_line q e = ap (line_at k.plan_line) (sym b.one)

    step_left : drop (n + 1) k.nodes ≡ drop next.node k.nodes
    step_left = ap (λ (m : ℕ). drop m k.nodes) (sym b.one)

    pub rests : (g : ℕ) (r : Walked) (v : List ℕ) → Judged k fields p t level (Ok (EmptyFit g next))
        → k.head.cues ≤ 1000 → r ≡ settled (of_gap g) next → v ≡ put_row n (at (of_gap g)) next.node w → Here (Ok r) v
    unfolding span size rows
    rests g r v j few er ev claimed m =
        let s = at (of_gap g) in
        subst (λ (x : Walk Tree). Told k fields n w x (Ok r) v) (sym (j.1 claimed))
        (record {
          next = next;
          answer = ap Ok er;
          after = b.one;
          follows = b.follows;
          lines = step_line next.node refl;
          lefts = step_left;
          rowed = ap (drop rows_from) ev ∙ row_rows n s next.node w ∙ ap (λ (x : ℕ). sets (drop rows_from w) (3 * n) (row s x)) b.one;
          marked = ap (marks_in k.head.cues) ev ∙ row_marks n s next.node w k.head.cues few ∙ m;
          directory = ap directory_of ev ∙ row_directory n s next.node w;
        })

    leaf_told : (a i : ℕ) (claimed : List ℕ) (c : Bool) (r : Result Walked Answer) (v : List ℕ)
        → ClaimTold k n a i next w (elim c [
          | true ↦ found (leaf a i, line_at k.plan_line (n + 1), drop (n + 1) k.nodes, i ∷ claimed)
          | false ↦ refused (WrongClaim (line_at k.plan_line n) i)
        ]) r v
        → Told k fields n w (elim c [
          | true ↦ found (leaf a i, line_at k.plan_line (n + 1), drop (n + 1) k.nodes, i ∷ claimed)
          | false ↦ refused (WrongClaim (line_at k.plan_line n) i)
        ]) r v
    unfolding span size rows
    leaf_told a i claimed true r v h =
        record {
          next = next;
          answer = h.0;
          after = b.one;
          follows = b.follows;
          lines = step_line next.node refl;
          lefts = step_left;
          rowed = h.1 ∙ ap (λ (x : ℕ). sets (drop rows_from w) (3 * n) (row (at (of_cue i)) x)) b.one;
          marked = h.2;
          directory = h.3;
        }
    leaf_told a i claimed false r v h = h

    pub claims : (a i : ℕ) (r : Result Walked Answer) (v : List ℕ) → Judged k fields p t level (Ok (LeafFit a i next))
        → Claims k n a i next w r v → Here r v
    claims a i r v j h claimed m =
        subst (λ (x : Walk Tree). Told k fields n w x r v) (sym (j.0 claimed)) (leaf_told a i claimed (may_claim k.plan a i claimed) r v (h claimed m))

    -- The task whose subtasks are walked, from the node after its own.
    task_told : (m : ℕ) (ws : Walk Trees) (r : Walked) (u v : List ℕ) → k.head.cues ≤ 1000 → ToldAll k fields next.node w ws (Ok r) u
        → v ≡ put_row n (span_of r.span) r.next.node u → Told k fields n w (as_task m ws) (Ok r) v
    unfolding span size rows
    task_told m (found (ts, line, left, claimed)) r u v few h ev =
        let f = h.1 in
        let s = hull (spans ts) in
        let count : f.next.node ≡ n + (1 + sizes ts) = let a = f.after in let o = b.one in omega arith in
        let same : f.next.node ≡ n + 1 + sizes ts = omega arith in
        let e : v ≡ put_row n s f.next.node u = ev ∙ ap (λ (x : Walked). put_row n (span_of x.span) x.next.node u) (same_ok f.answer) in
        record {
          next = f.next;
          answer = f.answer;
          after = count;
          follows = f.follows;
          lines = f.lines;
          lefts = f.lefts;
          rowed =
              ap (drop rows_from) e ∙ row_rows n s f.next.node u
              ∙ (λ j. sets (f.rowed j) (3 * n) (row s (same j)))
              ∙ (λ j. sets (sets (drop rows_from w) (3 * b.one j) (rows_all ts (b.one j))) (3 * n) (row s (n + 1 + sizes ts)))
              ∙ in_front (rows_all ts (n + 1)) (drop rows_from w) n s (n + 1 + sizes ts);
          marked = ap (marks_in k.head.cues) e ∙ row_marks n s f.next.node u k.head.cues few ∙ f.marked;
          directory = ap directory_of e ∙ row_directory n s f.next.node u ∙ f.directory;
        }
    task_told m (refused a) r u v few h ev = absurd (ok_not_err h)

    pub opens : (s : Subtasks) (r : Walked) (u v : List ℕ) → Judged k fields p t level (Ok (Open s next))
        → k.head.cues ≤ 1000 → WalksList k fields (64 - level) (subtasks_in fields s) next.node w (Ok r) u
        → v ≡ put_row n (span_of r.span) r.next.node u → Here (Ok r) v
    opens s r u v j few h ev claimed m =
        subst (λ (x : Walk Tree). Told k fields n w x (Ok r) v) (sym (j.1 claimed))
        (task_told j.0 (list_from k (64 - level) (subtasks_in fields s) (n + 1) claimed) r u v few
        (subst (λ (x : ℕ). ToldAll k fields next.node w (list_from k (64 - level) (subtasks_in fields s) x claimed) (Ok r) u) b.one (h claimed m)) ev)
