-- The root's walk, told of the whole claimed tree: one law for each way out of `walk_tree`. Assumes nothing.
use mathlib.Core.Path.{◌≡◌, refl, sym, ap, subst, ◌∙◌}
use mathlib.Core.List.{List, [], ◌∷◌}
use Prim.Native.Nat.{ℕ, ◌+◌, ◌*◌, ◌≤◌, ◌<◌}
use native.Mathlib.Omega.{arith}
use lib.ListN.{take, drop, length-drop, drop_of_length-le}
use lib.Seq.{sets, take-take, drop-cons, get_or-take}
use Rattle.std.specs.Prelude.{Result as Returned, Ok, Err}
use Rattle.rules.specs.declared.Answer.{Answer}
use Rattle.rules.specs.declared.Answer.TheVariants.{SurplusNode}
use Rattle.rules.specs.declared.Header.{Header}
use Rattle.rules.specs.Result.{Result, found, refused, ◌>>=◌, ◌>>◌}
use Rattle.rules.specs.Case.{NodeLine, D, Case, method_at}
use Rattle.rules.specs.Fields.{lines_fields, method_lines}
use Rattle.rules.specs.Tree.{Tree, Walk, may_claim, walk_node, none_over, level_count, walk_tree}
use Rattle.rules.proofs.Judgement.Sound.{Sound, sound}
use Rattle.fields.specs.Standing.{Stands}
use Rattle.fields.specs.Directory.{methods_from}
use Rattle.tree.specs.declared.fit.Given.{Given}
use Rattle.tree.specs.declared.rows.Walked.{Walked}
use Rattle.tree.specs.Layout.{marks_from, rows_from, rows_past, size, rows, directory_of, rows_in}
use Rattle.tree.specs.Fits.{line_at, Follows}
use Rattle.tree.specs.Standing.{MethodsAt, Steady, node_from, list_from, Told, ToldAll, WalksList}
use Rattle.tree.specs.Whole.{WalkReady, TreeTold}
use Rattle.tree.proofs.Passing.{same_ok, ok_not_err}
use Rattle.tree.proofs.Siblings.{alone_told}
use Rattle.tree.proofs.Stores.{drop_take, take_sets_all, length_rows}
use Rattle.tree.proofs.Within.{plan_line_few}

-- ---- What the root's walk stands on

module _ (k : Case) (fields : List ℕ) (header : Header) (plan_line plan nodes : ℕ) (w : List ℕ) (rd : WalkReady k fields header plan_line plan nodes w) where
  abbrev given : Given
  given = record { nodes = header.nodes; line = plan_line; plan = plan }

  root_sound : Sound k
  root_sound = sound rd.read.text k rd.read.reads

  methods_at_lem : MethodsAt k fields (directory_of w)
  unfolding methods_from marks_from
  methods_at_lem m h =
      let few = root_sound.head_good.few_methods in
      subst (λ (p : ℕ). Stands fields p (lines_fields (method_lines (method_at k.methods m))))
      (sym (get_or-take marks_from w (methods_from + m) 0 (omega arith))) (rd.finds.method_here m h)

  pub root_steady : Steady k fields given w
  root_steady = record {
    read = rd.read;
    count = ap (λ (y : Header). y.nodes) rd.head;
    planned = rd.planned;
    plan = rd.finds.plan_here;
    room = rd.room;
    methods = methods_at_lem;
    claimed = [];
    marks = rd.unmarked;
  }

  pub root_follows : Follows k fields (record { node = 0; at = nodes })
  root_follows = record { nodes = rd.finds.nodes_here; within = omega arith }

  pub root_line_lem : (n : ℕ) → n < header.nodes → plan_line + n < 4294967295
  root_line_lem n h =
      let e = ap (λ (y : Header). y.nodes) rd.head in
      let f = root_sound.head_good.few_nodes in
      let a = plan_line_few k rd.read in
      let c = rd.planned in
      omega arith

  -- ---- The rows of a tree that takes every line

  rows_kept : (t : Tree) (v : List ℕ) → size t ≤ 3000 → drop rows_from v ≡ sets (drop rows_from w) (3 * 0) (rows t 0) → take (3 * size t) (rows_in v) ≡ rows t 0
  unfolding rows_from rows_past
  rows_kept t v h e =
      let room = rd.room in
      let ln = length_rows t 0 in
      ap (take (3 * size t)) (drop_take rows_from 9000 v)
      ∙ take-take (3 * size t) 9000 (drop rows_from v) (omega arith)
      ∙ ap (take (3 * size t)) e
      ∙ ap (λ (x : ℕ). take x (sets (drop rows_from w) 0 (rows t 0))) (sym ln)
      ∙ take_sets_all (rows t 0) (drop rows_from w) (omega (arith, length-drop rows_from w))

  -- ---- Each way out

  -- No node is over.
  abbrev none_left : Walk Tree → Result (Tree × List ℕ)
  none_left x = x >>= λ (t, line, nodes, claimed). none_over line nodes >> found (t, claimed)

  abbrev root : Walk Tree
  root = node_from k 64 k.head.goal 0 []

  whole_is : walk_tree k (may_claim k.plan) ≡ none_left root
  unfolding walk_tree level_count line_at
  whole_is =
      let e : k.plan_line + 1 ≡ k.plan_line + 1 + 0 = omega arith in
      ap (λ (l : ℕ). none_left (walk_node 64 k (may_claim k.plan) k.head.goal l k.nodes [])) e

  takes_all : (x : Walk Tree) (o : Walked) (v : List ℕ) → Told k fields 0 w x (Ok o) v → k.head.nodes ≤ o.next.node
      → TreeTold k w (none_left x) (Ok tt) v
  takes_all (found (t, line, left, claimed)) o v f h =
      let there : o.next.node ≡ f.next.node = ap (λ (x : Walked). x.next.node) (same_ok f.answer) in
      let few = root_sound.head_good.few_nodes in
      let all = root_sound.nodes_length in
      let in? = f.follows.within in
      let none : left ≡ [] = f.lefts ∙ drop_of_length-le k.nodes {i = f.next.node} (omega arith) in
      subst (λ (l : List NodeLine). TreeTold k w (none_left (found (t, line, l, claimed))) (Ok tt) v) (sym none)
      (record {
        right = refl;
        rowed = rows_kept t v (let a = f.after in omega arith) f.rowed;
        marked = f.marked;
        directory = f.directory;
      })
  takes_all (refused a) o v f h = absurd (ok_not_err f)

  leaves_some : (x : Walk Tree) (o : Walked) (v : List ℕ) (l : ℕ) → Told k fields 0 w x (Ok o) v → o.next.node < k.head.nodes
      → l ≡ line_at k.plan_line o.next.node → TreeTold k w (none_left x) (Err (SurplusNode l)) v
  leaves_some (found (t, line, left, claimed)) o v l f h e =
      let there : o.next.node ≡ f.next.node = ap (λ (x : Walked). x.next.node) (same_ok f.answer) in
      let all = root_sound.nodes_length in
      let some = f.lefts ∙ drop-cons k.nodes f.next.node (D 0) (omega arith) in
      subst (λ (y : List NodeLine). TreeTold k w (none_left (found (t, line, y, claimed))) (Err (SurplusNode l)) v) (sym some)
      (ap (λ (y : ℕ). Err (SurplusNode y)) (e ∙ ap (line_at k.plan_line) there ∙ sym f.lines))
  leaves_some (refused a) o v l f h e = absurd (ok_not_err f)

  is_refused : (x : Walk Tree) (a : Answer) (v : List ℕ) → Told k fields 0 w x (Err a) v → TreeTold k w (none_left x) (Err a) v
  is_refused (found (t, line, left, claimed)) a v f = absurd (ok_not_err (sym f.answer))
  is_refused (refused b) a v f = ap Err (let q : a ≡ b = cc f in q)

  module _ (v : List ℕ) where
    abbrev Tells : Returned Walked Answer → Type 0
    Tells r = Steady k fields given w → Follows k fields (record { node = 0; at = nodes }) → WalksList k fields 64 (header.goal ∷ []) 0 w r v

    root_told : (r : Returned Walked Answer) → Tells r → Told k fields 0 w root r v
    root_told r tells =
        alone_told k fields 0 w r v root
        (subst (λ (h : Header). ToldAll k fields 0 w (list_from k 64 (h.goal ∷ []) 0 []) r v) rd.head (tells root_steady root_follows [] rd.unmarked))

    abbrev Whole : Returned (Unit {0}) Answer → Type 0
    Whole a = TreeTold k w (walk_tree k (may_claim k.plan)) a v

  pub right : (o : Walked) (v : List ℕ) → Tells v (Ok o) → header.nodes ≤ o.next.node → Whole v (Ok tt)
  right o v tells h =
      subst (λ (x : Result (Tree × List ℕ)). TreeTold k w x (Ok tt) v) (sym whole_is)
      (takes_all root o v (root_told v (Ok o) tells) (let q = ap (λ (y : Header). y.nodes) rd.head in omega arith))

  pub over : (o : Walked) (v : List ℕ) → Tells v (Ok o) → (l : ℕ) → o.next.node < header.nodes → l ≡ line_at plan_line o.next.node
      → Whole v (Err (SurplusNode l))
  over o v tells l h z =
      subst (λ (x : Result (Tree × List ℕ)). TreeTold k w x (Err (SurplusNode l)) v) (sym whole_is)
      (leaves_some root o v l (root_told v (Ok o) tells) (let q = ap (λ (y : Header). y.nodes) rd.head in omega arith)
      (z ∙ ap (λ (y : ℕ). line_at y o.next.node) rd.planned))

  pub refuses : (a : Answer) (v : List ℕ) → Tells v (Err a) → Whole v (Err a)
  refuses a v tells =
      subst (λ (x : Result (Tree × List ℕ)). TreeTold k w x (Err a) v) (sym whole_is) (is_refused root a v (root_told v (Err a) tells))
