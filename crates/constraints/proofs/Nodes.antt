-- What the phases before left of one node: its row and those of its subtasks, its method and its constraints, and the states; and what the
-- nodes before it leave of them. Assumes nothing.
use mathlib.Core.Path.{◌≡◌, refl, sym, ap, subst, ◌∙◌}
use mathlib.Core.Bool.{true, false, true≢false}
use mathlib.Core.List.Memᴰ
use mathlib.Core.List.{List, [], ◌∷◌, ◌++◌, map, map-append, flatten}
use mathlib.Core.List.Memᴰ.{head as here}
use mathlib.Core.List.Memᴰ.{tail as there}
use mathlib.Core.List.{Memᴰ as Mem}
use Prim.Native.Nat.{ℕ, ◌+◌, ◌-◌, ◌*◌, ◌≤◌, ◌<◌}
use native.Mathlib.Omega.{arith}
use lib.ListN.{length, get_or, take, drop, length-map, get_or-append}
use lib.Seq.{sets, get_or-take, get_or-drop}
use Rattle.rules.specs.declared.Header.{Header}
use Rattle.rules.specs.State.{word_count}
use Rattle.rules.specs.Index.{Span}
use Rattle.rules.specs.Case.{method_at, no_method, NodeLine, Case}
use Rattle.rules.specs.Tree.{Tree, leaf, empty, task, preorder, root_line, span, subtask_spans, may_claim}
use Rattle.rules.specs.declared.Sign.{Sign}
use Rattle.rules.specs.Constraint.{holds_in, constraints_of}
use Rattle.rules.specs.Verdict.{state_need, work_need, states_of}
use Rattle.rules.proofs.Judgement.Each.{Each, each_at}
use Rattle.rules.proofs.Judgement.Sound.{GoodMethod, GoodNode, Sound, sound, initial_worded}
use Rattle.rules.proofs.Judgement.Preorder.{TreeOf}
use Rattle.rules.proofs.Judgement.Walk.{walk_shows}
use Rattle.tree.proofs.Directory.{finds_kept}
use Rattle.tree.specs.Layout.{subtasks_past, rows_from, rows_past, subtasks_from, size, rows, rows_in}
use Rattle.rows.specs.Rows.{in_row}
use Rattle.columns.specs.Columns.{state_words, Columns, Blank}
use Rattle.columns.proofs.Kept.{columns_none}
use Rattle.parts.specs.Spans.{row_span, RowInside, siblings, nodes_in, spans_in}
use Rattle.constraints.specs.Ready.{Ready, Leaves, names_method, Labels, node_of_tree}
use Rattle.parts.proofs.Stretches.{states_hold, filled_size}
use Rattle.constraints.proofs.Held.{Held, HeldAll, Holds, held, held_node, held_subtrees, root_row, rows_length, preorder_length, subtrees_of, subtrees_spans, count_of, siblings_spans, siblings_inside}
use Rattle.constraints.proofs.Within.{Within, Proper, proper}
use Rattle.constraints.proofs.Judging.{Placed}
use Rattle.constraints.proofs.Stores.{siblings_length, leaves_stored, rows_stored, nodes_stored}

-- ---- the whole tree

module _ {k : Case} {t : Tree} {fields : List ℕ} {header : Header} {plan_line nodes : ℕ} {states work : List ℕ}
    (r : Ready k t fields header plan_line nodes states work) where
  pub is_sound : Sound k
  is_sound = sound r.read.text k r.read.reads

  pub tree_is : TreeOf k (may_claim k.plan) t
  tree_is = (walk_shows k (may_claim k.plan) t r.walks.0 r.walks.1).0

  pub size_is : size t ≡ k.head.nodes
  size_is =
      sym (preorder_length t) ∙ sym (length-map (preorder t) root_line) ∙ ap length tree_is.preordered ∙ is_sound.nodes_length

  pub ready_leaves : (after : List ℕ) → Leaves work after → Ready k t fields header plan_line nodes states after
  ready_leaves after l = record {
    read = r.read;
    head = r.head;
    plans = r.plans;
    initial = r.initial;
    plan = r.plan;
    finds = finds_kept k fields work after r.initial r.plan nodes is_sound.head_good l.directory r.finds;
    room = subst (λ (n : ℕ). work_need ≤ n) (sym l.same_size) r.room;
    walks = r.walks;
    rows_held = ap (take (3 * size t)) l.rows ∙ r.rows_held;
    state_size = r.state_size;
    state_room = r.state_room;
    states_held = r.states_held;
  }

  holds_rows : Holds work 0 (rows t 0)
  unfolding rows_from rows_past work_need
  holds_rows =
      let few = is_sound.head_good.few_nodes in
      let sized = size_is in
      let long = rows_length t 0 in
      let room = r.room in (
        λ i h.
            let same : rows_from + (3 * 0 + i) ≡ rows_from + i = omega arith in
            ap (λ (j : ℕ). get_or work j 0) same ∙ sym (get_or-take rows_past work (rows_from + i) 0 (omega arith)) ∙ sym (get_or-drop rows_from (take rows_past work) i 0)
            ∙ sym (get_or-take (3 * size t) (rows_in work) i 0 (omega arith)) ∙ ap (λ (l : List ℕ). get_or l i 0) r.rows_held,
        omega arith,
      )

  pub node_held : (n : ℕ) → n < size t → Held work (node_of_tree t n) n
  unfolding node_of_tree
  node_held n h = held_node work t n (leaf 0 0) (held work t 0 holds_rows) (let e = preorder_length t in omega arith)

  good_roots : Each (λ x. GoodNode k.head (root_line x)) (preorder t)
  good_roots x m = is_sound.nodes_good (root_line x) (subst (λ (l : List NodeLine). Mem (root_line x) l) tree_is.preordered (mapped (preorder t) m))
    where
      mapped : (l : List Tree) → Mem x l → Mem (root_line x) (map root_line l)
      mapped l (here e) = here (ap root_line e)
      mapped (y ∷ l) (there m) = there (mapped l m)

  pub node_proper : (n : ℕ) → n < size t → Proper k (node_of_tree t n)
  unfolding node_of_tree
  node_proper n h =
      each_at (Proper k) (preorder t) n (leaf 0 0) (proper k t k.head.goal good_roots tree_is.fitting) (let e = preorder_length t in omega arith)

  -- ---- the states

  pub states_agree : (s : Sign) (p l : ℕ) → l ≤ k.head.cues → in_row states s p l ≡ holds_in (states_of k) s p l
  states_agree s p l h =
      ap (λ (w : List ℕ). in_row w s p l) r.states_held
      ∙ states_hold k r.state_size s p l (initial_worded k (sound r.read.text k r.read.reads))
      (let e = is_sound.plan_length in omega arith)

  -- A column has a bit for each of the states, and they are all there.
  pub few_states : header.cues + 1 ≤ 64 * state_words
  unfolding state_words
  few_states =
      let few = is_sound.head_good.few_cues in
      let cues : header.cues ≡ k.head.cues = ap (λ (h : Header). h.cues) r.head in
      omega arith

  pub states_there : word_count * (header.cues + 1) ≤ length states
  unfolding word_count state_need
  states_there =
      let few = is_sound.head_good.few_cues in
      let cues : header.cues ≡ k.head.cues = ap (λ (h : Header). h.cues) r.head in
      let long = r.state_room in
      let all = filled_size r.state_size (flatten (states_of k)) in
      let same = ap length r.states_held in
      omega arith

  -- No column is built yet.
  pub columns_start : (columns built : List ℕ) → Blank columns built → Columns states (header.cues + 1) columns built
  columns_start columns built blank = columns_none states (header.cues + 1) columns built few_states states_there blank

-- ---- a node with a method

pub record MethodNode (k : Case) (m : ℕ) (x : Tree) : Type 0 where
  pub below : m < k.head.methods
  pub count : count_of (subtrees_of x) ≡ length (method_at k.methods m).subtasks
  pub brings : constraints_of k x ≡ (method_at k.methods m).constraints
  pub own_within : Within k.head.cues (span x)
  pub subs_within : Each (Within k.head.cues) (subtask_spans x)

pub method_node : (k : Case) (letter label : ℕ) (x : Tree) → Proper k x → Labels letter label (root_line x) → names_method letter ≡ true → MethodNode k label x
unfolding root_line constraints_of subtask_spans
method_node k letter label (leaf a i) p l e = absurd (true≢false (sym e ∙ l))
method_node k letter label (empty m g) p l e =
    subst (λ (n : ℕ). MethodNode k n (empty m g)) (sym l.1)
    (record { below = p.1; count = sym p.2; brings = refl; own_within = p.0; subs_within = λ s q. absurd (Memᴰ.not-nil q) })
method_node k letter label (task m ts) p l e =
    subst (λ (n : ℕ). MethodNode k n (task m ts)) (sym l.1)
    (record { below = p.1; count = p.2; brings = refl; own_within = p.0; subs_within = p.3 })

pub no_constraints : (k : Case) (letter label : ℕ) (x : Tree) → Labels letter label (root_line x) → names_method letter ≡ false → constraints_of k x ≡ []
unfolding root_line constraints_of
no_constraints k letter label (leaf a i) l e = refl
no_constraints k letter label (empty m g) l e = absurd (true≢false (sym l.0 ∙ e))
no_constraints k letter label (task m ts) l e = absurd (true≢false (sym l.0 ∙ e))

pub method_good : (k : Case) (m : ℕ) → Sound k → m < k.head.methods → GoodMethod k.head (method_at k.methods m)
unfolding method_at
method_good k m s h = each_at (GoodMethod k.head) k.methods m no_method s.methods_good (let e = s.methods_length in omega arith)

-- ---- once its subtasks' nodes are stored

module _ {k : Case} {t : Tree} {fields : List ℕ} {header : Header} {plan_line nodes : ℕ} {states work : List ℕ}
    (r : Ready k t fields header plan_line nodes states work) (n : ℕ) (h : n < size t) (m : ℕ) (w : MethodNode k m (node_of_tree t n)) where
  abbrev x : Tree
  x = node_of_tree t n

  subtrees_held : HeldAll work (subtrees_of x) (n + 1)
  subtrees_held = held_subtrees work x n (node_held r n h)

  pub few_subtrees : count_of (subtrees_of x) ≤ 32
  few_subtrees =
      let g = (method_good k m (is_sound r) w.below).few_subtasks in
      let e = w.count in omega arith

  pub subtrees_inside : Each (RowInside work) (siblings work (n + 1) (count_of (subtrees_of x)))
  subtrees_inside = siblings_inside work (subtrees_of x) (n + 1) subtrees_held

  abbrev after : List ℕ
  after = sets work subtasks_from (siblings work (n + 1) (count_of (subtrees_of x)))

  few_nodes : length (siblings work (n + 1) (count_of (subtrees_of x))) ≤ 32
  few_nodes = let e = siblings_length work (n + 1) (count_of (subtrees_of x)) in let f = few_subtrees in omega arith

  pub after_leaves : Leaves work after
  after_leaves = leaves_stored work (siblings work (n + 1) (count_of (subtrees_of x))) few_nodes

  inside_after : (j : ℕ) → RowInside work j → RowInside after j
  unfolding RowInside
  inside_after j b = let e = after_leaves.same_size in omega arith

  pub own_inside : RowInside after n
  own_inside = inside_after n (root_row work x n (node_held r n h)).inside

  pub own_span : row_span after n ≡ span x
  own_span =
      ap (λ (g : ℕ → Span). g n) (rows_stored work (siblings work (n + 1) (count_of (subtrees_of x))) few_nodes)
      ∙ (root_row work x n (node_held r n h)).spanned

  pub placed : Placed k.head.cues (span x) (subtask_spans x) after states (holds_in (states_of k))
  unfolding spans_in subtasks_past work_need
  placed =
      let ns : List ℕ = siblings work (n + 1) (count_of (subtrees_of x)) in
      let rest : List ℕ = take (32 - length ns) (drop (subtasks_from + length ns) work) in
      let are : nodes_in after ≡ ns ++ rest = nodes_stored work ns few_nodes (let f = r.room in omega arith) in
      let spanned : map (row_span work) ns ≡ subtask_spans x = siblings_spans work (subtrees_of x) (n + 1) subtrees_held ∙ subtrees_spans x in
      let long : length (subtask_spans x) ≡ length ns = ap length (sym spanned) ∙ length-map ns (row_span work) in
      record {
        others = map (row_span after) rest;
        spans_are = ap (map (row_span after)) are ∙ map-append (row_span after) ns rest
            ∙ ap (λ (l : List Span). l ++ map (row_span after) rest) (ap (λ (g : ℕ → Span). map g ns) (rows_stored work ns few_nodes) ∙ spanned);
        few = let f = few_nodes in omega arith;
        inside = λ j b.
            let here : j < length ns = omega arith in
            subst (RowInside after) (sym (ap (λ (l : List ℕ). get_or l j 0) are ∙ get_or-append ns rest 0 j here))
            (inside_after (get_or ns j 0) (each_at (RowInside work) ns j 0 subtrees_inside here));
        own_within = w.own_within;
        subs_within = w.subs_within;
        agree = states_agree r;
      }
