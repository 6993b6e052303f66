-- One node's constraints, by what the code read and stored for it; and the nodes in order: the first broken constraint of the whole tree is
-- that from here on, after the nodes that kept theirs. Assumes nothing.
use mathlib.Core.Path.{◌≡◌, refl, sym, ap, ap₂, subst, ◌∙◌}
use mathlib.Core.Bool.{true, false}
use mathlib.Core.List.{List, [], ◌∷◌, map}
use mathlib.Core.Option.{Option, none, some}
use Prim.Native.Nat.{ℕ, suc, ◌+◌, ◌≤◌, ◌<◌}
use native.Mathlib.Numerals.{add-one}
use native.Mathlib.Omega.{arith}
use lib.ListN.{length, get_or, drop, get_or-map, drop_of_length-le}
use lib.Seq.{sets, drop-cons}
use Rattle.std.specs.Prelude.{Result, Ok, Err}
use Rattle.rules.specs.declared.Header.{Header}
use Rattle.rules.specs.declared.Answer.{Answer}
use Rattle.rules.specs.Index.{Span, span_of_part}
use Rattle.rules.specs.Case.{Constraint, Method, method_at, NodeLine, L, Case}
use Rattle.rules.specs.Fields.{lines_fields, node_line}
use Rattle.rules.specs.Tree.{Tree, leaf, preorder, root_line, span, subtask_spans}
use Rattle.rules.specs.Constraint.{holds_in, constraints_of, parts_of, first_broken_of, or_else, first_broken}
use Rattle.rules.specs.Verdict.{work_need, states_of}
use Rattle.rules.proofs.Judgement.Each.{Each}
use Rattle.rules.proofs.Judgement.Sound.{GoodConstraint}
use Rattle.fields.specs.Standing.{Stands}
use Rattle.fields.specs.Directory.{methods_from, node_size}
use Rattle.tree.specs.Layout.{subtasks_past, subtasks_from, size}
use Rattle.rows.specs.Rows.{in_row}
use Rattle.parts.specs.Spans.{row_span, RowInside, siblings, spans_in}
use Rattle.parts.specs.Tests.{Tested}
use Rattle.constraints.specs.Methods.{kept_as}
use Rattle.constraints.specs.Ready.{Ready, Leaves, names_method, Labels, node_of_tree, NodeReady, broken_of_node, broken_of_tree}
use Rattle.constraints.proofs.Held.{count_of, subtrees_of, subtrees_spans, spans_length, preorder_length}
use Rattle.constraints.proofs.Judging.{good_tested, broken_same}
use Rattle.constraints.proofs.Finding.{MethodHere, method_here_lem, NodeHere, node_here}
use Rattle.constraints.proofs.Stores.{leaves_all, leaves_then}
use Rattle.constraints.proofs.Nodes.{is_sound, tree_is, size_is, ready_leaves, node_proper, MethodNode, method_node, no_constraints, method_good, few_subtrees, subtrees_inside, after_leaves, own_inside, own_span, placed}

-- ---- one node

-- No constraints: nothing is broken.
none_of : (k : Case) (t : Tree) (line n : ℕ) → constraints_of k (node_of_tree t n) ≡ [] → Ok tt ≡ kept_as (broken_of_node k t line n)
unfolding broken_of_node
none_of k t line n e = sym (ap (λ (ds : List Constraint). kept_as (first_broken_of (holds_in (states_of k)) (parts_of (node_of_tree t n)) line 0 ds)) e)

-- A leaf brings none.
pub leaf_kept : (k : Case) (t : Tree) (line n letter label : ℕ) → Labels letter label (root_line (node_of_tree t n)) → names_method letter ≡ false
    → Ok tt ≡ kept_as (broken_of_node k t line n)
leaf_kept k t line n letter label l e = none_of k t line n (no_constraints k letter label (node_of_tree t n) l e)

-- Node n, whose line names a method, among what the phases before left.
pub record Standing (k : Case) (t : Tree) (fields : List ℕ) (header : Header) (plan_line nodes : ℕ) (states work : List ℕ) (n label : ℕ) : Type 0 where
  pub ready : Ready k t fields header plan_line nodes states work
  pub below : n < size t
  pub node : MethodNode k label (node_of_tree t n)

abbrev pub standing : {k : Case} {t : Tree} {fields : List ℕ} {held : ℕ} {states work : List ℕ} {n letter label : ℕ}
    (v : NodeReady k t fields held states work n letter label) → names_method letter ≡ true → Standing k t fields v.header v.plan_line v.nodes states work n label
standing {k} {t} {n = n} {letter = letter} {label = label} v names =
    record {
      ready = v.ready;
      below = v.below;
      node = method_node k letter label (node_of_tree t n) (node_proper v.ready n v.below) v.labels names;
    }

module _ {k : Case} {t : Tree} {fields : List ℕ} {header : Header} {plan_line nodes : ℕ} {states work : List ℕ} {n label : ℕ}
    (w : Standing k t fields header plan_line nodes states work n label) where
  abbrev r : Ready k t fields header plan_line nodes states work
  r = w.ready

  abbrev h : n < size t
  h = w.below

  abbrev node_is : MethodNode k label (node_of_tree t n)
  node_is = w.node

  abbrev method : Method
  method = method_at k.methods label

  pub few_enough : n + 1 ≤ 4294967295
  few_enough =
      let f = (is_sound r).head_good.few_nodes in
      let e = size_is r in omega arith

  pub room_before : subtasks_past ≤ length work
  unfolding subtasks_past work_need
  room_before = let f = r.room in omega arith

  -- ---- its method's line

  pub listed_inside : methods_from + label < length work
  unfolding methods_from work_need
  listed_inside =
      let f = (is_sound r).head_good.few_methods in
      let g = r.room in
      let b = node_is.below in omega arith

  module _ (place : ℕ) (listed : place ≡ get_or work (methods_from + label) 0) where
    pub method_found : MethodHere fields place method
    method_found = subst (λ (q : ℕ). MethodHere fields q method) (sym listed)
        (method_here_lem fields (get_or work (methods_from + label) 0) method (r.finds.method_here label node_is.below))

    abbrev subtasks : ℕ
    subtasks = get_or fields (place + 2) 0

    -- It has no constraints.
    pub none_follow : (line : ℕ) → get_or fields (place + 3 + subtasks) 0 ≡ 0 → Ok tt ≡ kept_as (broken_of_node k t line n)
    none_follow line e = none_of k t line n (node_is.brings ∙ no_length method.constraints (method_found.constraints.counted ∙ e))
      where
        no_length : (ds : List Constraint) → length ds ≡ 0 → ds ≡ []
        no_length [] e = refl
        no_length (d ∷ ds) e = absurd (omega arith)

    -- ---- its subtasks' nodes

    counted : subtasks ≡ count_of (subtrees_of (node_of_tree t n))
    counted = method_found.subtasks ∙ sym node_is.count

    pub few_second : subtasks ≤ 32
    few_second = let e = counted in let f = few_subtrees r n h label node_is in omega arith

    pub nodes_inside : Each (RowInside work) (siblings work (n + 1) subtasks)
    nodes_inside =
        subst (λ (c : ℕ). Each (RowInside work) (siblings work (n + 1) c)) (sym counted)
        (subtrees_inside r n h label node_is)

    -- ---- once they are stored

    -- Of no subtasks there is nothing to note.
    pub none_noted : subtasks ≡ 0 → work ≡ sets work subtasks_from (siblings work (n + 1) subtasks)
    none_noted e = sym (ap (λ (c : ℕ). sets work subtasks_from (siblings work (n + 1) c)) e)

    module _ (new : List ℕ) (stores : new ≡ sets work subtasks_from (siblings work (n + 1) subtasks)) where
      is_after : new ≡ sets work subtasks_from (siblings work (n + 1) (count_of (subtrees_of (node_of_tree t n))))
      is_after = stores ∙ ap (λ (c : ℕ). sets work subtasks_from (siblings work (n + 1) c)) counted

      pub new_leaves : Leaves work new
      new_leaves = subst (Leaves work) (sym is_after) (after_leaves r n h label node_is)

      pub new_inside : RowInside new n
      new_inside =
          subst (λ (l : List ℕ). RowInside l n) (sym is_after) (own_inside r n h label node_is)

      pub new_room : subtasks_past ≤ length new
      new_room = subst (λ (c : ℕ). subtasks_past ≤ c) (sym new_leaves.same_size) room_before

      good : Each (GoodConstraint k.head (length (subtask_spans (node_of_tree t n)))) method.constraints
      good =
          let e : length method.subtasks ≡ length (subtask_spans (node_of_tree t n)) =
          sym node_is.count ∙ sym (spans_length (subtrees_of (node_of_tree t n))) ∙ ap length (subtrees_spans (node_of_tree t n)) in
          subst (λ (c : ℕ). Each (GoodConstraint k.head c) method.constraints) e
          (method_good k label (is_sound r) node_is.below).constraints_good

      module _ (own : Span) (owns : own ≡ row_span new n) where
        own_is : own ≡ span (node_of_tree t n)
        own_is =
            owns ∙ ap (λ (l : List ℕ). row_span l n) is_after ∙ own_span r n h label node_is

        pub new_tested : (held : ℕ) → held ≡ k.head.cues + 1 → Each (Tested new held own) method.constraints
        new_tested held e x i =
            subst (λ (c : ℕ). Tested new c own x) (sym e)
            (subst (λ (l : List ℕ). Tested l (k.head.cues + 1) own x) (sym is_after)
            (subst (λ (s : Span). Tested (sets work subtasks_from (siblings work (n + 1) (count_of (subtrees_of (node_of_tree t n))))) (k.head.cues + 1) s x) (sym own_is)
            (good_tested k.head k.head.cues (span (node_of_tree t n)) (subtask_spans (node_of_tree t n))
            (sets work subtasks_from (siblings work (n + 1) (count_of (subtrees_of (node_of_tree t n))))) states (holds_in (states_of k))
            (placed r n h label node_is) x (good x i))))

        pub new_kept : (line : ℕ) (kept : Result (Unit {0}) Answer)
            → kept ≡ kept_as (first_broken_of (in_row states) (span_of_part own (spans_in new)) line 0 method.constraints)
            → kept ≡ kept_as (broken_of_node k t line n)
        unfolding broken_of_node parts_of
        new_kept line kept e =
            let y = node_of_tree t n in
            e
            ∙ ap (λ (l : List ℕ). kept_as (first_broken_of (in_row states) (span_of_part own (spans_in l)) line 0 method.constraints)) is_after
            ∙ ap₂ (λ (s : Span) (cs : List Constraint). kept_as (first_broken_of (in_row states) (span_of_part s (spans_in (sets work subtasks_from (siblings work (n + 1) (count_of (subtrees_of y)))))) line 0 cs)) own_is (sym node_is.brings)
            ∙ ap kept_as (broken_same k.head k.head.cues (span y) (subtask_spans y)
            (sets work subtasks_from (siblings work (n + 1) (count_of (subtrees_of y)))) states (holds_in (states_of k))
            (placed r n h label node_is) line 0 (constraints_of k y)
            (subst (λ (cs : List Constraint). Each (GoodConstraint k.head (length (subtask_spans y))) cs) (sym node_is.brings) good))

-- ---- the nodes in order

unfoldable pub broken_from : Case → Tree → ℕ → Option Answer
broken_from k t n = first_broken k (holds_in (states_of k)) (k.plan_line + 1 + n) (drop n (preorder t))

pub record Going (k : Case) (t : Tree) (fields : List ℕ) (header : Header) (plan_line nodes : ℕ) (states start work : List ℕ) (place n : ℕ) : Type 0 where
  pub ready : Ready k t fields header plan_line nodes states work
  pub leaves : Leaves start work
  pub most : n ≤ size t
  pub lines : Stands fields place (lines_fields (map node_line (drop n k.nodes)))
  pub same : broken_of_tree k t ≡ broken_from k t n

or_else_none : (o later : Option Answer) → Ok tt ≡ kept_as o → or_else o later ≡ later
or_else_none none later e = refl
or_else_none (some a) later e = let z : ◌≡◌ {A = ℕ} 0 1 = cc in absurd (omega arith)

or_else_some : (o later : Option Answer) (a : Answer) → Err a ≡ kept_as o → or_else o later ≡ some a
or_else_some none later a e = let z : ◌≡◌ {A = ℕ} 0 1 = cc in absurd (omega arith)
or_else_some (some b) later a e = let same : b ≡ a = cc in ap some same

module _ {k : Case} {t : Tree} {fields : List ℕ} {header : Header} {plan_line nodes : ℕ} {states start : List ℕ} where
  pub going_starts : Ready k t fields header plan_line nodes states start → Going k t fields header plan_line nodes states start start nodes 0
  unfolding broken_of_tree broken_from
  going_starts r =
      let first : k.plan_line + 1 ≡ k.plan_line + 1 + 0 = omega arith in
      record {
        ready = r;
        leaves = leaves_all start;
        most = omega arith;
        lines = r.finds.nodes_here;
        same = ap (λ (l : ℕ). first_broken k (holds_in (states_of k)) l (preorder t)) first;
      }

  module _ {work : List ℕ} {place n : ℕ} (g : Going k t fields header plan_line nodes states start work place n) where
    pub all_nodes : size t ≡ header.nodes
    all_nodes = size_is g.ready ∙ ap (λ (x : Header). x.nodes) (sym g.ready.head)

    module _ (more : n < header.nodes) where
      pub below : n < size t
      below = let e = all_nodes in omega arith

      -- The line of this node, and where those after it stand.
      pub going_line : NodeHere fields place (root_line (node_of_tree t n)) (drop (n + 1) k.nodes)
      unfolding node_of_tree root_line
      going_line =
          let s = is_sound g.ready in
          let e = all_nodes in
          let z = size_is g.ready in
          let len = s.nodes_length in
          let cut : drop n k.nodes ≡ get_or k.nodes n (L 0 0) ∷ drop (n + 1) k.nodes =
          drop-cons k.nodes n (L 0 0) (omega arith) ∙ ap (λ (i : ℕ). get_or k.nodes n (L 0 0) ∷ drop i k.nodes) (sym (add-one n)) in
          subst (λ (x : NodeLine). NodeHere fields place x (drop (n + 1) k.nodes))
          (ap (λ (l : List NodeLine). get_or l n (L 0 0)) (sym (tree_is g.ready).preordered)
          ∙ get_or-map root_line (preorder t) n (leaf 0 0))
          (node_here fields place (drop (n + 1) k.nodes) (get_or k.nodes n (L 0 0))
          (subst (λ (xs : List NodeLine). Stands fields place (lines_fields (map node_line xs))) cut g.lines))

      pub node_ready : NodeReady k t fields (header.cues + 1) states work n (get_or fields place 0) (get_or fields (place + 1) 0)
      node_ready = record {
        header = header;
        plan_line = plan_line;
        nodes = nodes;
        ready = g.ready;
        counted = ap (λ (x : Header). x.cues + 1) g.ready.head;
        below = below;
        labels = going_line.labels;
      }

      this_node : broken_from k t n ≡ or_else (broken_of_node k t (k.plan_line + 1 + n) n) (broken_from k t (n + 1))
      unfolding broken_of_node broken_from first_broken node_of_tree
      this_node =
          let len = preorder_length t in
          let b = below in
          let next : suc n ≡ n + 1 = sym (add-one n) in
          let line : k.plan_line + 1 + n + 1 ≡ k.plan_line + 1 + (n + 1) = omega arith in
          ap (first_broken k (holds_in (states_of k)) (k.plan_line + 1 + n)) (drop-cons (preorder t) n (leaf 0 0) (omega arith))
          ∙ ap₂ (λ (l i : ℕ). or_else (broken_of_node k t (k.plan_line + 1 + n) n) (first_broken k (holds_in (states_of k)) l (drop i (preorder t)))) line next

      pub going_breaks : (line : ℕ) (answer : Answer) → line ≡ plan_line + 1 + n → Err answer ≡ kept_as (broken_of_node k t line n)
          → Err answer ≡ kept_as (broken_of_tree k t)
      going_breaks line answer e b =
          let at : line ≡ k.plan_line + 1 + n = e ∙ ap (λ (p : ℕ). p + 1 + n) g.ready.plans in
          sym (ap kept_as (g.same ∙ this_node
          ∙ or_else_some (broken_of_node k t (k.plan_line + 1 + n) n) (broken_from k t (n + 1)) answer (b ∙ ap (λ (l : ℕ). kept_as (broken_of_node k t l n)) at)))

      pub going_on : (line : ℕ) (new : List ℕ) (size : ℕ) → line ≡ plan_line + 1 + n → Ok tt ≡ kept_as (broken_of_node k t line n) → Leaves work new
          → size ≡ node_size (get_or fields place 0) → Going k t fields header plan_line nodes states start new (place + size) (n + 1)
      going_on line new size e b l f =
          let at : line ≡ k.plan_line + 1 + n = e ∙ ap (λ (p : ℕ). p + 1 + n) g.ready.plans in
          let h = below in
          record {
            ready = ready_leaves g.ready new l;
            leaves = leaves_then g.leaves l;
            most = omega arith;
            lines = subst (λ (s : ℕ). Stands fields (place + s) (lines_fields (map node_line (drop (n + 1) k.nodes)))) (sym f) going_line.next;
            same = g.same ∙ this_node
                ∙ or_else_none (broken_of_node k t (k.plan_line + 1 + n) n) (broken_from k t (n + 1)) (b ∙ ap (λ (m : ℕ). kept_as (broken_of_node k t m n)) at);
          }

    pub going_ends : header.nodes ≤ n → Ok tt ≡ kept_as (broken_of_tree k t)
    unfolding broken_from first_broken
    going_ends over =
        let len = preorder_length t in
        let e = all_nodes in
        sym (ap kept_as (g.same ∙ ap (first_broken k (holds_in (states_of k)) (k.plan_line + 1 + n)) (drop_of_length-le (preorder t) {i = n} (omega arith))))
