-- One node whose constraints are entered: its lines and its subtasks' lines stand among the fields, and what its parts say of every choice
-- makes the entries of its constraints sound. Assumes nothing.
use mathlib.Core.Path.{◌≡◌, refl, sym, ap, subst, ◌∙◌}
use mathlib.Core.Bool.{Bool}
use mathlib.Core.List.{List, ◌∷◌, ◌++◌, map, append-nil}
use mathlib.Core.List.Memᴰ.{append_left as in_left}
use mathlib.Core.List.Memᴰ.{append_right as in_right}
use mathlib.Core.List.Memᴰ.{head as here}
use mathlib.Core.List.Memᴰ.{tail as there}
use mathlib.Core.List.{Memᴰ as Mem}
use Prim.Native.Nat.{ℕ, ◌+◌, ◌≤◌, ◌<◌}
use native.Mathlib.Omega.{arith}
use lib.ListN.{length, get_or, take, drop, length-append, length-drop, length-map, take-append-drop}
use Rattle.rules.specs.declared.Header.{Header}
use Rattle.rules.specs.declared.Sign.{Sign}
use Rattle.rules.specs.Case.{Constraint, O, B, F, W, method_at, NodeLine, Case}
use Rattle.rules.specs.Fields.{lines_fields, node_line}
use Rattle.rules.specs.Tree.{Tree, leaf, empty, task, no_tree, more, preorder, root_line}
use Rattle.rules.specs.Constraint.{holds_in, parts_of}
use Rattle.rules.specs.Verdict.{states_of}
use Rattle.rules.specs.Ranges.{GoodConstraint, GoodNode}
use Rattle.rules.specs.Gaps.{empty_count, Choice, ChoiceOf}
use Rattle.rules.proofs.Judgement.Each.{Each, each_at}
use Rattle.rules.proofs.Judgement.Preorder.{lines_of, lines_of_all, lines_more}
use Rattle.rules.proofs.Gaps.Trees.{empties_in, regapped, empty_append, empties_lines}
use Rattle.fields.specs.Standing.{Stands}
use Rattle.fields.specs.Directory.{node_size}
use Rattle.fields.proofs.Standing.{stands_left, stands_as}
use Rattle.tree.specs.Layout.{size, sizes}
use Rattle.rows.specs.Rows.{in_row}
use Rattle.records.specs.Records.{NodesStand}
use Rattle.constraints.specs.Methods.{meant}
use Rattle.constraints.specs.Ready.{Ready, node_of_tree}
use Rattle.constraints.proofs.Held.{preorder_length, held_subtrees, subtrees_of, count_of}
use Rattle.constraints.proofs.Finding.{NodeHere, node_here}
use Rattle.constraints.proofs.Nodes.{is_sound, tree_is, size_is, node_held, states_agree, MethodNode, method_good, few_subtrees}
use Rattle.gaps.proofs.Spans.{ProperTree, proper_tree}
use Rattle.gaps.proofs.Lines.{Counting}
use Rattle.entering.specs.declared.sums.Part.{Part}
use Rattle.entering.specs.declared.nodes.Visited.{Visited}
use Rattle.entering.specs.Entering.{BreaksFail}
use Rattle.entering.specs.Trees.{TreesStand, PartSays, PartsSaid}
use Rattle.entering.specs.Lines.{InSums, EntriesSound}
use Rattle.entering.specs.Visits.{Visiting}
use Rattle.entering.proofs.Cuts.{lines_join, node_with_lem, constraints_with, node_lines}
use Rattle.entering.proofs.Telling.{node_tells, subtrees_empties, proper_nodes}
use Rattle.entering.proofs.Sound.{entry_breaks}

abbrev fields_of : List NodeLine → List ℕ
fields_of ns = lines_fields (map node_line ns)

-- ---- A tree and its subtrees

root_lines : (x : Tree) → lines_of x ≡ root_line x ∷ lines_of_all (subtrees_of x)
unfolding preorder
root_lines (leaf x i) = refl
root_lines (empty m g) = refl
root_lines (task m xs) = refl

root_size : (x : Tree) → size x ≡ 1 + sizes (subtrees_of x)
unfolding size
root_size (leaf x i) = refl
root_size (empty m g) = refl
root_size (task m xs) = refl

one_lines : (x : Tree) → lines_of_all (more x no_tree) ≡ lines_of x
unfolding preorder
one_lines x = lines_more x no_tree ∙ append-nil (lines_of x)

lines_size : (x : Tree) → length (lines_of x) ≡ size x
lines_size x = length-map (preorder x) root_line ∙ preorder_length x

-- ---- Node n of a case

module _ {k : Case} {t : Tree} {fields : List ℕ} {header : Header} {plan_line nodes : ℕ} {states work : List ℕ}
    (r : Ready k t fields header plan_line nodes states work) (n : ℕ) (below : n < size t) where
  abbrev node : Tree
  node = node_of_tree t n

  pub lines_after : (rest : List NodeLine) × (drop n k.nodes ≡ lines_of node ++ rest)
  lines_after = let c = node_lines t n below in (c.0, ap (drop n) (sym (tree_is r).preordered) ∙ c.1)

  -- Its own line, and where those after it stand.
  pub line_here : (at : ℕ) → Stands fields at (fields_of (drop n k.nodes))
      → NodeHere fields at (root_line node) (lines_of_all (subtrees_of node) ++ lines_after.0)
  line_here at s =
      let rest = lines_after.0 in
      node_here fields at (lines_of_all (subtrees_of node) ++ rest) (root_line node)
      (subst (λ (l : List NodeLine). Stands fields at (fields_of l)) (lines_after.1 ∙ ap (λ (l : List NodeLine). l ++ rest) (root_lines node)) s)

  node_proper : ProperTree k.head.cues node
  unfolding node_of_tree
  node_proper =
      each_at (ProperTree k.head.cues) (preorder t) n (leaf 0 0)
      (proper_nodes k.head.cues t (proper_tree k t k.head.goal roots (tree_is r).fitting)) (omega (arith, preorder_length t))
    where
      mapped : (x : Tree) (l : List Tree) → Mem x l → Mem (root_line x) (map root_line l)
      mapped x l (here e) = here (ap root_line e)
      mapped x (y ∷ l) (there m) = there (mapped x l m)

      roots : Each (λ x. GoodNode k.head (root_line x)) (preorder t)
      roots x m = (is_sound r).nodes_good (root_line x) (subst (λ (l : List NodeLine). Mem (root_line x) l) (tree_is r).preordered (mapped x (preorder t) m))

-- ---- A node that is entered

module _ {k : Case} {t : Tree} {fields : List ℕ} {cues e : ℕ} {states work : List ℕ} {x : Visited} (v : Visiting k t fields cues e states work x) where
  abbrev r : Ready k t fields v.node.header v.node.plan_line v.node.nodes states work
  r = v.node.ready

  abbrev y : Tree
  y = node_of_tree t x.n

  abbrev rest : List NodeLine
  rest = (lines_after r x.n v.node.below).0

  split : drop x.n k.nodes ≡ lines_of y ++ rest
  split = (lines_after r x.n v.node.below).1

  cues_are : cues ≡ k.head.cues
  cues_are = let c = v.node.counted in omega arith

  pub few_cues : cues ≤ 1000
  few_cues = let c = cues_are in let f = (is_sound r).head_good.few_cues in omega arith

  first_is : x.first ≡ empty_count (take x.n k.nodes)
  first_is =
      let ns = k.nodes in
      let c = v.counts.same in
      let s = empty_append (take x.n ns) (drop x.n ns) in
      omega (arith, ap empty_count (take-append-drop x.n ns))

  own_empties : x.first + empties_in y ≤ e
  own_empties =
      let c = v.counts.same in
      let s = ap empty_count split ∙ empty_append (lines_of y) rest in
      let z = v.empties in
      omega (arith, empties_lines y)

  own_size : size y ≤ 3000
  own_size =
      let s = is_sound r in
      let f = s.head_good.few_nodes in
      let l = s.nodes_length in
      let c = ap length split ∙ length-append (lines_of y) rest in
      omega (arith, lines_size y, length-drop x.n k.nodes)

  own_good : Each (GoodNode k.head) (lines_of y)
  own_good z m =
      (is_sound r).nodes_good z
      (subst (λ (l : List NodeLine). Mem z l) (take-append-drop x.n k.nodes)
      (in_right (take x.n k.nodes) (subst (λ (l : List NodeLine). Mem z l) (sym split) (in_left rest m))))

  -- Its own line lies inside the fields.
  pub line_inside : x.at + node_size x.letter ≤ length fields
  line_inside =
      subst (λ (l : ℕ). x.at + node_size l ≤ length fields) (sym v.lettered) (line_here r x.n v.node.below x.at v.counts.here).past

  -- Its lines stand, and those of its subtasks.
  pub whole_stands : e ≤ 32 → TreesStand fields work x.n x.at x.first 1 (more y no_tree)
  unfolding size empties_in
  whole_stands few =
      let a = own_size in
      let b = own_empties in
      record {
        header = k.head;
        few_cues = (is_sound r).head_good.few_cues;
        rows = (node_held r x.n v.node.below, tt);
        counted = refl;
        lines = stands_as fields x.at (fields_of (lines_of y)) (fields_of (lines_of_all (more y no_tree))) (ap fields_of (sym (one_lines y)))
            (stands_left fields x.at (fields_of (lines_of y)) (fields_of rest)
            (stands_as fields x.at (fields_of (drop x.n k.nodes)) (fields_of (lines_of y) ++ fields_of rest)
            (ap fields_of split ∙ lines_join (lines_of y) rest) v.counts.here));
        good = subst (λ (l : List NodeLine). Each (GoodNode k.head) l) (sym (one_lines y)) own_good;
        few_nodes = omega arith;
        few_empties = omega arith;
      }

  pub parts_stand : e ≤ 32 → (place count : ℕ) → place ≡ node_size x.letter → count ≡ count_of (subtrees_of y)
      → TreesStand fields work (x.n + 1) (x.at + place) x.first count (subtrees_of y)
  parts_stand few place count f g =
      let a = own_size in
      let b = own_empties in
      let c = root_size y in
      let z = subtrees_empties y in
      let all = lines_of_all (subtrees_of y) in
      record {
        header = k.head;
        few_cues = (is_sound r).head_good.few_cues;
        rows = held_subtrees work y x.n (node_held r x.n v.node.below);
        counted = sym g;
        lines = stands_left fields (x.at + place) (fields_of all) (fields_of rest)
            (stands_as fields (x.at + place) (fields_of (all ++ rest)) (fields_of all ++ fields_of rest) (lines_join all rest)
            (subst (λ (s : ℕ). Stands fields (x.at + s) (fields_of (all ++ rest))) (sym (f ∙ ap node_size v.lettered))
            (line_here r x.n v.node.below x.at v.counts.here).next));
        good = λ l m. own_good l (subst (λ (ls : List NodeLine). Mem l ls) (sym (root_lines y)) (there m));
        few_nodes = omega arith;
        few_empties = omega arith;
      }

  -- ---- Its constraints

  module _ (w : MethodNode k x.label y) where
    good : Each (GoodConstraint k.head (count_of (subtrees_of y))) (method_at k.methods x.label).constraints
    good = subst (λ (c : ℕ). Each (GoodConstraint k.head c) (method_at k.methods x.label).constraints) (sym w.count)
        (method_good k x.label (is_sound r) w.below).constraints_good

    few : count_of (subtrees_of y) ≤ 32
    few = few_subtrees r x.n v.node.below x.label w

    pub in_sums : Each InSums (method_at k.methods x.label).constraints
    in_sums d m = go d (good d m)
      where
        go : (d : Constraint) → GoodConstraint k.head (count_of (subtrees_of y)) d → InSums d
        go (O i j) g = let f = few in (omega (arith, g.0), omega (arith, g.1))
        go (B s p u) g = tt
        go (F s p u) g = tt
        go (W s u p v) g = tt

    -- A broken entry of theirs makes a choice fail.
    pub entries_sound : e ≤ 32 → (own : Part) (sums : List Part) → PartSays cues x.first (lines_of y) own → PartsSaid cues x.first (subtrees_of y) sums 0
        → (passing : List ℕ → Bool) → BreaksFail k t passing
        → EntriesSound (in_row states) passing cues e own sums (method_at k.methods x.label).constraints
    unfolding parts_of
    entries_sound small own sums says said passing breaks d m fits gs choice broken =
        let c = cues_are in
        let proper : ProperTree cues y = subst (λ (q : ℕ). ProperTree q y) (sym c) (node_proper r x.n v.node.below) in
        let tells = node_tells e y sums says said proper own_empties few in
        let agree : (z : Sign) (p l : ℕ) → l ≤ cues → in_row states z p l ≡ holds_in (states_of k) z p l = λ z p l h. states_agree r z p l (omega arith) in
        let of_case : ChoiceOf k gs = subst (λ (q : ℕ). Choice q (empty_count k.nodes) gs) c (subst (λ (q : ℕ). Choice cues q gs) (sym v.empties) choice) in
        let from : empty_count (take x.n (lines_of t)) ≡ x.first = ap (λ (l : List NodeLine). empty_count (take x.n l)) (tree_is r).preordered ∙ sym first_is in
        breaks gs of_case (regapped gs x.first y)
        (subst (λ (a : ℕ). Mem (regapped gs a y) (preorder (regapped gs 0 t))) from (node_with_lem gs t x.n v.node.below))
        (meant d)
        (subst (λ (l : List Constraint). Mem (meant d) l) (sym (constraints_with k gs x.first y ∙ w.brings)) m)
        (entry_breaks tells small k.head gs choice (in_row states) (holds_in (states_of k)) agree d (good (meant d) m) fits broken)

-- ---- The nodes in order

module _ {k : Case} {t : Tree} {fields : List ℕ} {header : Header} {plan_line nodes : ℕ} {states work : List ℕ}
    (r : Ready k t fields header plan_line nodes states work) where
  pub nodes_stand : NodesStand fields nodes header.nodes k.nodes
  nodes_stand = record { here = r.finds.nodes_here; counted = (is_sound r).nodes_length ∙ ap (λ (h : Header). h.nodes) (sym r.head) }

  pub few_all : header.nodes ≤ 3000
  few_all = subst (λ (h : Header). h.nodes ≤ 3000) (sym r.head) (is_sound r).head_good.few_nodes

  -- The node whose line is due.
  pub visited : (n at first e : ℕ) → n < header.nodes → Counting empty_count fields k.nodes at n first → empty_count k.nodes ≡ e
      → Visiting k t fields header.cues e states work
      (record { n = n; at = at; letter = get_or fields at 0; label = get_or fields (at + 1) 0; first = first })
  visited n at first e due counts all =
      let below : n < size t = omega (arith, size_is r, ap (λ (h : Header). h.nodes) r.head) in
      record {
        node = record {
          header = header;
          plan_line = plan_line;
          nodes = nodes;
          ready = r;
          counted = ap (λ (h : Header). h.cues + 1) r.head;
          below = below;
          labels = (line_here r n below at counts.here).labels;
        };
        lettered = refl;
        counts = counts;
        empties = all;
      }
