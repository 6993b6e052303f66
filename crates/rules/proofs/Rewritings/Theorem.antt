-- The rules of a claimed tree hold exactly when a complete rewriting of the goal agrees with it. A tree that fits is a rewriting in preorder,
-- and the record of a rewriting makes its lines fit; then the statements of both sides agree one by one: claims, places and constraints.
use mathlib.Core.Path.{◌≡◌, refl, sym, ◌∙◌, ap, subst}
use mathlib.Core.List.{List, [], ◌∷◌, ◌++◌, map, map-map, append-nil}
use mathlib.Core.List.Memᴰ.{cast as in-cast}
use mathlib.Core.List.Memᴰ.{head as here}
use mathlib.Core.List.Memᴰ.{map as in_map}
use mathlib.Core.List.Memᴰ.{not-nil}
use mathlib.Core.List.Memᴰ.{of_map}
use mathlib.Core.List.{Memᴰ as Mem}
use mathlib.Core.Logic.{◌↔◌}
use mathlib.Core.Bool.{true}
use Prim.Native.Nat.{ℕ, ◌<◌}
use Rattle.rules.specs.Case.{Constraint, method_at, NodeLine, D, E, L, Case}
use Rattle.rules.specs.Tree.{Tree, leaf, empty, task, preorder, root_line, no_subtasks}
use Rattle.rules.specs.State.{State}
use Rattle.rules.specs.Constraint.{constraints_of, parts_of}
use Rattle.rules.specs.Rules.{MethodOf, Fits, FitsTask, Keeps, Rules}
use Rattle.rules.proofs.Statements.{none_iff, some_iff}
use Rattle.rules.specs.Rewriting.{TaskPath, Occurrence, subtasks_of, Step, Steps, goal_alone, result, used, record_of, SameSet, subtasks_after, claimed_lines, right_kind, entry_of, claimed_record, gap, place_of, places_of, span_in, CompleteRewriting, PerformsPlan, AgreeingRewriting, RecordDecides}
use Rattle.rules.proofs.Rewritings.Statement.{Placed, line_names, claimed_names, Exact, exact_named, named_exact}
use Rattle.rules.proofs.Rewritings.Paths.{Spread}
use Rattle.rules.proofs.Rewritings.Records.{Named, used_entry, left_entry, used_inj, used≢left, record_parted, used_line, left_are}
use Rattle.rules.proofs.Rewritings.Steps.{gathered_iff, same_gathered, marked_used, added, Seen, seen_first, seen_last, seen_unique, used_seen}
use Rattle.rules.proofs.Rewritings.Lines.{FitLines, fit_exact, exact_fit, steps_of, leaves_of, fit_leads}
use Rattle.rules.proofs.Rewritings.Trees.{Node, nodes, lines_at, Distinct, distinct_lines, nodes_preorder, fits_node, tree_fit, named_tree, fit_tree}
use Rattle.rules.proofs.Rewritings.Claims.{line_place, claims_perform, performs_claim}
use Rattle.rules.proofs.Rewritings.Spans.{span_parts}

-- ---- A line, its entry and its constraints

module _ (k : Case) where
  root_fits : (x : Tree) (t : ℕ) → FitsTask k x t → Fits k (root_line x) t
  unfolding FitsTask root_line
  root_fits (leaf a i) t f = f
  root_fits (empty m g) t f = f
  root_fits (task m ts) t f = f.0

  -- A line that fits and stands for an empty method has a gap.
  line_gap : (l : NodeLine) (t m : ℕ) → Fits k l t → entry_of l ≡ used m → no_subtasks (method_at k.methods m) ≡ true → (g : ℕ) × Mem (gap g) (place_of l)
  unfolding entry_of place_of Fits
  line_gap (D n) t m f e none =
      absurd (f.1 (ap (λ x. (method_at k.methods x).subtasks) (used_inj n m e) ∙ (none_iff (method_at k.methods m)).0 none))
  line_gap (E n g) t m f e none = (g, here refl)
  line_gap (L a i) t m f e none = absurd (used≢left m a (sym e))

  -- The constraints of a tree's root are those of the method that its entry names.
  entry_brings : (x : Tree) (d : Constraint) → Mem d (constraints_of k x) ↔ ((m : ℕ) × (entry_of (root_line x) ≡ used m) × Mem d (method_at k.methods m).constraints)
  unfolding constraints_of entry_of root_line
  entry_brings (leaf a i) d = (λ h. absurd (not-nil h), λ w. absurd (used≢left w.0 a (sym w.1)))
  entry_brings (empty m g) d = (λ h. (m, refl, h), λ w. subst (λ n. Mem d (method_at k.methods n).constraints) (sym (used_inj m w.0 w.1)) w.2)
  entry_brings (task m ts) d = (λ h. (m, refl, h), λ w. subst (λ n. Mem d (method_at k.methods n).constraints) (sym (used_inj m w.0 w.1)) w.2)

  abbrev goal : Occurrence
  goal = ([], k.head.goal)

  goal_spread : Spread (goal ∷ [])
  goal_spread = (λ p h. absurd (not-nil h), tt)

  -- ---- With a tree that fits

  module _ (tree : Tree) (pre : map root_line (preorder tree) ≡ k.nodes) (fit : FitsTask k tree k.head.goal) where
    lines_tree : claimed_names k ≡ lines_at [] (nodes tree)
    unfolding claimed_names line_names
    lines_tree =
        ap (λ l. line_names k l (goal ∷ [])) (sym pre ∙ sym (append-nil (map root_line (preorder tree)))) ∙ named_tree k tree goal [] [] fit ∙ append-nil (lines_at [] (nodes tree))

    distinct : Distinct (claimed_names k)
    distinct = subst (λ l. Distinct l) (sym lines_tree) (distinct_lines tree)

    lines_nodes : map (λ (x : Named). x.1) (claimed_names k) ≡ k.nodes
    lines_nodes =
        ap (map (λ (x : Named). x.1)) lines_tree ∙ map-map (λ (x : Named). x.1) (λ (x : Node). (x.0, root_line x.1)) (nodes tree)
        ∙ sym (map-map root_line (λ (x : Node). x.1) (nodes tree)) ∙ ap (map root_line) (nodes_preorder tree) ∙ pre

    -- Each line is that of a subtree.
    line_node : (q : TaskPath) (l : NodeLine) → Mem (q, l) (claimed_names k) → (x : Tree) × Mem (q, x) (nodes tree) × (root_line x ≡ l)
    line_node q l h =
        let (x, i, e) = of_map {B = Named} (λ (x : Node). (x.0, root_line x.1)) (nodes tree) (subst (λ z. Mem (q, l) z) lines_tree h) in
        (x.1, in-cast (ap {B = Node} (λ (z : Named). (z.0, x.1)) (sym e)) i, ap (λ (z : Named). z.1) e)

    node_line_lem : (q : TaskPath) (x : Tree) → Mem (q, x) (nodes tree) → Mem (q, root_line x) (claimed_names k)
    node_line_lem q x h = subst (λ z. Mem (q, root_line x) z) (sym lines_tree) (in_map {B = Named} (λ (y : Node). (y.0, root_line y.1)) h)

    line_fits : (q : TaskPath) (l : NodeLine) → Mem (q, l) (claimed_names k) → (t : ℕ) × Fits k l t
    line_fits q l h =
        let (x, i, e) = line_node q l h in
        let (t, f) = fits_node k tree k.head.goal (q, x) fit i in
        (t, subst (λ z. Fits k z t) e (root_fits x t f))

    node_spans : (q : TaskPath) (x : Tree) → Mem (q, x) (nodes tree) → span_in (places_of (claimed_names k)) q ≡ parts_of x
    unfolding places_of
    node_spans q x h = ap (λ l. span_in (places_of l) q) lines_tree ∙ span_parts k tree k.head.goal fit q x h

    -- The constraints of the tree, and those gathered.
    abbrev KeptTree : List State → Type 0
    KeptTree ss = (x : Tree) → Mem x (preorder tree) → (d : Constraint) → Mem d (constraints_of k x) → Keeps ss (parts_of x) d

    abbrev KeptGathered : List State → List Step → Type 0
    KeptGathered states ss = (q : TaskPath) (d : Constraint) → Mem (q, d) (result k ss).gathered → Keeps states (span_in (places_of (claimed_names k)) q) d

    module _ (ss : List Step) (same : SameSet (record_of k ss) (claimed_record (claimed_names k))) where
      -- What is gathered is what the subtrees bring.
      gathered_tree : (q : TaskPath) (d : Constraint) → Mem (q, d) (result k ss).gathered ↔ ((x : Tree) × Mem (q, x) (nodes tree) × Mem d (constraints_of k x))
      gathered_tree q d = (
        λ h. let (m, i, j) = (gathered_iff k ss q d).0 h in
            let (l, i', e) = (used_line k ss same q m).0 i in
            let (x, w, e') = line_node q l i' in
            (x, w, (entry_brings x d).1 (m, ap entry_of e' ∙ e, j)),
        λ w. let (m, e, j) = (entry_brings w.0 d).0 w.2 in
            (gathered_iff k ss q d).1 (m, (used_line k ss same q m).1 (root_line w.0, node_line_lem q w.0 w.1, e), j),
      )

      kept_gathered : (states : List State) → KeptTree states → KeptGathered states ss
      kept_gathered states kept q d h =
          let (x, i, j) = (gathered_tree q d).0 h in
          subst (λ at. Keeps states at d) (sym (node_spans q x i))
          (kept x (subst (λ l. Mem x l) (nodes_preorder tree) (in_map (λ (y : Node). y.1) i)) d j)

      gathered_kept : (states : List State) → KeptGathered states ss → KeptTree states
      gathered_kept states kept x h d j =
          let (y, i, e) = of_map (λ (y : Node). y.1) (nodes tree) (subst (λ l. Mem x l) (sym (nodes_preorder tree)) h) in
          let i' : Mem (y.0, x) (nodes tree) = subst (λ z. Mem (y.0, z) (nodes tree)) e i in
          subst (λ at. Keeps states at d) (node_spans y.0 x i') (kept y.0 d ((gathered_tree y.0 d).1 (x, i', j)))

      gaps : (q : TaskPath) → Mem q (result k ss).marked → (g : ℕ) × Mem (q, gap g) (places_of (claimed_names k))
      unfolding places_of
      gaps q h =
          let (m, i, none) = marked_used k ss q h in
          let (l, j, e) = (used_line k ss same q m).0 i in
          let (t, f) = line_fits q l j in
          let (g, w) = line_gap l t m f e none in
          (g, line_place (claimed_names k) q l (gap g) j w)

      left_actions : (o : Occurrence) → Mem o (result k ss).occurrences → o.1 < k.head.actions
      unfolding Fits
      left_actions o h =
          let (i, w) = (left_are k ss same o.0 o.1).0 h in
          let (t, f) = line_fits o.0 (L o.1 i) w in
          subst (λ a. a < k.head.actions) (sym f.1) f.0

  -- ---- Lines that fit are a rewriting, and the lines of a rewriting fit

  abbrev preorder_steps : List Step
  preorder_steps = steps_of k k.nodes (goal ∷ [])

  fit_steps : FitLines k k.nodes (goal ∷ []) → Steps k (goal_alone k) preorder_steps × ((result k preorder_steps).occurrences ≡ leaves_of k k.nodes (goal ∷ []))
  unfolding result goal_alone
  fit_steps f = fit_leads k k.nodes (goal ∷ []) [] (goal_alone k) f goal_spread refl

  fit_record : FitLines k k.nodes (goal ∷ []) → SameSet (record_of k preorder_steps) (claimed_record (claimed_names k))
  unfolding record_of claimed_record claimed_names
  fit_record f x =
      subst (λ l. Mem x (map used_entry preorder_steps ++ map left_entry l) ↔ Mem x (claimed_record (claimed_names k))) (sym (fit_steps f).1) (record_parted (claimed_record (claimed_names k)) x)

  -- The lines of a rewriting's record fit: each stands where its path's occurrence was seen.
  rewriting_fit : (ss : List Step) → CompleteRewriting k ss → Exact k k.nodes (goal ∷ []) → SameSet (record_of k ss) (claimed_record (claimed_names k))
      → FitLines k k.nodes (goal ∷ [])
  unfolding claimed_names result goal_alone right_kind Fits entry_of subtasks_after subtasks_of
  rewriting_fit ss complete exact records = exact_fit k Good k.nodes (goal ∷ []) fit exact (λ o h. seen_first k (goal_alone k) ss o h)
    where
      Good : Occurrence → Type 0
      Good o = Seen k (goal_alone k) ss o

      one : (q : TaskPath) (t t' : ℕ) → Good (q, t) → Good (q, t') → t ≡ t'
      one q t t' g g' = seen_unique k (goal_alone k) ss q t t' goal_spread complete.steps g g'

      -- A method used on the path of a good occurrence.
      taken : (o : Occurrence) (m : ℕ) (l : NodeLine) → Good o → Mem (o.0, l) (claimed_names k) → entry_of l ≡ used m
          → MethodOf k m o.1 × ((p : Occurrence) → Mem p (added k (o.0, m)) → Good p)
      taken o m l g h e =
          let (t, g', own, subtasks) = used_seen k (goal_alone k) ss (o.0, m) goal_spread complete.steps ((used_line k ss records o.0 m).1 (l, h, e)) in
          (subst (λ u. MethodOf k m u) (one o.0 t o.1 g' g) own, subtasks)

      fit : (o : Occurrence) (l : NodeLine) → Good o → right_kind k l ≡ true → Mem (o.0, l) (claimed_names k)
          → Fits k l o.1 × ((p : Occurrence) → Mem p (subtasks_of o.0 0 (subtasks_after k l)) → Good p)
      fit o (D m) g kind h = let w = taken o m (D m) g h refl in ((w.0, (some_iff (method_at k.methods m)).0 kind), w.1)
      fit o (E m i) g kind h =
          let w = taken o m (E m i) g h refl in ((w.0, (none_iff (method_at k.methods m)).0 kind), λ p j. absurd (not-nil j))
      fit o (L a i) g kind h =
          let there = (left_are k ss records o.0 a).1 (i, h) in
          let e : a ≡ o.1 = one o.0 a o.1 (seen_last k (goal_alone k) ss (o.0, a) there) g in
          ((subst (λ t. t < k.head.actions) e (complete.actions (o.0, a) there), e), λ p j. absurd (not-nil j))

  -- ---- The theorem

  module _ (placed : Placed k) where
    rules_rewriting : Rules k → AgreeingRewriting k
    unfolding claimed_lines claimed_names
    rules_rewriting r =
        let tree = r.tree in
        let pre = r.preordered in
        let fitting = r.fitting in
        let f : FitLines k k.nodes (goal ∷ []) =
        subst (λ l. FitLines k l (goal ∷ [])) (append-nil (map root_line (preorder tree)) ∙ pre) (tree_fit k tree goal [] [] fitting tt) in
        let ss = preorder_steps in
        let same = fit_record f in
        record {
          steps = ss;
          complete = record { steps = (fit_steps f).0; actions = left_actions tree pre fitting ss same };
          lines = claimed_names k;
          preordered = exact_named k k.nodes (goal ∷ []) (fit_exact k k.nodes (goal ∷ []) f);
          records = same;
          performs = claims_perform k placed (distinct tree pre fitting) (lines_nodes tree pre fitting) (result k ss) (left_are k ss same) r.claimed;
          states = r.states;
          are = r.are;
          runs = r.runs;
          kept = kept_gathered tree pre fitting ss same r.states r.kept;
        }

    rewriting_rules : AgreeingRewriting k → Rules k
    unfolding claimed_lines claimed_names
    rewriting_rules r =
        let ss = r.steps in
        let (exact, e) = named_exact k k.nodes (goal ∷ []) r.lines r.preordered in
        let same : SameSet (record_of k ss) (claimed_record (claimed_names k)) = subst (λ l. SameSet (record_of k ss) (claimed_record l)) e r.records in
        let performs = subst (λ l. PerformsPlan k (places_of l) (result k ss)) e r.performs in
        let kept = subst (λ l. (q : TaskPath) (d : Constraint) → Mem (q, d) (result k ss).gathered → Keeps r.states (span_in (places_of l) q) d) e r.kept in
        let (tree, pre, fitting) = fit_tree k k.nodes goal (rewriting_fit ss r.complete exact same) in
        record {
          states = r.states;
          are = r.are;
          runs = r.runs;
          tree = tree;
          preordered = pre;
          fitting = fitting;
          claimed = performs_claim k placed (distinct tree pre fitting) (lines_nodes tree pre fitting) (result k ss) (left_are k ss same) performs;
          kept = gathered_kept tree pre fitting ss same r.states kept;
        }

pub agreement : (k : Case) → Placed k → Rules k ↔ AgreeingRewriting k
agreement k placed = (rules_rewriting k placed, rewriting_rules k placed)

-- "The claimed places give [..] each empty path its gap": each path that an agreeing rewriting marks has one, since the records are equal.
pub marked_gaps : (k : Case) → Placed k → (r : AgreeingRewriting k) (q : TaskPath) → Mem q (result k r.steps).marked
    → (g : ℕ) × Mem (q, gap g) (places_of r.lines)
unfolding claimed_lines claimed_names
marked_gaps k placed r q h =
    let rules = rewriting_rules k placed r in
    let (exact, e) = named_exact k k.nodes (goal k ∷ []) r.lines r.preordered in
    let same = subst (λ l. SameSet (record_of k r.steps) (claimed_record l)) e r.records in
    subst (λ l. (g : ℕ) × Mem (q, gap g) (places_of l)) (sym e) (gaps k rules.tree rules.preordered rules.fitting r.steps same q h)

-- Demand 3's second half. The proof needs less than the premises: neither rewriting has to be complete, nor its steps takeable, since what is
-- gathered is what the methods of the record bring; the record alone decides it.
pub record_decides : (k : Case) → RecordDecides k
unfolding RecordDecides
record_decides k ss ss' _ _ e = same_gathered k ss ss' e
