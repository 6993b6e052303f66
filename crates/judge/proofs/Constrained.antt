-- From the claims to the constraints, and from there to the answer and the records. Assumes nothing.
use mathlib.Core.Path.{◌≡◌, refl, sym, ap, subst, ◌∙◌}
use mathlib.Core.List.{List, [], ◌∷◌, map}
use mathlib.Core.Option.{Option, none, some}
use Prim.Native.Nat.{ℕ, suc, ◌+◌, ◌≤◌, ◌<◌}
use native.Mathlib.Omega.{arith}
use Rattle.std.specs.Prelude.{Result, Ok, Err}
use lib.ListN.{length, get_or}
use Rattle.rules.specs.declared.Header.{Header}
use Rattle.rules.specs.declared.Answer.{Answer}
use Rattle.rules.specs.declared.Answer.TheVariants.{Accepted}
use Rattle.rules.specs.Result.{found, refused}
use Rattle.rules.specs.Case.{Case}
use Rattle.rules.specs.Tree.{Tree, leaf, preorder, root_line, span}
use Rattle.rules.specs.Index.{Span}
use Rattle.rules.specs.Verdict.{Found, work_need, states_after, node_record}
use Rattle.rules.proofs.Judgement.Rows.{from_tree}
use Rattle.parts.specs.Spans.{row_span}
use Rattle.constraints.specs.Ready.{Ready, Leaves, node_of_tree, broken_of_tree}
use Rattle.constraints.specs.Methods.{kept_as}
use Rattle.constraints.proofs.Held.{preorder_length, root_row}
use Rattle.constraints.proofs.Nodes.{tree_is, ready_leaves, node_held}
use Rattle.records.specs.Records.{record_at, up_to, record_of, RecordsHeld, NodesStand, records_of}
use Rattle.judge.specs.declared.Opened.{Opened}
use Rattle.judge.specs.Phases.{Answers, Claimed}
use Rattle.judge.proofs.Phases.{open_sound}
use Rattle.judge.proofs.Verdicts.{constraints_refused, tree_right}

-- The records of node lines, each with the span of its tree.
records_of_lem : (xs : List Tree) (f : ℕ → Span) (i : ℕ) → ((j : ℕ) → j < length xs → f (i + j) ≡ span (get_or xs j (leaf 0 0)))
    → records_of f i (map root_line xs) ≡ map record_of xs
unfolding record_of
records_of_lem [] f i h = refl
records_of_lem (x ∷ xs) f i h =
    let same : i ≡ i + 0 = omega arith in
    let here : f i ≡ span x = ap f same ∙ h 0 (omega arith) in
    λ z. node_record (root_line x) (here z)
    ∷ records_of_lem xs f (i + 1) (λ j l. let next : i + 1 + j ≡ i + suc j = omega arith in ap f next ∙ h (suc j) (omega arith)) z

module _ {k : Case} {fields : List ℕ} {o : Opened} {states work : List ℕ} (x : Claimed k fields o states work) where
  abbrev tree : Tree
  tree = x.walked.tree

  pub constraints_ready : Ready k tree fields o.header o.plan_line o.nodes states work
  constraints_ready =
      let w = x.walked in
      record {
        read = w.opens.read;
        head = w.opens.head;
        plans = w.opens.planned;
        initial = w.initial;
        plan = o.plan;
        finds = w.opens.finds;
        room = w.opens.work_room;
        walks = (w.claimed, w.walks);
        rows_held = w.rowed;
        state_size = length states;
        state_room = w.run.state_room;
        states_held = w.run.states_held;
      }

  module _ {r : Result (Unit {0}) Answer} (said : r ≡ kept_as (broken_of_tree k tree)) where
    pub kept_not : (a : Answer) → r ≡ Err a → from_tree k ≡ refused a
    unfolding broken_of_tree
    kept_not a e =
        constraints_refused k tree x.walked.claimed x.walked.walks x.claims a (go (broken_of_tree k tree) (sym e ∙ said))
      where
        go : (y : Option Answer) → Err a ≡ kept_as y → y ≡ some a
        go none q = cc
        go (some b) q = cc

    kept_all : r ≡ Ok tt → from_tree k ≡ found (k, tree)
    unfolding broken_of_tree
    kept_all e = tree_right k tree x.walked.claimed x.walked.walks x.claims (go (broken_of_tree k tree) (sym e ∙ said))
      where
        go : (y : Option Answer) → Ok tt ≡ kept_as y → y ≡ none
        go none q = refl
        go (some b) q = cc

    -- ---- The records

    pub nodes_ask : NodesStand fields o.nodes o.header.nodes k.nodes
    nodes_ask =
        let w = x.walked.opens in
        record { here = w.finds.nodes_here; counted = (open_sound w).nodes_length ∙ ap (λ (h : Header). h.nodes) (sym w.head) }

    module _ {v : List ℕ} (leaves : Leaves work v) where
      pub records_ask : (o.header.nodes ≤ 3000) × (16384 ≤ length v)
      unfolding work_need
      records_ask =
          let w = x.walked.opens in
          let room = w.work_room in
          let same = leaves.same_size in
          (subst (λ (h : Header). h.nodes ≤ 3000) (sym w.head) (open_sound w).head_good.few_nodes, omega arith)

      pub records_done : r ≡ Ok tt → (u : List ℕ) → up_to (record_at u) o.header.nodes ≡ records_of (row_span v) 0 k.nodes
          → Answers (from_tree k) (length states) (Accepted o.header.cues o.header.nodes) states u
      unfolding states_after RecordsHeld node_of_tree
      records_done e u written =
          let ready = ready_leaves constraints_ready v leaves in
          let head = x.walked.opens.head in
          let records : records_of (row_span v) 0 (map root_line (preorder tree)) ≡ map record_of (preorder tree) =
          records_of_lem (preorder tree) (row_span v) 0
          (λ j l.
          let many = preorder_length tree in
          let here : 0 + j ≡ j = omega arith in ap (row_span v) here ∙ (root_row v (node_of_tree tree j) j (node_held ready j (omega arith))).spanned) in
          let held : up_to (record_at u) k.head.nodes ≡ map record_of (preorder tree) =
          ap (λ (h : Header). up_to (record_at u) h.nodes) (sym head) ∙ written
          ∙ ap (records_of (row_span v) 0) (sym (tree_is ready).preordered) ∙ records in
          subst (λ (f : Found Tree). Answers f (length states) (Accepted o.header.cues o.header.nodes) states u) (sym (kept_all e))
          (record { answer = ap (λ (h : Header). Accepted h.cues h.nodes) head; states_held = x.walked.run.states_held; records_held = held })
