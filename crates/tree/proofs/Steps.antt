-- What the functions outside the cycle answer, from what their calls and tests say. Assumes nothing.
use mathlib.Core.Path.{◌≡◌, refl, sym, ap, subst, ◌∙◌}
use mathlib.Core.Bool.{Bool, true, not}
use mathlib.Core.List.{List}
use Prim.Native.Nat.{ℕ, ◌+◌, ◌-◌, ◌≤◌, ◌<◌}
use native.Mathlib.Omega.{arith}
use borrow.Author.Tests.{lt-ltb, le-ltb}
use lib.Dec.{eqb}
use lib.ListN.{length, get_or, drop}
use Rattle.std.specs.Prelude.{Result, Ok, Err}
use Rattle.rules.specs.declared.Answer.{Answer}
use Rattle.rules.specs.declared.Answer.TheVariants.{TooDeep, MissingNode, WrongClaim}
use Rattle.rules.specs.Case.{NodeLine, D, E, L, Case}
use Rattle.rules.proofs.Judgement.Sound.{Sound, GoodNode, sound}
use Rattle.fields.specs.Directory.{node_size}
use Rattle.tree.specs.declared.fit.Given.{Given}
use Rattle.tree.specs.declared.fit.Place.{Place}
use Rattle.tree.specs.declared.fit.Entry.{Entry}
use Rattle.tree.specs.declared.fit.Entry.TheVariants.{Task, Empty, Leaf}
use Rattle.tree.specs.declared.fit.MethodHead.{MethodHead}
use Rattle.tree.specs.declared.fit.Fit.{Fit}
use Rattle.tree.specs.declared.fit.Fit.TheVariants.{Open, Empty as EmptyFit, Leaf as LeafFit}
use Rattle.tree.specs.declared.rows.Walked.{Walked}
use Rattle.tree.specs.Fits.{line_at, Follows, as_entry, entry_at, HeadWithin, MethodWithin, head_in, pick_fit, fit_if, fit_of, at_level}
use Rattle.tree.specs.Standing.{Steady, ClaimWithin, Beyond, Judged}
use Rattle.tree.proofs.Entries.{EntryHere, entry_here, plan_at_lem, plan_inside}
use Rattle.tree.proofs.Judging.{good_node, head_here, levelled, judged_lacking, judged}
use Rattle.tree.proofs.Within.{plan_line_few}

-- ---- How a line fits

module _ (fields w : List ℕ) (entry : Entry) (next : Place) (task line : ℕ) where
  pub fit_task : (m : ℕ) (h : MethodHead) → entry ≡ Task m → h ≡ head_in fields w m
      → fit_if (eqb h.task task) (not (eqb h.subtasks.count 0)) (Open h.subtasks next) line ≡ fit_of fields w entry next task line
  unfolding fit_of
  fit_task m h e z =
      ap (λ (x : MethodHead). fit_if (eqb x.task task) (not (eqb x.subtasks.count 0)) (Open x.subtasks next) line) z
      ∙ ap (λ (x : Entry). fit_of fields w x next task line) (sym e)

  pub fit_empty : (m g : ℕ) (h : MethodHead) → entry ≡ Empty m g → h ≡ head_in fields w m
      → fit_if (eqb h.task task) (eqb h.subtasks.count 0) (EmptyFit g next) line ≡ fit_of fields w entry next task line
  unfolding fit_of
  fit_empty m g h e z =
      ap (λ (x : MethodHead). fit_if (eqb x.task task) (eqb x.subtasks.count 0) (EmptyFit g next) line) z
      ∙ ap (λ (x : Entry). fit_of fields w x next task line) (sym e)

  pub fit_leaf : (a i : ℕ) → entry ≡ Leaf a i → fit_if (eqb a task) true (LeafFit a i next) line ≡ fit_of fields w entry next task line
  unfolding fit_of
  fit_leaf a i e = ap (λ (x : Entry). fit_of fields w x next task line) (sym e)

-- ---- The level

pub level_left : (level : ℕ) (fit : Fit) (deep : Answer) → level < 65 → Ok fit ≡ at_level level fit deep
unfolding at_level
level_left level fit deep h = ap (λ (b : Bool). pick_fit b (Ok fit) (Err deep)) (sym (lt-ltb level 65 h))

pub level_none : (level : ℕ) (fit : Fit) (deep : Answer) → 65 ≤ level → Err deep ≡ at_level level fit deep
unfolding at_level
level_none level fit deep h = ap (λ (b : Bool). pick_fit b (Ok fit) (Err deep)) (sym (le-ltb level 65 h))

-- ---- The judgement

module _ (k : Case) (fields : List ℕ) (g : Given) (w : List ℕ) (st : Steady k fields g w) where
  pub case_sound : Sound k
  case_sound = sound st.read.text k st.read.reads

  pub nodes_few : k.head.nodes ≤ 3000
  nodes_few = case_sound.head_good.few_nodes

  pub cues_few : k.head.cues ≤ 1000
  cues_few = case_sound.head_good.few_cues

  pub line_small : (n : ℕ) → n ≤ k.head.nodes → g.line + n < 4294967295
  line_small n h = let e = st.planned in let l = plan_line_few k st.read in let f = nodes_few in omega arith

  pub line_is : (n l : ℕ) → l ≡ line_at g.line n → l ≡ line_at k.plan_line n
  line_is n l e = e ∙ ap (λ (x : ℕ). line_at x n) st.planned

  pub claim_inside : (n i : ℕ) → ClaimWithin k n i → g.plan + i < length fields
  claim_inside n i c =
      plan_inside fields g.plan k.plan i st.plan c.low (let l = case_sound.plan_length in let h = c.high in omega arith)

  pub claim_planned : (n i : ℕ) → ClaimWithin k n i → get_or fields (g.plan + i) 0 ≡ get_or k.plan (i - 1) 0
  claim_planned n i c =
      plan_at_lem fields g.plan k.plan i st.plan c.low (let l = case_sound.plan_length in let h = c.high in omega arith)

  pub claim_node : (n i : ℕ) {r : Result Walked Answer} → r ≡ Err (WrongClaim (line_at g.line n) i) → r ≡ Err (WrongClaim (line_at k.plan_line n) i)
  claim_node n i e = e ∙ ap (λ (x : ℕ). Err (WrongClaim (line_at x n) i)) st.planned

  module _ (p : Place) (f : Follows k fields p) where
    pub judge_lacking : (t level l : ℕ) → l ≡ line_at g.line p.node → g.nodes ≤ p.node → Judged k fields p t level (Err (MissingNode l))
    judge_lacking t level l e h =
        subst (λ (x : ℕ). Judged k fields p t level (Err (MissingNode x))) (sym (line_is p.node l e))
        (judged_lacking k fields p t level (let q = st.count in omega arith) case_sound)

    module _ (inside : p.node < g.nodes) where
      below : p.node < k.head.nodes
      below = let q = st.count in omega arith

      pub stands_here : EntryHere k fields p.node p.at
      stands_here = entry_here k fields p.node p.at f.nodes (let l = case_sound.nodes_length in let h = below in omega arith)

      entry_good : GoodNode k.head stands_here.line
      entry_good = good_node k case_sound p.node stands_here.line (drop (p.node + 1) k.nodes) below stands_here.here

      head_within : (m : ℕ) → m < k.head.methods → HeadWithin fields w m
      head_within m h =
          let few = case_sound.head_good.few_methods in
          let r = st.room in
          record {
            low = omega arith;
            room = omega arith;
            inside = omega (arith, (head_here k fields w case_sound st.methods m h).inside);
          }

      method_within : (x : NodeLine) → GoodNode k.head x → MethodWithin fields w (as_entry x)
      method_within (D m) h = head_within m h
      method_within (E m y) h = head_within m h.0
      method_within (L b i) h = tt

      pub entry_within : (entry : Entry) → entry ≡ entry_at fields p.at → MethodWithin fields w entry
      entry_within entry ee = subst (MethodWithin fields w) (sym (ee ∙ stands_here.entry)) (method_within stands_here.line entry_good)

      pub judge_fit : (t level l size : ℕ) (entry : Entry) (fit : Result Fit Answer) → l ≡ line_at g.line p.node → entry ≡ entry_at fields p.at
          → size ≡ node_size (get_or fields p.at 0)
          → fit ≡ fit_of fields w entry (record { node = p.node + 1; at = p.at + size }) t l
          → Judged k fields p t level (levelled level fit (TooDeep l))
      judge_fit t level l size entry fit e ee es ef =
          let li = line_is p.node l e in
          let next : Place = record { node = p.node + 1; at = p.at + node_size (get_or fields p.at 0) } in
          let b : Beyond k fields p next =
          record { one = refl; there = below; follows = record { nodes = stands_here.rest; within = let h = below in omega arith } } in
          let en = ee ∙ stands_here.entry in
          subst (Judged k fields p t level)
          (sym (ap (λ (x : Result Fit Answer). levelled level x (TooDeep l)) ef
          ∙ λ j. levelled level (fit_of fields w (en j) (record { node = p.node + 1; at = p.at + es j }) t (li j)) (TooDeep (li j))))
          (judged k fields p t level w case_sound st.methods stands_here.line next stands_here.here entry_good b)
