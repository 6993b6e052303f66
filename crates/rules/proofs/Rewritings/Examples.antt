-- Worked cases, by computation: panel case a, and a case whose goal has two compound subtasks, woven, each with an empty task in it.
use mathlib.Core.Path.{◌≡◌, refl, ap, subst}
use mathlib.Core.Bool.{Bool, true, ◌&&◌}
use mathlib.Core.List.{List, [], ◌∷◌, map}
use mathlib.Core.List.Memᴰ.{head as here}
use mathlib.Core.List.Memᴰ.{tail as there}
use mathlib.Core.List.{Memᴰ as Mem}
use Prim.Native.Nat.{ℕ, ◌+◌, ◌<◌}
use native.Mathlib.Omega.{arith}
use lib.Dec.{leb, ltb, leb→le, ltb→lt}
use lib.ListN.{length, get_or}
use Rattle.rules.specs.declared.Sign.TheVariants.{Positive, Negative}
use Rattle.rules.specs.State as St
use Rattle.rules.specs.Index as Ix
use Rattle.rules.specs.Case as Ca
use Rattle.rules.specs.Tree as Tr
use Rattle.rules.specs.Constraint as Co
use Rattle.rules.specs.Verdict as Ve
use Rattle.rules.specs.Rules as Ru
use Rattle.rules.specs.Rewriting as Re
use Rattle.rules.specs.State.{State, Action, member, applies, action_at, state_at}
use Rattle.rules.specs.Case.{Constraint, O, B, W, Method, method_at, NodeLine, D, E, L, Case}
use Rattle.rules.specs.Tree.{Tree, leaf, empty, task, no_tree, more, preorder, root_line, is_method_of}
use Rattle.rules.specs.Constraint.{holds_in, keeps, constraints_of, parts_of}
use Rattle.rules.specs.Verdict.{states_of}
use Rattle.rules.specs.Rules.{MethodOf, Fits, FitsTask, claimants, Keeps, Rules}
use Rattle.rules.proofs.Statements.{keeps_iff, fits, fits_iff, method_iff, are_states}
use Rattle.rules.specs.Rewriting.{Occurrence, Step, same_path, CompleteRewriting, used, record_of, SameSet, claimed_record, result, places_of, span_in, AgreeingRewriting}
use Rattle.rules.proofs.Rewritings.Statement as Sta
use Rattle.rules.proofs.Rewritings.Statement.{Placed, claimed_names, named_exact}
use Rattle.rules.proofs.Judgement.Each.{both_true}
use Rattle.rules.proofs.Rewritings.Lists.{true_T, reflects_sure, reflects_never}
use Rattle.rules.proofs.Rewritings.Records.{record_used}
use Rattle.rules.proofs.Rewritings.Paths.{path_reflects}
use Rattle.rules.proofs.Rewritings.Steps.{gathered_iff}
use Rattle.rules.proofs.Rewritings.Tests.{all, all_sure, all_below, below_sure, same_reflects}
use Rattle.rules.proofs.Rewritings.Theorem.{agreement, record_decides}

-- A set of propositions below 64.
abbrev word : ℕ → State
word w = w ∷ 0 ∷ 0 ∷ 0 ∷ []

abbrev act : ℕ → ℕ → ℕ → ℕ → Action
act n f a d = record { needed = word n; forbidden = word f; added = word a; deleted = word d }

abbrev way : ℕ → List ℕ → List Constraint → Method
way t ts ds = record { task = t; subtasks = ts; constraints = ds }

-- ---- From tests to statements

module _ (k : Case) where
  left_by : (os : List Occurrence) → all (λ o. ltb o.1 k.head.actions) os ≡ true → (o : Occurrence) → Mem o os → o.1 < k.head.actions
  left_by os e o h = ltb→lt o.1 k.head.actions (true_T (all_sure (λ (p : Occurrence). ltb p.1 k.head.actions) os e o h))

  abbrev in_plan : NodeLine → Bool
  in_plan (D m) = true
  in_plan (E m g) = true
  in_plan (L a i) = leb 1 i && leb i k.head.cues

  -- A line that passes the test fits, and a method that passes it is one of the task's own.
  fit : (x : NodeLine) (t : ℕ) → fits k x t ≡ true → Fits k x t
  fit x t e = (fits_iff k x t).0 e

  own : (m t : ℕ) → is_method_of k m t ≡ true → MethodOf k m t
  own m t e = (method_iff k m t).0 e

  placed_by : length k.plan ≡ k.head.cues → all in_plan k.nodes ≡ true → Placed k
  placed_by e f = record {
    planned = e;
    positions = λ a i h. let (u, v) = both_true (leb 1 i) (leb i k.head.cues) (all_sure in_plan k.nodes f (L a i) h) in
        (leb→le 1 i (true_T u), leb→le i k.head.cues (true_T v));
  }

  abbrev runs_at : ℕ → Bool
  runs_at i = applies (state_at (states_of k) i) (action_at k.actions (get_or k.plan i 0))

  abbrev claimed_at : ℕ → Bool
  claimed_at i = same_path (claimants (i + 1) k.nodes) (get_or k.plan i 0 ∷ [])

  abbrev keeps_all : Tree → Bool
  keeps_all x = all (keeps (holds_in (states_of k)) (parts_of x)) (constraints_of k x)

  rules_by : (t : Tree) → map root_line (preorder t) ≡ k.nodes → FitsTask k t k.head.goal
      → all_below (length k.plan) runs_at ≡ true → all_below k.head.cues claimed_at ≡ true → all keeps_all (preorder t) ≡ true → Rules k
  unfolding Ru.cue_action
  rules_by t pre fit runs claimed kept = record {
    states = states_of k;
    are = are_states k;
    runs = below_sure (length k.plan) runs_at runs;
    tree = t;
    preordered = pre;
    fitting = fit;
    claimed = λ i b. reflects_sure (path_reflects (claimants (i + 1) k.nodes) (get_or k.plan i 0 ∷ [])) (below_sure k.head.cues claimed_at claimed i b);
    kept = λ x h d i. (keeps_iff (states_of k) (parts_of x) d).0 (all_sure (keeps (holds_in (states_of k)) (parts_of x)) (constraints_of k x) (all_sure keeps_all (preorder t) kept x h) d i);
  }

-- What the cases compute with.
opened : Unit {0}
unfolding St.word_count St.bit St.member St.no_propositions St.without St.applies_word St.applies St.next_word St.next St.no_action St.action_at St.states St.state_at Ix.of_cue Ix.of_gap Ix.at Ix.least Ix.greatest Ix.hull Ix.part_of Ix.only Ix.pick Ix.span_of_part Ix.rounded_up Ix.rounded_down Ix.c Ix.f Ix.is_before Ca.no_method Ca.method_at Tr.preorder Tr.root_line Tr.span Tr.subtask_spans Tr.no_subtasks Tr.is_method_of Tr.of_task Tr.right_letter Co.signed Co.holds_in Co.holds_from Co.keeps Co.constraints_of Co.parts_of Ve.states_of Ru.FitsTask Ru.HoldsIn Ru.Keeps Ru.claim_of Ru.claimants Re.same_path Re.subtasks_of Re.CanTake Re.replace Re.rewritten Re.Steps Re.rewritten_by Re.goal_alone Re.result Re.record_of Re.subtasks_after Re.right_kind Re.claimed_lines Sta.line_names Sta.claimed_names Re.entry_of Re.claimed_record Re.place_of Re.places_of Re.index_of Re.is_in_part Re.indexes_in Re.span_in
opened = tt

-- A rewriting that agrees with a claimed tree keeps the constraints of the method that the tree has for the goal.
goal_keeps : (k : Case) (m : ℕ) → Mem ([], used m) (claimed_record (claimed_names k)) → (d : Constraint) → Mem d (method_at k.methods m).constraints
    → (r : AgreeingRewriting k) → Keeps r.states (span_in (places_of (claimed_names k)) []) d
unfolding opened
goal_keeps k m has d own-one r =
    subst (λ l. Keeps r.states (span_in (places_of l) []) d) e (r.kept [] d ((gathered_iff k r.steps [] d).1 (m, goal_used, own-one)))
  where
    e : r.lines ≡ claimed_names k
    e = (named_exact k k.nodes (([], k.head.goal) ∷ []) r.lines r.preordered).1

    goal_used : Mem ([], m) r.steps
    goal_used = (record_used k r.steps [] m).1 ((subst (λ l. SameSet (record_of k r.steps) (claimed_record l)) e r.records ([], used m)).1 has)

-- ---- Panel case a

-- "Propositions: 0 in km/h, 1 loaded, 2 on air. Actions: 0 convert, 1 load, 2 take. Task 3 panel, 4 in-km/h."
-- With the empty task in gap g: a has 0, c has 2.
abbrev panel : ℕ → Case
panel g = record {
  head = record { propositions = 3; actions = 3; compounds = 2; methods = 3; goal = 3; cues = 2; nodes = 4 };
  initial = word 1;
  actions = act 0 1 1 0 ∷ act 0 0 2 0 ∷ act 2 0 4 2 ∷ [];
  methods = way 3 (4 ∷ 1 ∷ 2 ∷ []) (O 0 2 ∷ O 1 2 ∷ W Positive 1 0 4 ∷ []) ∷ way 4 (0 ∷ []) [] ∷ way 4 [] (B Positive 0 0 ∷ []) ∷ [];
  plan = 1 ∷ 2 ∷ [];
  nodes = D 0 ∷ E 2 g ∷ L 1 1 ∷ L 2 2 ∷ [];
  plan_line = 13;
}

abbrev case_A : Case
case_A = panel 0

placed_a : Placed case_A
placed_a = placed_by case_A refl refl

abbrev tree_A : Tree
tree_A = task 0 (more (empty 2 0) (more (leaf 1 1) (more (leaf 2 2) no_tree)))

rules_a : Rules case_A
unfolding opened
rules_a = rules_by case_A tree_A refl (fit case_A (D 0) 3 refl, (fit case_A (E 2 0) 4 refl, (fit case_A (L 1 1) 1 refl, (fit case_A (L 2 2) 2 refl, tt)))) refl refl refl

-- The theorem gives a rewriting that agrees with the panel's tree.
pub rewriting_a : AgreeingRewriting case_A
rewriting_a = (agreement case_A placed_a).0 rules_a

-- Its steps can be taken in one order only: the goal, then its one compound subtask, by method 2 or by method 1.
abbrev steps_A : List Step
steps_A = ([], 0) ∷ (0 ∷ [], 2) ∷ []

abbrev other_A : List Step
other_A = ([], 0) ∷ (0 ∷ [], 1) ∷ []

pub complete_a : CompleteRewriting case_A steps_A × CompleteRewriting case_A other_A
unfolding opened
complete_a = (
  record { steps = ((3, here refl, own case_A 0 3 refl), ((4, here refl, own case_A 2 4 refl), tt)); actions = left_by case_A (result case_A steps_A).occurrences refl },
  record { steps = ((3, here refl, own case_A 0 3 refl), ((4, here refl, own case_A 1 4 refl), tt)); actions = left_by case_A (result case_A other_A).occurrences refl },
)

-- The record of the one is the claimed tree's, that of the other is not.
pub records_a : SameSet (record_of case_A steps_A) (claimed_record (claimed_names case_A)) × (¬ SameSet (record_of case_A other_A) (claimed_record (claimed_names case_A)))
unfolding opened
records_a = (
  reflects_sure (same_reflects (record_of case_A steps_A) (claimed_record (claimed_names case_A))) refl,
  reflects_never (same_reflects (record_of case_A other_A) (claimed_record (claimed_names case_A))) refl,
)

-- In gap 2 the empty task ends too late for the order that the goal's method asks: no rewriting agrees with that tree, so it breaks the rules.
pub no_rewriting_c : ¬ AgreeingRewriting (panel 2)
unfolding opened
no_rewriting_c r = let late = goal_keeps (panel 2) 0 (here refl) (O 0 2) (here refl) r in omega (arith, late)

pub no_rules_c : ¬ Rules (panel 2)
no_rules_c r = no_rewriting_c ((agreement (panel 2) (placed_by (panel 2) refl refl)).0 r)

-- ---- A woven case

-- Actions 0 and 1. The goal, task 2, has two subtasks of task 3: 0, then 3 again, then 1; or nothing, where proposition 0 holds. The two
-- subtasks take turns in the plan, each with an empty task in a gap between its actions. Before the goal proposition 0 is asked to be false.
abbrev woven_from : State → Case
woven_from s = record {
  head = record { propositions = 1; actions = 2; compounds = 2; methods = 3; goal = 2; cues = 4; nodes = 9 };
  initial = s;
  actions = act 0 0 1 0 ∷ act 1 0 0 0 ∷ [];
  methods = way 2 (3 ∷ 3 ∷ []) (B Negative 0 0 ∷ []) ∷ way 3 (0 ∷ 3 ∷ 1 ∷ []) (O 0 1 ∷ O 1 2 ∷ []) ∷ way 3 [] (B Positive 0 0 ∷ []) ∷ [];
  plan = 0 ∷ 0 ∷ 1 ∷ 1 ∷ [];
  nodes = D 0 ∷ D 1 ∷ L 0 1 ∷ E 2 2 ∷ L 1 3 ∷ D 1 ∷ L 0 2 ∷ E 2 3 ∷ L 1 4 ∷ [];
  plan_line = 12;
}

abbrev woven : Case
woven = woven_from (word 0)

placed_woven : Placed woven
placed_woven = placed_by woven refl refl

abbrev part : ℕ → ℕ → ℕ → Tree
part i g j = task 1 (more (leaf 0 i) (more (empty 2 g) (more (leaf 1 j) no_tree)))

rules_woven : Rules woven
unfolding opened
rules_woven =
    rules_by woven (task 0 (more (part 1 2 3) (more (part 2 3 4) no_tree))) refl
    (fit woven (D 0) 2 refl, (part_fits 1 2 3, (part_fits 2 3 4, tt))) refl refl refl
  where
    part_fits : (i g j : ℕ) → FitsTask woven (part i g j) 3
    part_fits i g j = (fit woven (D 1) 3 refl, (fit woven (L 0 i) 0 refl, (fit woven (E 2 g) 3 refl, (fit woven (L 1 j) 1 refl, tt))))

pub rewriting_woven : AgreeingRewriting woven
rewriting_woven = (agreement woven placed_woven).0 rules_woven

-- Where proposition 0 is true at the start, the goal's condition is broken: no rewriting agrees, though the plan and the tree are as before.
pub no_rewriting_woven : ¬ AgreeingRewriting (woven_from (word 1))
unfolding opened
no_rewriting_woven r =
    goal_keeps (woven_from (word 1)) 0 (here refl) (B Negative 0 0) (here refl) r (ap (λ (s : State). member s 0) r.are.initial)

-- Two orders: one subtask after the other, and the two in turns, the second first. And a third rewriting, with both subtasks empty.
abbrev first : List Step
first = ([], 0) ∷ (0 ∷ [], 1) ∷ (0 ∷ 1 ∷ [], 2) ∷ (1 ∷ [], 1) ∷ (1 ∷ 1 ∷ [], 2) ∷ []

abbrev second : List Step
second = ([], 0) ∷ (1 ∷ [], 1) ∷ (0 ∷ [], 1) ∷ (1 ∷ 1 ∷ [], 2) ∷ (0 ∷ 1 ∷ [], 2) ∷ []

abbrev both_empty : List Step
both_empty = ([], 0) ∷ (0 ∷ [], 2) ∷ (1 ∷ [], 2) ∷ []

pub complete_woven : CompleteRewriting woven first × CompleteRewriting woven second × CompleteRewriting woven both_empty
unfolding opened
complete_woven = (
  record {
    steps = ((2, here refl, own woven 0 2 refl), ((3, here refl, own woven 1 3 refl), ((3, there (here refl), own woven 2 3 refl), ((3, there (there (here refl)), own woven 1 3 refl), ((3, there (there (there (here refl))), own woven 2 3 refl), tt)))));
    actions = left_by woven (result woven first).occurrences refl;
  },
  record {
    steps = ((2, here refl, own woven 0 2 refl), ((3, there (here refl), own woven 1 3 refl), ((3, here refl, own woven 1 3 refl), ((3, there (there (there (there (here refl)))), own woven 2 3 refl), ((3, there (here refl), own woven 2 3 refl), tt)))));
    actions = left_by woven (result woven second).occurrences refl;
  },
  record { steps = ((2, here refl, own woven 0 2 refl), ((3, here refl, own woven 2 3 refl), ((3, here refl, own woven 2 3 refl), tt))); actions = left_by woven (result woven both_empty).occurrences refl },
)

-- The two orders have one record, the claimed tree's; the third has another.
pub records_woven : SameSet (record_of woven first) (record_of woven second) × SameSet (record_of woven second) (claimed_record (claimed_names woven)) × (¬ SameSet (record_of woven both_empty) (claimed_record (claimed_names woven)))
unfolding opened
records_woven = (
  reflects_sure (same_reflects (record_of woven first) (record_of woven second)) refl,
  reflects_sure (same_reflects (record_of woven second) (claimed_record (claimed_names woven))) refl,
  reflects_never (same_reflects (record_of woven both_empty) (claimed_record (claimed_names woven))) refl,
)

-- So the two gather one set, though in different orders.
pub gathered_woven : SameSet (result woven first).gathered (result woven second).gathered
unfolding Re.RecordDecides
gathered_woven = record_decides woven first second complete_woven.0 complete_woven.1 records_woven.0
