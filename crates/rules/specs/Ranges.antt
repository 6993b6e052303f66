-- What a case within the ranges is, number by number and list by list (01, "The case text"), apart from the table by which lines are read.
-- proofs/Printing shows that these are exactly the cases whose print reads as the case. Assumes nothing.
use Rattle.std.specs.Prelude.{◌≡◌, ◌≢◌, ℕ, ◌+◌, ◌^◌, ◌≤◌, ◌<◌, length}
use Rattle.rules.specs.declared.Header.{Header}
use Rattle.rules.specs.State.{State, Action, proposition_most, no_propositions, insert_all}
use Rattle.rules.specs.Case.{Constraint, O, B, F, W, Method, NodeLine, D, E, L, Case}
use Rattle.rules.specs.Fields.{propositions_of, plan_line_of}
use Rattle.rules.specs.Refusals.{Each}

-- "actions (0 to 1,024), compound tasks (0 to 1,024), methods (0 to 2,048), goal, k (0 to 1,000), nodes (1 to 3,000) [..] the goal is
-- compound."
pub record GoodHeader (h : Header) : Type 0 where
  pub few_propositions : h.propositions ≤ proposition_most
  pub few_actions : h.actions ≤ 1024
  pub few_compounds : h.compounds ≤ 1024
  pub few_methods : h.methods ≤ 2048
  pub goal_least : h.actions ≤ h.goal
  pub goal_below : h.goal < h.actions + h.compounds
  pub few_cues : h.cues ≤ 1000
  pub some_nodes : 1 ≤ h.nodes
  pub few_nodes : h.nodes ≤ 3000

-- A constraint of a method with so many subtasks: "i ≠ j, both subtask numbers"; "U and V are sets of subtasks as one number, bit j for
-- subtask j, no bit at or above the count".
abbrev pub GoodConstraint : Header → ℕ → Constraint → Type 0
GoodConstraint h count (O i j) = (i < count) × (j < count) × (i ≢ j)
GoodConstraint h count (B s p u) = (p < h.propositions) × (u < 2 ^ count)
GoodConstraint h count (F s p u) = (p < h.propositions) × (u < 2 ^ count)
GoodConstraint h count (W s u p v) = (u < 2 ^ count) × (p < h.propositions) × (v < 2 ^ count)

-- "compound task, list of subtasks (0 to 32 members, repeats allowed), constraint count c (0 to 64)"
pub record GoodMethod (h : Header) (m : Method) : Type 0 where
  pub task_least : h.actions ≤ m.task
  pub task_below : m.task < h.actions + h.compounds
  pub few_subtasks : length m.subtasks ≤ 32
  pub subtasks_below : Each (λ t. t < h.actions + h.compounds) m.subtasks
  pub few_constraints : length m.constraints ≤ 64
  pub constraints_good : Each (GoodConstraint h (length m.subtasks)) m.constraints

-- "E,m,g (empty method m in gap g, 0 to k); L,a,i (action a at position i, 1 to k)"
abbrev pub GoodNode : Header → NodeLine → Type 0
GoodNode h (D m) = m < h.methods
GoodNode h (E m g) = (m < h.methods) × (g ≤ h.cues)
GoodNode h (L a i) = (a < h.actions) × (1 ≤ i) × (i ≤ h.cues)

-- The words hold the set's propositions and nothing else.
abbrev pub IsSet : State → Type 0
IsSet s = insert_all no_propositions (propositions_of s) ≡ s

pub record GoodAction (a : Action) : Type 0 where
  pub needed_set : IsSet a.needed
  pub forbidden_set : IsSet a.forbidden
  pub added_set : IsSet a.added
  pub deleted_set : IsSet a.deleted

-- What the verdict goes by.
pub record Sound (k : Case) : Type 0 where
  pub head_good : GoodHeader k.head
  pub initial_set : IsSet k.initial
  pub actions_good : Each GoodAction k.actions
  pub actions_length : length k.actions ≡ k.head.actions
  pub methods_length : length k.methods ≡ k.head.methods
  pub methods_good : Each (GoodMethod k.head) k.methods
  pub plan_length : length k.plan ≡ k.head.cues
  pub plan_below : Each (λ a. a < k.head.actions) k.plan
  pub nodes_length : length k.nodes ≡ k.head.nodes
  pub nodes_good : Each (GoodNode k.head) k.nodes

-- "Sets are [..] below the proposition count".
abbrev pub SetBelow : Header → State → Type 0
SetBelow h s = Each (λ p. p < h.propositions) (propositions_of s)

pub record ActionBelow (h : Header) (a : Action) : Type 0 where
  pub needed_below : SetBelow h a.needed
  pub forbidden_below : SetBelow h a.forbidden
  pub added_below : SetBelow h a.added
  pub deleted_below : SetBelow h a.deleted

-- All that the table asks of a case, and that the P line's number is the number of the line that it stands on.
pub record InRanges (k : Case) : Type 0 where
  pub sound : Sound k
  pub initial_below : SetBelow k.head k.initial
  pub actions_below : Each (ActionBelow k.head) k.actions
  pub planned : k.plan_line ≡ plan_line_of k.actions k.methods
