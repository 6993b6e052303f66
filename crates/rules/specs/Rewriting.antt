-- Rewritings of the goal task, and when one of them agrees with a claimed tree (01, "Rewriting"). Nothing here walks the tree: networks,
-- steps and gathered sets stand on their own. Assumes nothing.
use Rattle.std.specs.Prelude.{◌≡◌, ◌↔◌, Bool, true, false, cond, ◌&&◌, not, ℕ, suc, ◌+◌, ◌<◌, eqb, length, get_or}
use mathlib.Core.List.{List, [], ◌∷◌, ◌++◌, map, Memᴰ as Mem}
use Rattle.std.proofs.Math.Option.{Option, none, some}
use Rattle.rules.specs.Index.{Span, of_cue, of_gap, least, greatest, Part, whole, those}
use Rattle.rules.specs.Case.{Constraint, method_at, NodeLine, D, E, L, Case}
use Rattle.rules.specs.State.{State}
use Rattle.rules.specs.Tree.{no_subtasks}
use Rattle.rules.specs.Rules.{AreStates, CueApplies, MethodOf, Keeps}

-- "occurrences named by path: the goal has the empty path, subtask j of q has q followed by j". "Subtasks are numbered from 0."
abbrev pub TaskPath : Type 0
TaskPath = List ℕ

-- An occurrence: its path and its task.
abbrev pub Occurrence : Type 0
Occurrence = TaskPath × ℕ

-- The subtasks of q, from number j on.
unfoldable pub subtasks_of : TaskPath → ℕ → List ℕ → List Occurrence
subtasks_of q j [] = []
subtasks_of q j (t ∷ ts) = (q ++ (j ∷ []), t) ∷ subtasks_of q (suc j) ts

-- "A network is a set of occurrences", with the constraints gathered, each tied to a path, and the paths marked empty. The lists stand for
-- sets.
pub record Network : Type 0 where
  pub occurrences : List Occurrence
  pub gathered : List (TaskPath × Constraint)
  pub marked : List TaskPath

-- "A rewriting step takes one compound occurrence and a method of its task": the path and the method.
abbrev pub Step : Type 0
Step = TaskPath × ℕ

unfoldable pub CanTake : Case → Network → Step → Type 0
CanTake k n s = (t : ℕ) × Mem (s.0, t) n.occurrences × MethodOf k s.1 t

unfoldable pub same_path : TaskPath → TaskPath → Bool
same_path [] [] = true
same_path [] (j ∷ r) = false
same_path (i ∷ q) [] = false
same_path (i ∷ q) (j ∷ r) = eqb i j && same_path q r

unfoldable pub replace : TaskPath → List Occurrence → List Occurrence → List Occurrence
replace q new [] = []
replace q new (o ∷ os) = cond (same_path o.0 q) new (o ∷ []) ++ replace q new os

-- "removes the occurrence, adds the subtasks, keeps the set of all constraints gathered so far and adds the method's to it, tied to that
-- path. An empty method adds no subtasks and marks the path empty."
unfoldable pub rewritten : Case → Network → Step → Network
rewritten k n s =
    let m = method_at k.methods s.1 in
    record {
      occurrences = replace s.0 (subtasks_of s.0 0 m.subtasks) n.occurrences;
      gathered = n.gathered ++ map (λ d. (s.0, d)) m.constraints;
      marked = n.marked ++ cond (no_subtasks m) (s.0 ∷ []) [];
    }

-- "A rewriting is any list of such steps: the first is taken on the goal alone, with nothing gathered or marked, each later one on what the
-- one before it left."
unfoldable pub Steps : Case → Network → List Step → Type 0
Steps k n [] = Unit {0}
Steps k n (s ∷ ss) = CanTake k n s × Steps k (rewritten k n s) ss

unfoldable pub rewritten_by : Case → Network → List Step → Network
rewritten_by k n [] = n
rewritten_by k n (s ∷ ss) = rewritten_by k (rewritten k n s) ss

unfoldable pub goal_alone : Case → Network
goal_alone k = record { occurrences = ([], k.head.goal) ∷ []; gathered = []; marked = [] }

-- What a rewriting leaves.
unfoldable pub result : Case → List Step → Network
result k ss = rewritten_by k (goal_alone k) ss

-- "It is complete if no compound occurrence is left."
pub record CompleteRewriting (k : Case) (ss : List Step) : Type 0 where
  pub steps : Steps k (goal_alone k) ss
  pub actions : (o : Occurrence) → Mem o (result k ss).occurrences → o.1 < k.head.actions

-- "The record is the set of (path, method) used and of (path, action) left."
pub data Entry : Type 0 where
  used : (m : ℕ) → Entry
  left : (a : ℕ) → Entry

unfoldable pub record_of : Case → List Step → List (TaskPath × Entry)
record_of k ss = map (λ s. (s.0, used s.1)) ss ++ map (λ o. (o.0, left o.1)) (result k ss).occurrences

-- Two lists that stand for one set.
abbrev pub SameSet : {A : Type 0} → List A → List A → Type 0
SameSet {A} xs ys = (x : A) → Mem x xs ↔ Mem x ys

-- ---- The claimed tree

unfoldable pub subtasks_after : Case → NodeLine → List ℕ
subtasks_after k (D m) = (method_at k.methods m).subtasks
subtasks_after k (E m g) = []
subtasks_after k (L a i) = []

-- "D for methods that have subtasks and E for those that have none"
unfoldable pub right_kind : Case → NodeLine → Bool
right_kind k (D m) = not (no_subtasks (method_at k.methods m))
right_kind k (E m g) = no_subtasks (method_at k.methods m)
right_kind k (L a i) = true

abbrev pub with_line : TaskPath × NodeLine → Option (List (TaskPath × NodeLine)) → Option (List (TaskPath × NodeLine))
with_line x none = none
with_line x (some xs) = some (x ∷ xs)

-- "A claimed tree has a record only if its lines, taken in preorder, are neither over nor lacking": then each with its path. A line takes the
-- next occurrence that waits, and its subtasks wait ahead of the rest.
unfoldable pub named : Case → List NodeLine → List Occurrence → Option (List (TaskPath × NodeLine))
named k [] [] = some []
named k [] (o ∷ waiting) = none
named k (x ∷ xs) [] = none
named k (x ∷ xs) (o ∷ waiting) =
    elim (right_kind k x) [ true ↦ with_line (o.0, x) (named k xs (subtasks_of o.0 0 (subtasks_after k x) ++ waiting)) | false ↦ none ]

unfoldable pub claimed_lines : Case → Option (List (TaskPath × NodeLine))
claimed_lines k = named k k.nodes (([], k.head.goal) ∷ [])

-- "each line then gives its path's pair"
unfoldable pub entry_of : NodeLine → Entry
entry_of (D m) = used m
entry_of (E m g) = used m
entry_of (L a i) = left a

unfoldable pub claimed_record : List (TaskPath × NodeLine) → List (TaskPath × Entry)
claimed_record lines = map (λ x. (x.0, entry_of x.1)) lines

-- "The claimed places give each action path its position and each empty path its gap"
pub data Place : Type 0 where
  cue : (i : ℕ) → Place
  gap : (g : ℕ) → Place

unfoldable pub place_of : NodeLine → List Place
place_of (D m) = []
place_of (E m g) = gap g ∷ []
place_of (L a i) = cue i ∷ []

unfoldable pub places_of : List (TaskPath × NodeLine) → List (TaskPath × Place)
places_of [] = []
places_of (x ∷ xs) = map (λ p. (x.0, p)) (place_of x.1) ++ places_of xs

unfoldable pub index_of : Place → ℕ
index_of (cue i) = of_cue i
index_of (gap g) = of_gap g

-- Path r lies in a part of q: at or below q, or at or below a member of q.
unfoldable pub is_in_part : TaskPath → Part → TaskPath → Bool
is_in_part [] whole r = true
is_in_part [] (those in?) [] = false
is_in_part [] (those in?) (j ∷ r) = in? j
is_in_part (i ∷ q) part [] = false
is_in_part (i ∷ q) part (j ∷ r) = eqb i j && is_in_part q part r

unfoldable pub indexes_in : List (TaskPath × Place) → TaskPath → Part → List ℕ
indexes_in [] q part = []
indexes_in (x ∷ places) q part = cond (is_in_part q part x.0) (index_of x.1 ∷ []) [] ++ indexes_in places q part

-- "indexes and constraints then mean what "Indexes" says": the least and the greatest index claimed in a part of q.
unfoldable pub span_in : List (TaskPath × Place) → TaskPath → Part → Span
span_in places q part = record { start = least (indexes_in places q part); end = greatest (indexes_in places q part) }

-- ---- Demand 3

-- "its actions at the claimed positions are the plan, each cue once"
pub record PerformsPlan (k : Case) (places : List (TaskPath × Place)) (n : Network) : Type 0 where
  -- Each action left stands at a claimed position, where the plan has it.
  pub placed : (o : Occurrence) → Mem o n.occurrences → (i : ℕ) × (i < length k.plan) × (get_or k.plan i 0 ≡ o.1) × Mem (o.0, cue (i + 1)) places
  -- Each cue is the action of some occurrence,
  pub every : (i : ℕ) → i < length k.plan → (o : Occurrence) × Mem o n.occurrences × Mem (o.0, cue (i + 1)) places
  -- and of one only.
  pub once : (i : ℕ) (o o' : Occurrence) → Mem o n.occurrences → Mem o' n.occurrences → Mem (o.0, cue i) places → Mem (o'.0, cue i) places → o ≡ o'

-- "a complete rewriting of its goal task, as 01 lays rewritings down, of which all this is true"
pub record AgreeingRewriting (k : Case) : Type 0 where
  pub steps : List Step
  pub complete : CompleteRewriting k steps
  -- "its record equals the claimed tree's record"
  pub lines : List (TaskPath × NodeLine)
  pub preordered : claimed_lines k ≡ some lines
  pub records : SameSet (record_of k steps) (claimed_record lines)
  -- "its actions at the claimed positions are the plan, each cue once"
  pub performs : PerformsPlan k (places_of lines) (result k steps)
  -- "the plan runs from the initial state"
  pub states : List State
  pub are : AreStates k states
  pub runs : (i : ℕ) → i < length k.plan → CueApplies k states i
  -- "and every constraint gathered holds at the claimed places"
  pub kept : (q : TaskPath) (d : Constraint) → Mem (q, d) (result k steps).gathered → Keeps states (span_in (places_of lines) q) d

-- "for every two complete rewritings of one model's goal task, whichever compound task each takes at each step: if their records are equal, the
-- sets of constraints that they gathered are equal"
unfoldable pub RecordDecides : Case → Type 0
RecordDecides k = (ss ss' : List Step) → CompleteRewriting k ss → CompleteRewriting k ss' → SameSet (record_of k ss) (record_of k ss')
    → SameSet (result k ss).gathered (result k ss').gathered
