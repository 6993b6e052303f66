-- What a refusal shows: the first rule broken, row by row of 01's table as 02's Card 7 parts it. Every row before it is passed and this one is
-- not, at this line and item. Assumes nothing.
use Rattle.std.specs.Prelude.{◌≡◌, ◌≢◌, ℕ, ◌+◌, ◌-◌, ◌≤◌, ◌<◌, length, get_or}
use mathlib.Core.List.{List, [], ◌∷◌, ◌++◌, map, Memᴰ as Mem}
use Rattle.rules.specs.State.{State}
use Rattle.rules.specs.Case.{Constraint, O, B, F, W, method_at, NodeLine, D, E, L, Case, read_case}
use Rattle.rules.specs.Result.{found}
use Rattle.rules.specs.Faults.{Unread, Outside}
use Rattle.rules.specs.Tree.{Tree, preorder, root_line}
use Rattle.rules.specs.Constraint.{constraints_of, parts_of}
use Rattle.rules.specs.Verdict.{Lent, text_most}
use Rattle.rules.specs.Rules.{AreStates, CueApplies, Fits, FitsTask, claimants, Keeps}

-- Every member has the property.
abbrev pub Each : {A : Type 0} → (A → Type 0) → List A → Type 0
Each {A} P l = (x : A) → Mem x l → P x

-- The first member that is bad; those before it are good.
pub record First {A : Type 0} (Good Bad : A → Type 0) (l : List A) : Type 0 where
  pub before : List A
  pub it : A
  pub after : List A
  pub split : l ≡ before ++ it ∷ after
  pub good : Each Good before
  pub bad : Bad it

-- ---- What holds once the rows before are passed

abbrev pub LongEnough : Lent → Type 0
LongEnough l = l.need ≤ l.size

abbrev pub Short : Lent → Type 0
Short l = l.size < l.need

-- Rows 1 and 2.
pub record Admits (lists : List Lent) (text : List ℕ) : Type 0 where
  pub long_lists : Each LongEnough lists
  pub short_text : length text ≤ text_most

-- Rows 1 to 4: the text reads as a case, whose states are these.
pub record Reads (lists : List Lent) (text : List ℕ) (k : Case) (states : List State) : Type 0 where
  pub admits : Admits lists text
  pub reading : read_case text ≡ found k
  pub are : AreStates k states

-- Rows 1 to 5: the plan runs.
pub record Runs (lists : List Lent) (text : List ℕ) (k : Case) (states : List State) : Type 0 where
  pub reads : Reads lists text k states
  pub runs : (i : ℕ) → i < length k.plan → CueApplies k states i

-- A task that is expected, and its level.
abbrev pub Expected : Type 0
Expected = ℕ × ℕ

abbrev pub expected_at : ℕ → List ℕ → List Expected
expected_at level [] = []
expected_at level (t ∷ ts) = (t, level) ∷ expected_at level ts

-- The subtasks that a line at a level brings.
abbrev pub below : Case → ℕ → NodeLine → List Expected
below k level (D m) = expected_at (level + 1) (method_at k.methods m).subtasks
below k level (E m g) = []
below k level (L a i) = []

-- What is expected after so many lines: a line takes the first, and its subtasks are expected ahead of the rest.
abbrev pub waiting : Case → List NodeLine → List Expected → List Expected
waiting k [] st = st
waiting k (x ∷ xs) [] = []
waiting k (x ∷ xs) (e ∷ st) = waiting k xs (below k e.1 x ++ st)

-- A node's own task: its action, or the task of its method.
abbrev pub own_task : Case → NodeLine → ℕ
own_task k (D m) = (method_at k.methods m).task
own_task k (E m g) = (method_at k.methods m).task
own_task k (L a i) = a

-- "a D line with an empty method or an E line with one that isn't" (02, Card 7)
abbrev pub LetterWrong : Case → NodeLine → Type 0
LetterWrong k (D m) = (method_at k.methods m).subtasks ≡ []
LetterWrong k (E m g) = (method_at k.methods m).subtasks ≢ []
LetterWrong k (L a i) = ⊥

-- A leaf's position has its action, and no leaf before it claims that.
abbrev pub MayClaim : Case → List NodeLine → NodeLine → Type 0
MayClaim k before (D m) = Unit {0}
MayClaim k before (E m g) = Unit {0}
MayClaim k before (L a i) = (get_or k.plan (i - 1) 0 ≡ a) × ((b : ℕ) → Mem (L b i) before → ⊥)

-- The lines after these are right: each fits the task that is expected there, at most at level 64, and a leaf may claim its position.
abbrev pub RightNodes : Case → List NodeLine → List NodeLine → List Expected → Type 0
RightNodes k before [] st = Unit {0}
RightNodes k before (x ∷ xs) [] = ⊥
RightNodes k before (x ∷ xs) (e ∷ st) =
    Fits k x e.0 × (e.1 ≤ 64) × MayClaim k before x × RightNodes k (before ++ x ∷ []) xs (below k e.1 x ++ st)

abbrev pub root : Case → List Expected
root k = (k.head.goal, 1) ∷ []

-- Rows 1 to 8, 20 among them, up to these node lines: they are right, and these lines and expected tasks come next.
pub record Walks (lists : List Lent) (text : List ℕ) (k : Case) (before rest : List NodeLine) (st : List Expected) : Type 0 where
  pub states : List State
  pub runs : Runs lists text k states
  pub split : k.nodes ≡ before ++ rest
  pub right : RightNodes k [] before (root k)
  pub expected : waiting k before (root k) ≡ st

-- The claimants of position i are just its cue.
abbrev pub Claimed : Case → ℕ → Type 0
Claimed k i = claimants i k.nodes ≡ get_or k.plan (i - 1) 0 ∷ []

-- A node keeps all constraints of its method; or the first that it doesn't.
abbrev pub KeepsAll : Case → List State → Tree → Type 0
KeepsAll k states x = Each (Keeps states (parts_of x)) (constraints_of k x)

abbrev pub BreaksOne : Case → List State → Tree → Type 0
BreaksOne k states x = First (Keeps states (parts_of x)) (λ d. Keeps states (parts_of x) d → ⊥) (constraints_of k x)

-- Rows 1 to 8: all node lines are right, and they are those of a tree.
pub record Grows (lists : List Lent) (text : List ℕ) (k : Case) (states : List State) (t : Tree) : Type 0 where
  pub runs : Runs lists text k states
  pub right : RightNodes k [] k.nodes (root k)
  pub preordered : map root_line (preorder t) ≡ k.nodes
  pub fitting : FitsTask k t k.head.goal

-- Rows 1 to 9: and every position is claimed.
pub record Covers (lists : List Lent) (text : List ℕ) (k : Case) (states : List State) (t : Tree) : Type 0 where
  pub grown : Grows lists text k states t
  pub claimed : (i : ℕ) → 1 ≤ i → i ≤ k.head.cues → Claimed k i

-- "first broken O, B, F, W": "10, 11, 12, 13". "Broken ones give 11, 12 and 13" (02, Card 1).
abbrev pub broken_number : Constraint → ℕ
broken_number (O i j) = 10
broken_number (B s p u) = 11
broken_number (F s p u) = 12
broken_number (W s u p v) = 13

-- ---- The table: number, line and item

module _ (lists : List Lent) (text : List ℕ) where
  pub data Shows : ℕ → ℕ → ℕ → Type 0 where
    -- "lent lists: one is shorter than asked"
    short : (l : First LongEnough Short lists) → Shows 1 0 l.it.item
    -- "text: longer than 65,535 bytes"
    long : Each LongEnough lists → text_most < length text → Shows 2 0 0
    -- "reading"
    unread : {line field : ℕ} → Admits lists text → Unread text line field → Shows 3 line field
    -- "same field: outside its range"
    outside : {line field : ℕ} → Admits lists text → Outside text line field → Shows 4 line field
    -- "running: first cue that doesn't apply"
    cue : {k : Case} {states : List State} {i : ℕ} → Reads lists text k states → i < length k.plan
        → ((j : ℕ) → j < i → CueApplies k states j) → (CueApplies k states i → ⊥) → Shows 5 k.plan_line (i + 1)
    -- "a node of another task than expected" (02, Card 7)
    other : {k : Case} {before : List NodeLine} {x : NodeLine} {xs : List NodeLine} {t level : ℕ} {st : List Expected}
        → Walks lists text k before (x ∷ xs) ((t, level) ∷ st) → own_task k x ≢ t → Shows 6 (k.plan_line + 1 + length before) 0
    -- "20, a D line with an empty method or an E line with one that isn't", of the task expected
    letter : {k : Case} {before : List NodeLine} {x : NodeLine} {xs : List NodeLine} {t level : ℕ} {st : List Expected}
        → Walks lists text k before (x ∷ xs) ((t, level) ∷ st) → own_task k x ≡ t → LetterWrong k x → Shows 20 (k.plan_line + 1 + length before) 0
    -- "same node: level 65"
    deep : {k : Case} {before : List NodeLine} {x : NodeLine} {xs : List NodeLine} {t : ℕ} {st : List Expected}
        → Walks lists text k before (x ∷ xs) ((t, 65) ∷ st) → Fits k x t → Shows 7 (k.plan_line + 1 + length before) 0
    -- "same node: leaf's position has another action or was claimed earlier"
    claim : {k : Case} {before : List NodeLine} {a i : ℕ} {xs : List NodeLine} {t level : ℕ} {st : List Expected}
        → Walks lists text k before (L a i ∷ xs) ((t, level) ∷ st) → Fits k (L a i) t → level ≤ 64 → (MayClaim k before (L a i) → ⊥)
        → Shows 8 (k.plan_line + 1 + length before) i
    -- "22, nodes over too soon"
    lacking : {k : Case} {before : List NodeLine} {e : Expected} {st : List Expected} → Walks lists text k before [] (e ∷ st)
        → Shows 22 (k.plan_line + 1 + length before) 0
    -- "21, a surplus node, whatever its line holds"
    over : {k : Case} {before : List NodeLine} {x : NodeLine} {xs : List NodeLine} → Walks lists text k before (x ∷ xs) []
        → Shows 21 (k.plan_line + 1 + length before) 0
    -- "after the walk: least position unclaimed"
    unclaimed : {k : Case} {states : List State} {t : Tree} {i : ℕ} → Grows lists text k states t → 1 ≤ i → i ≤ k.head.cues
        → claimants i k.nodes ≡ [] → ((j : ℕ) → 1 ≤ j → j < i → Claimed k j) → Shows 9 k.plan_line i
    -- "constraints, nodes in order, each method's in text order: first broken"
    broken : {k : Case} {states : List State} {t : Tree} → Covers lists text k states t
        → (x : First (KeepsAll k states) (BreaksOne k states) (preorder t))
        → Shows (broken_number x.bad.it) (k.plan_line + 1 + length x.before) (length x.bad.before)
