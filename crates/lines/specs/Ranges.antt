-- The ranges of the kinds of numbers, each by its least and its greatest number, and how they are listed before a line. Assumes nothing.
use Rattle.std.specs.Prelude.{◌≡◌, Bool, true, not, List, [], ◌∷◌, ℕ, zero, suc, ◌+◌, ◌-◌, ◌^◌, eqb, get_or}
use Rattle.rules.specs.declared.Header.{Header}
use Rattle.rules.specs.Table as T
use Rattle.rules.specs.Table.{Kind, is_compound}
use Rattle.rules.specs.Case.{header_in}
use Rattle.lines.specs.declared.bounds.Bounds.{Bounds}
use Rattle.lines.specs.Shapes.{kinds}

abbrev pub bounds : ℕ → ℕ → Bounds
bounds least greatest = record { 0 = least; 1 = greatest }

-- The numbers below n: 1 to 0 where there is none.
abbrev pub all_below : ℕ → Bounds
all_below zero = bounds 1 0
all_below (suc n) = bounds 0 n

abbrev pub moved_up : ℕ → Bounds → Bounds
moved_up n b = bounds (n + b.0) (n + b.1)

-- The range of a kind, by the header h and the subtask count n.
unfoldable pub bounds_of : Header → ℕ → Kind → Bounds
bounds_of h n (T.up_to most) = bounds 0 most
bounds_of h n (T.one_up_to most) = bounds 1 most
bounds_of h n T.goal = bounds 0 4294967295
bounds_of h n T.compound = moved_up h.actions (all_below h.compounds)
bounds_of h n T.task = all_below (h.actions + h.compounds)
bounds_of h n T.an_action = all_below h.actions
bounds_of h n T.aMethod = all_below h.methods
bounds_of h n T.proposition = all_below h.propositions
bounds_of h n T.memberCount = bounds 0 h.propositions
bounds_of h n T.subtask = all_below n
bounds_of h n T.otherSubtask = all_below n
bounds_of h n T.subtaskSet = bounds 0 (2 ^ n - 1)
bounds_of h n T.gap = bounds 0 h.cues
bounds_of h n T.position = bounds 1 h.cues

-- What two kinds ask for besides, by the numbers before theirs in its line: the goal is compound, and j is not i.
unfoldable pub apart_from : List ℕ → Kind → ℕ → Bool
apart_from before (T.up_to most) v = true
apart_from before (T.one_up_to most) v = true
apart_from before T.goal v = is_compound (get_or before 1 0) (get_or before 2 0) v
apart_from before T.compound v = true
apart_from before T.task v = true
apart_from before T.an_action v = true
apart_from before T.aMethod v = true
apart_from before T.proposition v = true
apart_from before T.memberCount v = true
apart_from before T.subtask v = true
apart_from before T.otherSubtask v = not (eqb v (get_or before 0 0))
apart_from before T.subtaskSet v = true
apart_from before T.gap v = true
apart_from before T.position v = true

abbrev pub in_turn : (Kind → Bounds) → List Kind → List ℕ
in_turn range [] = []
in_turn range (k ∷ ks) = (range k).0 ∷ (range k).1 ∷ in_turn range ks

-- What is known before a line: the header's numbers, the subtask count, and then the range of each kind, in the order of their bytes.
unfoldable pub known_of : Header → ℕ → List ℕ
known_of h n =
    h.propositions ∷ h.actions ∷ h.compounds ∷ h.methods ∷ h.goal ∷ h.cues ∷ h.nodes ∷ n ∷ in_turn (bounds_of h n) kinds

-- The ranges are those of the header and the subtask count before them.
abbrev pub Known : List ℕ → Type 0
Known x = x ≡ known_of (header_in x) (get_or x 7 0)
