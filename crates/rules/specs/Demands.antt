-- The three demands, as statements about what a call answers and leaves in the lent lists. `proofs/Demands.antt` proves 2 and 3 of the
-- verdict; the calls promise all three. Assumes nothing.
use Rattle.std.specs.Prelude.{◌≡◌, true, List, ◌↔◌, ℕ, length}
use Rattle.rules.specs.declared.Node.{Node}
use Rattle.rules.specs.Result.{Result, found, refused}
use Rattle.rules.specs.Case.{Case, read_case}
use Rattle.rules.specs.Verdict.{Report, reported, Lent, state_need, node_need, work_need, check_lists, replay_lists, check, replay, answer_of, states_after, nodes_after, work_after, readable, inside_limits}
use Rattle.rules.specs.Rules.{Rules}
use Rattle.rules.specs.Refusals.{Each, LongEnough, Shows}
use Rattle.rules.specs.Rewriting.{AgreeingRewriting, RecordDecides}

-- ---- Demand 1

-- The lists that the check call borrows, as they come or as they are left.
pub record Borrowed : Type 0 where
  pub states : List ℕ
  pub nodes : List Node
  pub work : List ℕ

abbrev pub borrowed : List ℕ → List Node → List ℕ → Borrowed
borrowed s n w = record { states = s; nodes = n; work = w }

unfoldable pub lent_by : Borrowed → List Lent
lent_by b = check_lists (length b.states) (length b.nodes) (length b.work)

-- "lent lists as long as 01 asks"
unfoldable pub as_asked : List Lent
as_asked = check_lists state_need node_need work_need

-- "each call on any bytes and any lent lists ends in acceptance or in the one refusal that document 01 fixes, with every lent list filled as
-- laid down there and nothing left for the caller to check first"
pub record Demand1 (text : List ℕ) (before : Borrowed) (r : Report) (after : Borrowed) : Type 0 where
  pub answer : r ≡ reported (answer_of (check (lent_by before) text))
  pub states : after.states ≡ states_after (length before.states) (check (lent_by before) text)
  pub nodes : after.nodes ≡ nodes_after (length before.nodes) (check (lent_by before) text)
  pub work : after.work ≡ work_after (length before.work)

-- The same of the replay call, which "borrows no node list".
pub record ReplayDemand1 (text states work : List ℕ) (r : Report) (states' work' : List ℕ) : Type 0 where
  pub answer : r ≡ reported (answer_of (replay (replay_lists (length states) (length work)) text))
  pub filled : states' ≡ states_after (length states) (replay (replay_lists (length states) (length work)) text)
  pub zero : work' ≡ work_after (length work)

-- ---- Demand 2

-- P of the case that is read; nothing is read of a text that is refused.
abbrev pub OfRead : (Case → Type 0) → Result Case → Type 0
OfRead P (found k) = P k
OfRead P (refused r) = ⊥

-- Number 0 is acceptance.
abbrev pub IsAccepted : Report → Type 0
IsAccepted r = r.number ≡ 0

pub record Demand2 (text : List ℕ) (lists : List Lent) (r : Report) : Type 0 where
  -- "With lent lists as long as 01 asks, a case is accepted exactly when it is readable, inside 01's limits, and the index-based rules of
  -- hierarchical plans, as set out there, hold of its model, plan and tree"
  pub accepts : Each LongEnough lists → IsAccepted r ↔ ((readable text ≡ true) × (inside_limits text ≡ true) × OfRead Rules (read_case text))
  -- "a refusal shows the first rule broken in 01's order"
  pub shows : (IsAccepted r → ⊥) → Shows lists text r.number r.line r.item

-- ---- Demand 3

pub record Demand3 (text : List ℕ) (lists : List Lent) (r : Report) : Type 0 where
  -- "Take any readable case inside 01's limits, with lent lists as long as 01 asks. The check accepts it exactly when there is a complete
  -- rewriting of its goal task, as 01 lays rewritings down, of which all this is true"
  pub accepts : Each LongEnough lists → readable text ≡ true → inside_limits text ≡ true → IsAccepted r ↔ OfRead AgreeingRewriting (read_case text)
  -- "Besides, for every two complete rewritings of one model's goal task, whichever compound task each takes at each step: if their records
  -- are equal, the sets of constraints that they gathered are equal."
  pub decides : (k : Case) → RecordDecides k
