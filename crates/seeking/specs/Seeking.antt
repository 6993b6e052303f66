-- What a search through the choices of gaps passes over, and where it stops (02, Card 4). Assumes nothing.
use Rattle.std.specs.Prelude.{◌≡◌, Bool, true, false, List, ℕ, ◌<◌, ◌≤◌, length, Option, Some, None}
use Rattle.rules.specs.Gaps.{Within, Choice}
use Rattle.rules.proofs.Gaps.Lengths.{surplus}
use Rattle.choices.specs.Searching.{on_from, AllFail, Skips}
use Rattle.choices.specs.Reasons.{Reason, Known}

-- A choice of more digits than there is room for fails.
abbrev pub LongFails : (List ℕ → Bool) → ℕ → ℕ → ℕ → Type 0
LongFails passing k e spare = (gs : List ℕ) → Choice k e gs → spare < surplus gs → passing gs ≡ false

-- On to a choice with the reasons known of it: those between fail. Or none is left, and all from here on fail.
pub record GoesOn (passing : List ℕ → Bool) (k : ℕ) (c d why : List ℕ) : Type 0 where
  pub skips : Skips passing k c d
  pub known : Known passing k why d

abbrev pub Skipped : (List ℕ → Bool) → ℕ → List ℕ → Option ℕ → List ℕ → List ℕ → Type 0
Skipped passing k c None d why = AllFail passing (on_from k c)
Skipped passing k c (Some b) d why = GoesOn passing k c d why

-- Fewer choices are left, and a position changed, one of the first b.
abbrev pub Nearer : ℕ → List ℕ → Option ℕ → List ℕ → Type 0
Nearer k c None d = Unit {0}
Nearer k c (Some b) d =
    (1 ≤ b) × (b ≤ length c) × (length (on_from k d) < length (on_from k c)) × (length d ≡ length c) × (Within k c → Within k d)

-- Positions that are named are a reason, where so many digits at most have room.
abbrev pub LongSays : ℕ → ℕ → List ℕ → Option ℕ → Type 0
LongSays k spare gs None = Unit {0}
LongSays k spare gs (Some m) = (passing : List ℕ → Bool) → LongFails passing k (length gs) spare → Reason passing k (length gs) m gs

-- Where a search stops: at a choice that nothing is known against; or all from the first on fail.
abbrev pub Sought : (List ℕ → Bool) → ℕ → List ℕ → Bool → List ℕ → List ℕ → Type 0
Sought passing k c true d why = GoesOn passing k c d why
Sought passing k c false d why = AllFail passing (on_from k c)
