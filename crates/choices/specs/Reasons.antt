-- Why choices fail, as sets of gaps: a set is a number, gap i its bit i. Assumes nothing.
use Rattle.std.specs.Prelude.{◌≡◌, Bool, false, List, ℕ, ◌/◌, ◌%◌, ◌^◌, ◌<◌, length, get_or}
use Rattle.rules.specs.Gaps.{Choice}
use Rattle.choices.specs.Searching.{next, next_of, Blames}

abbrev pub Has : ℕ → ℕ → Type 0
Has m i = m / 2 ^ i % 2 ≡ 1

-- d has the gaps of c that are in m and below s.
abbrev pub AgreeBelow : ℕ → ℕ → List ℕ → List ℕ → Type 0
AgreeBelow s m c d = (i : ℕ) → i < s → Has m i → get_or d i 0 ≡ get_or c i 0

-- c fails because of its gaps that are in m and below s: so does each choice that agrees with it there.
abbrev pub Reason : (List ℕ → Bool) → ℕ → ℕ → ℕ → List ℕ → Type 0
Reason passing k s m c = (d : List ℕ) → Choice k (length c) d → AgreeBelow s m c d → passing d ≡ false

-- For each gap s a reason why every lower number there fails: the gaps of why s that are below s.
abbrev pub Known : (List ℕ → Bool) → ℕ → List ℕ → List ℕ → Type 0
Known passing k why c =
    (s : ℕ) → s < length c → (d : List ℕ) → Choice k (length c) d → AgreeBelow s (get_or why s 0) c d → get_or d s 0 < get_or c s 0 → passing d ≡ false

-- What `learn` promises, whatever the condition: of a reason m and known reasons it makes a blame r, and the reasons known of the next choice.
abbrev pub Learns : ℕ → ℕ → List ℕ → List ℕ → ℕ → List ℕ → Type 0
Learns k m c why r after =
    (passing : List ℕ → Bool) → Reason passing k (length c) m c → Known passing k why c
    → Blames passing k c r × ((d : List ℕ) → next_of k r c ≡ next d → Known passing k after d)
