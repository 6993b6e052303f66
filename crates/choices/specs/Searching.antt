-- A search through the choices of gaps (02, Card 4) in dictionary order: the place of a choice, the next one that differs within its first b
-- gaps, the choices from one on, and what it is to pass over choices that fail. Assumes nothing.
use Rattle.std.specs.Prelude.{◌≡◌, Bool, true, false, List, [], ◌∷◌, ◌++◌, ℕ, zero, suc, ◌+◌, ◌*◌, ◌-◌, ◌≤◌, ltb, length, take, replicate}
use Rattle.rules.specs.Gaps.{led, led_from, choices, power, Within, Choice}

-- The place of a choice, from 0: its number to base k + 1, the first gap most significant.
abbrev pub place : ℕ → List ℕ → ℕ
place k [] = 0
place k (g ∷ gs) = g * power k (length gs) + place k gs

-- ---- The next choice

pub data Next : Type 0 where
  next : List ℕ → Next
  over : Next

-- g one higher where that is allowed, and 0 after it.
abbrev pub bumped : Bool → ℕ → ℕ → Next
bumped true g n = next (suc g ∷ replicate n 0)
bumped false g n = over

-- g stays where what follows it has a next; else it goes up.
abbrev pub carried : ℕ → ℕ → ℕ → Next → Next
carried k g n (next gs) = next (g ∷ gs)
carried k g n over = bumped (ltb g k) g n

-- The first choice after c that differs from c within the first b gaps.
abbrev pub next_of : ℕ → ℕ → List ℕ → Next
next_of k zero c = over
next_of k (suc b) [] = over
next_of k (suc b) (g ∷ gs) = carried k g (length gs) (next_of k b gs)

-- What `advance` answers and leaves.
abbrev pub advanced : Bool → List ℕ → Next
advanced true c = next c
advanced false c = over

-- ---- The choices from c on

abbrev pub on_from : ℕ → List ℕ → List (List ℕ)
on_from k [] = [] ∷ []
on_from k (g ∷ gs) = led g (on_from k gs) ++ led_from (k - g) (suc g) (choices k (length gs))

-- The first b gaps of c are to blame: each choice that has the same fails.
abbrev pub Blames : (List ℕ → Bool) → ℕ → List ℕ → ℕ → Type 0
Blames passing k c b = (b ≤ length c) × ((d : List ℕ) → Choice k (length c) d → take b d ≡ take b c → passing d ≡ false)

abbrev pub AllFail : (List ℕ → Bool) → List (List ℕ) → Type 0
AllFail passing [] = Unit {0}
AllFail passing (c ∷ cs) = (passing c ≡ false) × AllFail passing cs

-- From c on to d, which may be c: the choices from c on, ahead of d, fail.
pub record Skips (passing : List ℕ → Bool) (k : ℕ) (c d : List ℕ) : Type 0 where
  pub skipped : List (List ℕ)
  pub split : on_from k c ≡ skipped ++ on_from k d
  pub fail : AllFail passing skipped
  pub same_length : length d ≡ length c
  pub within : Within k d
