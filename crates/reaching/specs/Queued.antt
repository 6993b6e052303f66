-- The state of a walk: the marks of the lines, and a queue whose first `tail` places hold the marked ones, in the order in which they were marked.
-- Assumes nothing.
use Rattle.std.specs.Prelude.{◌≡◌, List, ◌⊎◌, ℕ, zero, suc, ◌+◌, ◌≤◌, ◌<◌, length, get_or}
use Rattle.reaching.specs.Visited.{Graph}

-- The sum of the first n marks: how many of these lines are marked.
abbrev pub total : List ℕ → ℕ → ℕ
total marks zero = 0
total marks (suc n) = total marks n + get_or marks n 0

-- The marked lines are those in the queue, and as many: so each is in it once.
pub record Queued (marks queue : List ℕ) (tail : ℕ) : Type 0 where
  pub bit : (d : ℕ) → get_or marks d 0 ≤ 1
  pub counted : tail ≡ total marks (length queue)
  pub listed : (i : ℕ) → i < tail → get_or marks (get_or queue i 0) 0 ≡ 1
  pub placed : (d : ℕ) → get_or marks d 0 ≡ 1 → (i : ℕ) × (i < tail) × (get_or queue i 0 ≡ d)

-- From one state to the next: the lines of a set are marked too, and no others; those that were not are appended.
pub record Adds (set : ℕ → Type 0) (marks queue : List ℕ) (tail : ℕ) (marks' queue' : List ℕ) (tail' : ℕ) : Type 0 where
  pub queued : Queued marks' queue' tail'
  pub longer : tail ≤ tail'
  pub same : (i : ℕ) → i < tail → get_or queue' i 0 ≡ get_or queue i 0
  pub stays : (d : ℕ) → get_or marks d 0 ≡ 1 → get_or marks' d 0 ≡ 1
  pub all : (d : ℕ) → set d → get_or marks' d 0 ≡ 1
  pub only : (d : ℕ) → get_or marks' d 0 ≡ 1 → (get_or marks d 0 ≡ 1) ⊎ set d

-- ---- The sets

-- The line that a link or a twin names.
abbrev pub Names : ℕ → ℕ → Type 0
Names target d = target ≡ suc d

-- The lines that the links from one place up to another name.
abbrev pub Among : List ℕ → ℕ → ℕ → ℕ → Type 0
Among links from to d = (u : ℕ) × (from ≤ u) × (u < to) × (get_or links u 0 ≡ suc d)

-- The lines that follow the line e: those that it links to, and its twin.
abbrev pub Follows : List ℕ → List ℕ → List ℕ → ℕ → ℕ → Type 0
Follows starts links twin e d = Among links (get_or starts e 0) (get_or starts (e + 1) 0) d ⊎ Names (get_or twin e 0) d

-- ---- What the lists have room for

abbrev pub Room : ℕ → List ℕ → List ℕ → Type 0
Room target marks queue = (target ≤ length marks) × (target ≤ length queue)

-- The line e is one of so many, for which all lists are long enough.
pub record Line (starts links twin : List ℕ) (e : ℕ) (marks queue : List ℕ) : Type 0 where
  pub count : ℕ
  pub graph : Graph starts links twin count
  pub low : e < count
  pub room : Room count marks queue
