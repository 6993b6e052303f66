-- A graph of lines by number, from 0, in plain lists, and the lines that are visited from one of them. A link or a twin is a line's number and
-- one more, or 0 for none. The links of the line e are those from its start up to the next line's. Assumes nothing.
use Rattle.std.specs.Prelude.{◌≡◌, List, ℕ, suc, ◌+◌, ◌≤◌, ◌<◌, length, get_or}

-- From the root on, to each line that a visited one links to, and to its twin.
pub data Visited (starts links twin : List ℕ) (root : ℕ) : ℕ → Type 0 where
  begin : Visited starts links twin root root
  linked : (e d u : ℕ) → Visited starts links twin root e → get_or starts e 0 ≤ u → u < get_or starts (e + 1) 0 → get_or links u 0 ≡ suc d
      → Visited starts links twin root d
  twinned : (e d : ℕ) → Visited starts links twin root e → get_or twin e 0 ≡ suc d → Visited starts links twin root d

-- The lists are fit for a graph of `count` lines.
pub record Graph (starts links twin : List ℕ) (count : ℕ) : Type 0 where
  pub starts_fit : count < length starts
  pub twins_fit : count ≤ length twin
  pub ordered : (e : ℕ) → e < count → get_or starts e 0 ≤ get_or starts (e + 1) 0
  pub inside : (e : ℕ) → e ≤ count → get_or starts e 0 ≤ length links
  pub links_low : (e u : ℕ) → e < count → get_or starts e 0 ≤ u → u < get_or starts (e + 1) 0 → get_or links u 0 ≤ count
  pub twins_low : (e : ℕ) → e < count → get_or twin e 0 ≤ count

-- The marks after a walk: 1 for each line that is visited from the root, 0 for every other.
pub record Marked (starts links twin : List ℕ) (root : ℕ) (marks : List ℕ) : Type 0 where
  pub bit : (d : ℕ) → get_or marks d 0 ≤ 1
  pub only : (d : ℕ) → (get_or marks d 0 ≡ 0 → ⊥) → Visited starts links twin root d
  pub all : (d : ℕ) → Visited starts links twin root d → get_or marks d 0 ≡ 1
