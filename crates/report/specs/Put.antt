-- Bytes that are put into a list before a place. Assumes nothing.
use Rattle.std.specs.Prelude.{◌≡◌, List, ◌++◌, ℕ, ◌+◌, ◌≤◌, ◌<◌, drop}

-- From place r on, `after` has these bytes, one to `most` of them, and then what `before` had from place `at` on.
pub record Put (bytes : List ℕ) (most at : ℕ) (before : List ℕ) (r : ℕ) (after : List ℕ) : Type 0 where
  pub is : drop r after ≡ bytes ++ drop at before
  pub low : r < at
  pub high : at ≤ r + most
