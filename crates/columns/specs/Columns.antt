-- A column: the states in which one proposition is not, as a set of state numbers in words, and a word for each sign that sums these up.
-- Assumes nothing.
use Rattle.std.specs.Prelude.{◌≡◌, Bool, true, not, List, ℕ, ◌+◌, ◌*◌, ◌≤◌, ◌<◌, length, replicate}
use Rattle.rules.specs.declared.Sign.{Sign}
use Rattle.rules.specs.declared.Sign.TheVariants.{Positive, Negative}
use Rattle.rules.specs.State.{word_count, member, every}
use Rattle.rules.specs.Constraint.{signed}
use Rattle.rows.specs.Rows.{stretch_at, in_row}

-- How many words of a column are of states: a bit for each of states 0 to 1,000, and 23 more.
unfoldable pub state_words : ℕ
state_words = 16

-- The word of a column that sums up its words of states for a sign: a bit for each of them.
unfoldable pub sum_at : Sign → ℕ
sum_at Positive = 16
sum_at Negative = 17

-- How many words a column has.
unfoldable pub column_words : ℕ
column_words = 18

-- How many columns there are: one for each proposition that the set of those built has a bit for.
unfoldable pub column_count : List ℕ → ℕ
column_count built = 64 * length built

-- The column of proposition p.
unfoldable pub column_at : List ℕ → ℕ → List ℕ
column_at columns p = stretch_at column_words columns p

-- Bit l of a column is clear.
abbrev pub clear : List ℕ → ℕ → Bool
clear column l = not (member column l)

-- Bit l is as a sign asks: clear for a proposition that is to be true, set for one that is to be false.
abbrev pub asked : Sign → List ℕ → ℕ → Bool
asked s column l = signed s (clear column l)

-- The word that sums up for a sign has bit w clear exactly if all of word w is as the sign asks, for the words of the first n states.
abbrev pub Summed : List ℕ → ℕ → Type 0
Summed column n = (s : Sign) (w : ℕ) → w * 64 + 64 ≤ n → clear column (sum_at s * 64 + w) ≡ every 64 (w * 64) (asked s column)

-- The column of p: bit l is as a sign asks exactly if the signed test of p holds in state l, for the first n states.
pub record Column (states : List ℕ) (p n : ℕ) (column : List ℕ) : Type 0 where
  pub at : (s : Sign) (l : ℕ) → l < n → asked s column l ≡ in_row states s p l
  pub summed : Summed column n

-- The columns of the first n states, and the set of the propositions whose column is built: what holds from test to test.
pub record Columns (states : List ℕ) (n : ℕ) (columns built : List ℕ) : Type 0 where
  pub fits : n ≤ 64 * state_words
  pub there : word_count * n ≤ length states
  pub few : length built ≤ word_count
  pub room : length columns ≡ column_count built * column_words
  pub right : (p : ℕ) → member built p ≡ true → Column states p n (column_at columns p)

-- What a caller lends at first: a set with no member, of at most as many words as a state has, and room for its columns, whatever stands there.
pub record Blank (columns built : List ℕ) : Type 0 where
  pub few : length built ≤ word_count
  pub room : length columns ≡ column_count built * column_words
  pub none : built ≡ replicate (length built) 0

-- What a clause sees of the columns of a run's states: the list of the states, and how many of them are held.
pub record FirstStates : Type 0 where
  pub states : List ℕ
  pub held : ℕ
