-- The rows of the state list: state i has the `word_count` numbers from `word_count * i` on. Assumes nothing.
use Rattle.std.specs.Prelude.{List, [], ◌∷◌, ◌++◌, ℕ, ◌+◌, ◌*◌, take, drop}
use Rattle.rules.specs.State.{State, word_count, member}
use Rattle.rules.specs.Constraint.{Holds, signed}

-- Stretch i of a list of stretches of n numbers.
unfoldable pub stretch_at : ℕ → List ℕ → ℕ → List ℕ
stretch_at n l i = take n (drop (n * i) l)

-- The list with s as stretch i.
unfoldable pub put_stretch : ℕ → List ℕ → ℕ → List ℕ → List ℕ
put_stretch n l i s = take (n * i) l ++ (s ++ drop (n * i + n) l)

-- "each written to its own stretch": the list with the words of a state as state i.
unfoldable pub put_row : List ℕ → ℕ → State → List ℕ
put_row l i s = put_stretch word_count l i s

-- State i of the list.
unfoldable pub row_at : List ℕ → ℕ → State
row_at l i = stretch_at word_count l i

-- Whether proposition p is in state l of the list; or whether it is not.
unfoldable pub in_row : List ℕ → Holds
in_row words s p l = signed s (member (row_at words l) p)

-- The list with so many states written in turn, the first of them as state i.
abbrev pub put_rows : List ℕ → ℕ → List State → List ℕ
put_rows l i [] = l
put_rows l i (s ∷ ss) = put_rows (put_row l i s) (i + 1) ss
