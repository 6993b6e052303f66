-- The definitions compute, as document 01 reads: the fields of one line, each at the place where reading it starts. Assumes nothing.
use mathlib.Core.Path.{◌≡◌, refl}
use mathlib.Core.Bool.{true, false}
use mathlib.Core.List.{List, [], ◌∷◌}
use Prim.Native.Nat.{ℕ}
use Rattle.rules.specs.Text.{is_feed, is_comma, is_digit, ends_field, is_plain, number, not_plain, missing, number_at, letter, no_letter, letter_at, ended, surplus, ending_at, feed_follows}

-- N,30,0,012,4294967295,4294967296,,7x and a line feed, then AB
line : List ℕ
line =
    78 ∷ 44 ∷ 51 ∷ 48 ∷ 44 ∷ 48 ∷ 44 ∷ 48 ∷ 49 ∷ 50
    ∷ 44 ∷ 52 ∷ 50 ∷ 57 ∷ 52 ∷ 57 ∷ 54 ∷ 55 ∷ 50 ∷ 57 ∷ 53
    ∷ 44 ∷ 52 ∷ 50 ∷ 57 ∷ 52 ∷ 57 ∷ 54 ∷ 55 ∷ 50 ∷ 57 ∷ 54
    ∷ 44 ∷ 44 ∷ 55 ∷ 120 ∷ 10 ∷ 65 ∷ 66 ∷ []

each : {A : Type 0} → (ℕ → A) → List ℕ → List A
each f [] = []
each f (p ∷ ps) = f p ∷ each f ps

-- In turn: 30; 0 itself; a leading zero; the largest; one more than that; an empty field; no digit; the line's end; no comma; past the text.
numbers : each (number_at line) (1 ∷ 4 ∷ 6 ∷ 10 ∷ 21 ∷ 32 ∷ 33 ∷ 36 ∷ 0 ∷ 50 ∷ [])
    ≡ number 30 4 ∷ number 0 6 ∷ not_plain ∷ number 4294967295 21 ∷ not_plain ∷ not_plain ∷ not_plain ∷ missing ∷ missing ∷ missing ∷ []
unfolding each line number_at is_plain is_digit ends_field is_comma is_feed
numbers = refl

-- N; an empty field; two letters; a field of one byte at the text's end.
letters : each (letter_at line) (0 ∷ 1 ∷ 37 ∷ 38 ∷ []) ≡ letter 78 1 ∷ no_letter ∷ no_letter ∷ letter 66 39 ∷ []
unfolding each line letter_at ends_field is_comma is_feed
letters = refl

-- A comma, a line feed, past the text.
endings : each (ending_at line) (1 ∷ 36 ∷ 39 ∷ []) ≡ surplus ∷ ended 37 ∷ surplus ∷ []
unfolding each line ending_at is_feed
endings = refl

-- A line feed follows up to the last one, and not past it.
feeds : each (feed_follows line) (0 ∷ 36 ∷ 37 ∷ []) ≡ true ∷ true ∷ false ∷ []
unfolding each line feed_follows is_feed
feeds = refl
