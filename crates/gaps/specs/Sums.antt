-- What node lines say of a span whatever the gaps: the least and the greatest cue among them, and how many empty tasks stand there. Assumes nothing.
use Rattle.std.specs.Prelude.{Bool, ◌&&◌, List, [], ◌∷◌, ℕ, ◌+◌, min, max, leb, ltb}
use Rattle.rules.specs.Index.{of_cue, of_gap}
use Rattle.rules.specs.Case.{NodeLine, D, E, L}

-- The least cue, or the last gap of so many cues if there is none: no gap comes after that.
abbrev pub low_of : ℕ → List NodeLine → ℕ
low_of cues [] = of_gap cues
low_of cues (D m ∷ ns) = low_of cues ns
low_of cues (E m g ∷ ns) = low_of cues ns
low_of cues (L a i ∷ ns) = min (of_cue i) (low_of cues ns)

-- The greatest cue, or 0 if there is none.
abbrev pub high_of : List NodeLine → ℕ
high_of [] = 0
high_of (D m ∷ ns) = high_of ns
high_of (E m g ∷ ns) = high_of ns
high_of (L a i ∷ ns) = max (of_cue i) (high_of ns)

-- Whether s is one of the n positions from a on.
abbrev pub in_run : ℕ → ℕ → ℕ → Bool
in_run a n s = leb a s && ltb s (a + n)
