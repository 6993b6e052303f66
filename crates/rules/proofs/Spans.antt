-- The least start and the greatest end of a list of spans, taken one span at a time: `min` and `max` may be folded in any order.
-- Assumes nothing.
use mathlib.Core.Path.{◌≡◌, refl, sym, ap, ap₂, ◌∙◌}
use mathlib.Core.List.{List, [], ◌∷◌, map, foldr}
use Prim.Native.Nat.{ℕ, ◌+◌, min, max}
use native.Mathlib.Nat.{max-zero, min_comm}
use native.Mathlib.Omega.{arith}
use Rattle.rules.specs.Index.{Span, of_cue, of_gap, at, least, greatest, hull, rounded_up, rounded_down, c, f}

-- What the fold starts from may be folded in last.
fold_min : (x y : ℕ) (l : List ℕ) → foldr min (min y x) l ≡ min y (foldr min x l)
fold_min x y [] = refl
fold_min x y (z ∷ l) = let ih = fold_min x y l in omega arith

least_fold : (x y : ℕ) (l : List ℕ) → min y (foldr min x l) ≡ min x (foldr min y l)
least_fold x y l = sym (fold_min x y l) ∙ ap (λ (n : ℕ). foldr min n l) (min_comm y x) ∙ fold_min y x l

max_three : (x y z : ℕ) → max x (max y z) ≡ max (max x (max y 0)) z
max_three x y z = omega arith

abbrev pub span_from : ℕ → ℕ → Span
span_from s e = record { start = s; end = e }

pub hull_one : (s : Span) → hull (s ∷ []) ≡ s
unfolding hull least greatest
hull_one s = ap (span_from s.start) (max-zero s.end)

pub hull_two : (s t : Span) → hull (s ∷ t ∷ []) ≡ span_from (min s.start t.start) (max s.end t.end)
unfolding hull least greatest
hull_two s t = ap₂ span_from (min_comm t.start s.start) (ap (max s.end) (max-zero t.end))

-- The first span joined to the hull of the rest.
pub hull_cons_start : (s t : Span) (l : List Span) → (hull (s ∷ t ∷ l)).start ≡ min s.start (hull (t ∷ l)).start
unfolding hull least
hull_cons_start s t l = least_fold s.start t.start (map (λ s. s.start) l)

pub hull_cons_end : (s t : Span) (l : List Span) → (hull (s ∷ t ∷ l)).end ≡ max s.end (hull (t ∷ l)).end
unfolding hull greatest
hull_cons_end s t l = refl

-- The first two spans joined, then the rest: for a loop that joins one span at a time.
pub hull_join : (s t : Span) (l : List Span) → hull (s ∷ t ∷ l) ≡ hull (hull (s ∷ t ∷ []) ∷ l)
unfolding hull least greatest
hull_join s t l =
    let ends : ℕ = foldr max 0 (map (λ s. s.end) l) in
    ap₂ span_from (sym (fold_min s.start t.start (map (λ s. s.start) l))) (max_three s.end t.end ends)

-- ---- the roundings of a cue and of a gap

-- The states around a cue: it comes after state i - 1, and state i follows it.
pub cue_c : (i : ℕ) → c (at (of_cue i)) ≡ i
unfolding c at of_cue rounded_up
cue_c i = omega arith

pub cue_f : (i : ℕ) → f (at (of_cue i)) ≡ i
unfolding f at of_cue rounded_down
cue_f i = omega arith

-- A gap's start is the next state's number, and its end the one before it.
pub gap_c : (g : ℕ) → c (at (of_gap g)) ≡ g + 1
unfolding c at of_gap rounded_up
gap_c g = omega arith

pub gap_f : (g : ℕ) → f (at (of_gap g)) ≡ g
unfolding f at of_gap rounded_down
gap_f g = omega arith
