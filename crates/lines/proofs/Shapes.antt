-- The bytes of the constant table: one that is none of the letters of 01's table starts no line, and which item another stands for.
-- Assumes nothing.
use mathlib.Core.Path.{◌≡◌, refl, sym, ap, ◌∙◌}
use mathlib.Core.List.{List, [], ◌∷◌}
use mathlib.Core.Option.{Option, none, some}
use mathlib.Core.Bool.{Bool, true, false}
use Prim.Native.Nat.{ℕ, ◌≤◌, ◌<◌}
use borrow.Author.Tests.{ne_eqb, lt-ltb, le-ltb}
use Rattle.rules.specs.Table.{Row, row_in, row_of, table, one, cues}
use Rattle.lines.specs.Shapes.{shape_row, row_shown, items_of, kind_of, item_of}

-- A byte is none of the letters of these rows.
abbrev pub NoLetterOf : ℕ → List Row → Type 0
NoLetterOf l [] = Unit {0}
NoLetterOf l (r ∷ rs) = (l ≡ r.letter → ⊥) × NoLetterOf l rs

none_in : (l : ℕ) (rs : List Row) → NoLetterOf l rs → row_in l rs ≡ none
none_in l [] h = refl
none_in l (r ∷ rs) h =
    ap (λ (b : Bool). elim b as (λ x. Option Row) [ true ↦ some r | false ↦ row_in l rs ]) (ne_eqb l r.letter h.0) ∙ none_in l rs h.1

pub shape_other : (l : ℕ) → NoLetterOf l table → shape_row 0 ≡ row_shown (row_of l)
unfolding shape_row row_shown items_of row_of table
shape_other l h = ap row_shown (sym (none_in l table h))

-- ---- Items

pub item_one : (b : ℕ) → b < 20 → item_of b ≡ one (kind_of b)
unfolding item_of
item_one b h = rw (lt-ltb b 20 h, item_of)

pub item_cues : (b : ℕ) → 20 ≤ b → (b ≡ 20 → ⊥) → (b ≡ 21 → ⊥) → item_of b ≡ cues
unfolding item_of
item_cues b h x y = rw (item_of, le-ltb b 20 h, ne_eqb b 20 x, ne_eqb b 21 y)
