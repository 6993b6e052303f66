-- Gaps put into the E lines among the fields: the lines passed hold the gaps of the choice, the others are as they came. Assumes nothing.
use mathlib.Core.Path.{◌≡◌, refl, sym, ap, ap₂, ◌∙◌}
use mathlib.Core.List.{List, [], ◌∷◌, ◌++◌, append_assoc}
use Prim.Native.Nat.{ℕ, ◌+◌, ◌≤◌, ◌<◌}
use native.Mathlib.Numerals.{add-one}
use native.Mathlib.Omega.{arith}
use lib.ListN.{length, get_or, take, drop, set, take-append-drop, drop_of_length-le}
use lib.Seq.{take_at, drop_at, take-add, drop-drop, take-set-le, drop-set-add}
use Rattle.rules.specs.Case.{NodeLine, D, E, L}
use Rattle.rules.specs.Gaps.{empty_count, with_gaps}
use Rattle.fields.specs.Directory.{node_size}
use Rattle.fields.proofs.Lines.{node_fields, node_fields_lem}
use Rattle.records.specs.Records.{NodesStand}
use Rattle.gaps.proofs.Lines.{fields_of_lines, letter_of, line_at, Due, line_due, over_empties, due_those, due_others}

-- Numbers that stand after what is kept, and are passed.
module _ (fields kept ys more : List ℕ) (p n : ℕ) (k : take p fields ≡ kept) (h : drop p fields ≡ ys ++ more) (l : length ys ≡ n) where
  passed_drop : drop (p + n) fields ≡ more
  passed_drop = sym (drop-drop n p fields) ∙ ap (drop n) h ∙ drop_at ys more n l

  passed_take : take (p + n) fields ≡ kept ++ ys
  passed_take = take-add p n fields ∙ ap₂ ◌++◌ k (ap (take n) h ∙ take_at ys more n l)

-- At line i, with a gaps put: the lines from there on are as they came; those passed, then these with the gaps that follow, are all of them.
pub record Putting (start choice : List ℕ) (nodes : ℕ) (ns : List NodeLine) (rest fields : List ℕ) (p i a : ℕ) : Type 0 where
  pub here : drop p fields ≡ fields_of_lines (drop i ns) ++ rest
  pub same : take p fields ++ (fields_of_lines (with_gaps choice a (drop i ns)) ++ rest) ≡ take nodes start ++ (fields_of_lines (with_gaps choice 0 ns) ++ rest)
  pub counted : a + empty_count (drop i ns) ≡ empty_count ns

abbrev pub Puts : List ℕ → List ℕ → ℕ → ℕ → List ℕ → ℕ → ℕ → ℕ → Type 0
Puts start choice nodes count fields p i a = (ns : List NodeLine) (s : NodesStand start nodes count ns) → empty_count ns ≤ length choice
    → Putting start choice nodes ns s.here.rest fields p i a

pub puts_start : (start choice : List ℕ) (nodes count : ℕ) → Puts start choice nodes count start nodes 0 0
puts_start start choice nodes count ns s e = record { here = s.here.here; same = refl; counted = omega arith }

module _ (start choice : List ℕ) (nodes : ℕ) (ns : List NodeLine) (rest fields : List ℕ) (p i a : ℕ) (g : Putting start choice nodes ns rest fields p i a) where
  pub due_now : i < length ns → Due fields p ns i
  due_now more = line_due fields p ns i (record { rest = rest; here = g.here }) more

  pub puts_end : length ns ≤ i → fields ≡ take nodes start ++ (fields_of_lines (with_gaps choice 0 ns) ++ rest)
  puts_end most =
      let none : drop i ns ≡ [] = drop_of_length-le ns {i = i} most in
      sym (take-append-drop p fields)
      ∙ ap (λ (l : List ℕ). take p fields ++ l) (g.here ∙ ap (λ (l : List NodeLine). fields_of_lines l ++ rest) none)
      ∙ ap (λ (l : List NodeLine). take p fields ++ (fields_of_lines (with_gaps choice a l) ++ rest)) (sym none)
      ∙ g.same

  module _ (d : Due fields p ns i) where
    -- The line passed is x now.
    put_on : (now : List ℕ) (x : NodeLine) (b size : ℕ) → with_gaps choice a (drop i ns) ≡ x ∷ with_gaps choice b (drop (i + 1) ns)
        → take p now ≡ take p fields → drop p now ≡ node_fields x ++ (fields_of_lines (drop (i + 1) ns) ++ rest) → length (node_fields x) ≡ size
        → b + empty_count (drop (i + 1) ns) ≡ a + empty_count (drop i ns) → Putting start choice nodes ns rest now (p + size) (i + 1) b
    put_on now x b size w t h l c =
        let more = fields_of_lines (drop (i + 1) ns) ++ rest in
        let later = fields_of_lines (with_gaps choice b (drop (i + 1) ns)) in
        record {
          here = passed_drop now (take p fields) (node_fields x) more p size t h l;
          same = ap (λ (k : List ℕ). k ++ (later ++ rest)) (passed_take now (take p fields) (node_fields x) more p size t h l)
              ∙ append_assoc (take p fields) (node_fields x) (later ++ rest)
              ∙ ap (λ (k : List ℕ). take p fields ++ k) (sym (append_assoc (node_fields x) later rest))
              ∙ ap (λ (k : List ℕ). take p fields ++ ((k ++ later) ++ rest)) (sym (node_fields_lem x))
              ∙ ap (λ (k : List NodeLine). take p fields ++ (fields_of_lines k ++ rest)) (sym w)
              ∙ g.same;
          counted = c ∙ g.counted;
        }

    here_split : drop p fields ≡ node_fields (line_at ns i) ++ (fields_of_lines (drop (i + 1) ns) ++ rest)
    here_split = g.here ∙ ap (λ (k : List ℕ). k ++ rest) d.split ∙ append_assoc (node_fields (line_at ns i)) (fields_of_lines (drop (i + 1) ns)) rest

    -- A line that is no E line stays.
    pub put_past : (get_or fields p 0 ≡ 69 → ⊥) → (size : ℕ) → size ≡ node_size (get_or fields p 0)
        → Putting start choice nodes ns rest fields (p + size) (i + 1) a
    put_past other size e =
        put_on fields (line_at ns i) a size (ap (with_gaps choice a) d.first ∙ kept (line_at ns i) (λ q. other (d.letter ∙ q))) refl here_split
        (sym (e ∙ d.size)) (omega (arith, due_others over_empties fields p ns i d other))
      where
        kept : (x : NodeLine) → (letter_of x ≡ 69 → ⊥) → with_gaps choice a (x ∷ drop (i + 1) ns) ≡ x ∷ with_gaps choice a (drop (i + 1) ns)
        kept (D m) h = refl
        kept (E m y) h = absurd (h refl)
        kept (L y j) h = refl

    -- An E line takes the next gap.
    pub put_here : get_or fields p 0 ≡ 69 → (size : ℕ) → size ≡ node_size (get_or fields p 0)
        → Putting start choice nodes ns rest (set fields (p + 2) (get_or choice a 0)) (p + size) (i + 1) (a + 1)
    put_here is size e = go (line_at ns i) d.first (sym d.letter ∙ is) here_split (sym (e ∙ d.size))
      where
        v : ℕ
        v = get_or choice a 0

        go : (x : NodeLine) → drop i ns ≡ x ∷ drop (i + 1) ns → letter_of x ≡ 69
            → drop p fields ≡ node_fields x ++ (fields_of_lines (drop (i + 1) ns) ++ rest) → length (node_fields x) ≡ size
            → Putting start choice nodes ns rest (set fields (p + 2) v) (p + size) (i + 1) (a + 1)
        go (D m) f l h s = absurd (omega arith)
        go (E m y) f l h s =
            put_on (set fields (p + 2) v) (E m v) (a + 1) size
            (ap (with_gaps choice a) f ∙ ap (λ (b : ℕ). E m v ∷ with_gaps choice b (drop (i + 1) ns)) (sym (add-one a)))
            (take-set-le p fields (p + 2) v (omega arith)) (drop-set-add p fields 2 v ∙ ap (λ (k : List ℕ). set k 2 v) h) s
            (omega (arith, due_those over_empties fields p ns i d is (λ q. omega arith)))
        go (L y j) f l h s = absurd (omega arith)
