-- Numbers, lines and whole cases as text before what follows them: the printers of specs/Print in the form in which a text is taken apart from
-- a place on, so that no place is a sum of lengths. Assumes nothing.
use mathlib.Core.Path.{◌≡◌, refl, sym, ap, ◌∙◌}
use mathlib.Core.List.{List, [], ◌∷◌, ◌++◌, map, flatten, append_assoc, append-nil}
use Prim.Native.Nat.{ℕ}
use Prim.Native.Char.{code}
use Rattle.rules.specs.Text.{decimal}
use Rattle.rules.specs.Table.{row_of}
use Rattle.rules.specs.Case.{Case, Valued}
use Rattle.rules.specs.Fields.{items_fields, row_items, line_fields, lines_of}
use Rattle.rules.specs.Print.{numbers_text, line_text, lines_text, printed}

abbrev pub numbers_onto : List ℕ → List ℕ → List ℕ
numbers_onto [] rest = rest
numbers_onto (n ∷ ns) rest = code "," ∷ (decimal n ++ numbers_onto ns rest)

unfoldable pub line_onto : Valued → List ℕ → List ℕ
line_onto x rest = x.0 ∷ numbers_onto (items_fields (row_items (row_of x.0)) x.1) (code "\n" ∷ rest)

abbrev pub lines_onto : List Valued → List ℕ → List ℕ
lines_onto [] rest = rest
lines_onto (x ∷ xs) rest = line_onto x (lines_onto xs rest)

-- ---- Two lists in turn

pub numbers_append : (ms ns rest : List ℕ) → numbers_onto (ms ++ ns) rest ≡ numbers_onto ms (numbers_onto ns rest)
numbers_append [] ns rest = refl
numbers_append (m ∷ ms) ns rest = ap (λ (l : List ℕ). code "," ∷ (decimal m ++ l)) (numbers_append ms ns rest)

pub lines_append : (xs ys : List Valued) (rest : List ℕ) → lines_onto (xs ++ ys) rest ≡ lines_onto xs (lines_onto ys rest)
lines_append [] ys rest = refl
lines_append (x ∷ xs) ys rest = ap (line_onto x) (lines_append xs ys rest)

-- One line for each is the list of the lines.
pub flatten_ones : {A : Type 0} (back : A → Valued) (xs : List A) → flatten (map (λ x. back x ∷ []) xs) ≡ map back xs
unfolding flatten
flatten_ones back [] = refl
flatten_ones back (x ∷ xs) = ap (λ (l : List Valued). back x ∷ l) (flatten_ones back xs)

-- ---- As printed

numbers_onto_lem : (ns rest : List ℕ) → numbers_onto ns rest ≡ numbers_text ns ++ rest
numbers_onto_lem [] rest = refl
numbers_onto_lem (n ∷ ns) rest =
    ap (λ (l : List ℕ). code "," ∷ l) (ap (λ (l : List ℕ). decimal n ++ l) (numbers_onto_lem ns rest) ∙ sym (append_assoc (decimal n) (numbers_text ns) rest))

line_onto_lem : (x : Valued) (rest : List ℕ) → line_onto x rest ≡ line_text (line_fields x) ++ rest
unfolding line_onto line_text line_fields
line_onto_lem x rest =
    let ns = items_fields (row_items (row_of x.0)) x.1 in
    ap (λ (l : List ℕ). x.0 ∷ l) (numbers_onto_lem ns (code "\n" ∷ rest) ∙ sym (append_assoc (numbers_text ns) (code "\n" ∷ []) rest))

lines_onto_lem : (xs : List Valued) (rest : List ℕ) → lines_onto xs rest ≡ lines_text xs ++ rest
lines_onto_lem [] rest = refl
lines_onto_lem (x ∷ xs) rest =
    ap (line_onto x) (lines_onto_lem xs rest) ∙ line_onto_lem x (lines_text xs ++ rest) ∙ sym (append_assoc (line_text (line_fields x)) (lines_text xs) rest)

pub printed_onto : (k : Case) → printed k ≡ lines_onto (lines_of k) []
unfolding printed
printed_onto k = sym (lines_onto_lem (lines_of k) [] ∙ append-nil (lines_text (lines_of k)))
