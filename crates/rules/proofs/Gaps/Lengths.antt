-- How long the text with other gaps is: only the digits of the gaps change, so the two texts differ by what their gaps have past one digit
-- each. Assumes nothing.
use mathlib.Core.Path.{◌≡◌, refl, ap}
use mathlib.Core.Bool.{Bool, true, false}
use mathlib.Core.List.{List, [], ◌∷◌, ◌++◌, map, flatten}
use Prim.Native.Nat.{ℕ, zero, suc, ◌+◌, ◌-◌, ◌/◌, ◌%◌, ◌≤◌}
use Prim.Native.Char.{code}
use native.Mathlib.Omega.{arith}
use lib.Dec.{ltb}
use lib.ListN.{length, length-append}
use Rattle.rules.specs.Text.{decimal_in, decimal}
use Rattle.rules.specs.Table.{table, row_of}
use Rattle.rules.specs.Case.{NodeLine, D, E, L, Case, Valued}
use Rattle.rules.specs.Fields.{line_fields, header_line, initial_line, action_line, method_lines, cues_line, node_line, lines_of}
use Rattle.rules.specs.Print.{line_text, lines_text, printed}
use Rattle.rules.specs.Gaps.{empty_count, with_gaps, case_with, text_with, gaps_of, ChoiceOf}
use Rattle.rules.proofs.Gaps.Texts.{gaps_later}

-- The digits that gaps have past one each.
abbrev pub surplus : List ℕ → ℕ
surplus [] = 0
surplus (g ∷ gs) = length (decimal g) - 1 + surplus gs

-- ---- Numbers

digits_some : (d n b : ℕ) (rest : List ℕ) → 1 ≤ length (decimal_in d n (b ∷ rest))
digits_some zero n b rest = omega arith
digits_some (suc d) n b rest = go (ltb n 10) (digits_some d (n / 10) (code "0" + n % 10) (b ∷ rest))
  where
    more : List ℕ
    more = decimal_in d (n / 10) ((code "0" + n % 10) ∷ b ∷ rest)

    go : (t : Bool) → 1 ≤ length more → 1 ≤ length {A = ℕ} (elim t [ true ↦ (code "0" + n) ∷ b ∷ rest | false ↦ more ])
    go true h = omega arith
    go false h = h

-- A number has a digit.
pub decimal_some : (n : ℕ) → 1 ≤ length (decimal n)
unfolding decimal
decimal_some n = go (ltb n 10)
  where
    go : (t : Bool) → 1 ≤ length {A = ℕ} (elim t [ true ↦ (code "0" + n) ∷ [] | false ↦ decimal_in 9 (n / 10) ((code "0" + n % 10) ∷ []) ])
    go true = omega arith
    go false = digits_some 9 (n / 10) (code "0" + n % 10) []

-- ---- Lines

abbrev size : List Valued → ℕ
size xs = length (lines_text xs)

abbrev line_size : NodeLine → ℕ
line_size x = length (line_text (line_fields (node_line x)))

-- Behind the same lines.
size_behind : (xs ys zs : List Valued) (a b : ℕ) → size ys + a ≡ size zs + b → size (xs ++ ys) + a ≡ size (xs ++ zs) + b
size_behind [] ys zs a b e = e
size_behind (x ∷ xs) ys zs a b e =
    let h = size_behind xs ys zs a b e in
    let t = line_text (line_fields x) in
    omega (arith, length-append t (lines_text (xs ++ ys)), length-append t (lines_text (xs ++ zs)))

-- The line of an empty task, by its gap.
empty_size : (m g : ℕ) → line_size (E m g) ≡ length (decimal m) + length (decimal g) + 4
unfolding node_line line_fields row_of table line_text
empty_size m g =
    let end = code "\n" ∷ [] in
    omega (
      arith,
      length-append (code "," ∷ (decimal m ++ (code "," ∷ (decimal g ++ [])))) end,
      length-append (decimal m) (code "," ∷ (decimal g ++ [])),
      length-append (decimal g) [],
    )

first_line : (x : NodeLine) (ns : List NodeLine) → size (map node_line (x ∷ ns)) ≡ line_size x + size (map node_line ns)
first_line x ns = length-append (line_text (line_fields (node_line x))) (lines_text (map node_line ns))

-- The node lines.
nodes_size : (gs : List ℕ) (ns : List NodeLine) → length gs ≡ empty_count ns
    → size (map node_line (with_gaps gs 0 ns)) + surplus (gaps_of ns) ≡ size (map node_line ns) + surplus gs
nodes_size [] [] e = refl
nodes_size (g ∷ gs) [] e = absurd (omega arith)
nodes_size gs (D m ∷ ns) e =
    let h = nodes_size gs ns e in
    omega (arith, first_line (D m) ns, first_line (D m) (with_gaps gs 0 ns))
nodes_size [] (E m x ∷ ns) e = absurd (omega arith)
nodes_size (g ∷ gs) (E m x ∷ ns) e =
    let h = nodes_size gs ns (omega arith) in
    let later = ap (λ (l : List NodeLine). size (map node_line l)) (gaps_later g gs 0 ns) in
    omega (
      arith,
      first_line (E m x) ns,
      first_line (E m g) (with_gaps (g ∷ gs) 1 ns),
      empty_size m x,
      empty_size m g,
      decimal_some x,
      decimal_some g,
    )
nodes_size gs (L x i ∷ ns) e =
    let h = nodes_size gs ns e in
    omega (arith, first_line (L x i) ns, first_line (L x i) (with_gaps gs 0 ns))

-- ---- The whole

pub length_surplus : (k : Case) (gs : List ℕ) → ChoiceOf k gs
    → length (text_with gs k) + surplus (gaps_of k.nodes) ≡ length (printed k) + surplus gs
unfolding text_with printed lines_of case_with
length_surplus k gs c =
    let own = surplus (gaps_of k.nodes) in
    let ns = map node_line k.nodes in
    let ms = map node_line (with_gaps gs 0 k.nodes) in
    let plan = cues_line k.plan in
    let methods = flatten (map method_lines k.methods) in
    let before = header_line k.head ∷ initial_line k.initial ∷ map action_line k.actions in
    size_behind before (methods ++ (plan ∷ ms)) (methods ++ (plan ∷ ns)) own (surplus gs)
    (size_behind methods (plan ∷ ms) (plan ∷ ns) own (surplus gs)
    (size_behind (plan ∷ []) ms ns own (surplus gs) (nodes_size gs k.nodes c.0)))
