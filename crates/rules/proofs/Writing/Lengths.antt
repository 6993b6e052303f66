-- The written text is not longer than the text that came: tidying drops lines of constraints and adds none, and the count on a method's
-- line gets no longer as it gets smaller. Assumes nothing.
use mathlib.Core.Path.{◌≡◌, refl}
use mathlib.Core.Bool.{Bool, true, false}
use mathlib.Core.List.{List, [], ◌∷◌, ◌++◌, map, flatten}
use Prim.Native.Nat.{ℕ, zero, suc, ◌+◌, ◌/◌, ◌%◌, ◌≤◌}
use Prim.Native.Char.{code}
use native.Mathlib.Omega.{arith}
use lib.Dec.{ltb}
use lib.ListN.{length, length-append}
use borrow.Author.Tests.{ltb-true, ltb-false}
use Rattle.rules.specs.Text.{decimal_in, decimal}
use Rattle.rules.specs.Table.{table, row_of}
use Rattle.rules.specs.Case.{Constraint, Method, Case, Valued}
use Rattle.rules.specs.Fields.{line_fields, header_line, initial_line, action_line, constraint_line, method_lines, cues_line, node_line, lines_of}
use Rattle.rules.specs.Print.{numbers_text, line_text, lines_text, printed}
use Rattle.rules.specs.Writing.{sorted, tidied_method, tidied, written}
use Rattle.rules.proofs.Writing.Sorted.{total, sorted_total}
use Rattle.rules.proofs.Writing.Tidied.{sorted_length}

-- ---- Numbers

decimal_least : (digits n : ℕ) (rest : List ℕ) → length rest ≤ length (decimal_in digits n rest)
decimal_least zero n rest = omega arith
decimal_least (suc digits) n rest = go (ltb n 10) (decimal_least digits (n / 10) ((code "0" + n % 10) ∷ rest))
  where
    go : (b : Bool) → suc (length rest) ≤ length (decimal_in digits (n / 10) ((code "0" + n % 10) ∷ rest))
        → length rest ≤ length {A = ℕ} (elim b [ true ↦ (code "0" + n) ∷ rest | false ↦ decimal_in digits (n / 10) ((code "0" + n % 10) ∷ rest) ])
    go true h = omega arith
    go false h = omega arith

-- A smaller number has no more digits.
decimal_grows : (digits a b : ℕ) (r s : List ℕ) → a ≤ b → length r ≤ length s → length (decimal_in digits a r) ≤ length (decimal_in digits b s)
decimal_grows zero a b r s h l = l
decimal_grows (suc digits) a b r s h l =
    go (ltb a 10) refl (ltb b 10) refl (decimal_least digits (b / 10) ((code "0" + b % 10) ∷ s))
    (decimal_grows digits (a / 10) (b / 10) ((code "0" + a % 10) ∷ r) ((code "0" + b % 10) ∷ s) (omega arith) (omega arith))
  where
    shorter : List ℕ
    shorter = decimal_in digits (a / 10) ((code "0" + a % 10) ∷ r)

    longer : List ℕ
    longer = decimal_in digits (b / 10) ((code "0" + b % 10) ∷ s)

    go : (x : Bool) → ltb a 10 ≡ x → (y : Bool) → ltb b 10 ≡ y → suc (length s) ≤ length longer → length shorter ≤ length longer
        → length {A = ℕ} (elim x [ true ↦ (code "0" + a) ∷ r | false ↦ shorter ])
        ≤ length {A = ℕ} (elim y [ true ↦ (code "0" + b) ∷ s | false ↦ longer ])
    go true e true f m n = omega arith
    go true e false f m n = omega arith
    go false e true f m n = absurd (omega (arith, ltb-true b 10 f, ltb-false a 10 e))
    go false e false f m n = n

-- The last of a line's numbers is smaller.
last_grows : (ns : List ℕ) (a b : ℕ) → a ≤ b → length (numbers_text (ns ++ a ∷ [])) ≤ length (numbers_text (ns ++ b ∷ []))
unfolding decimal
last_grows [] a b h =
    let n = decimal_grows 10 a b [] [] h (omega arith) in
    omega (arith, length-append (decimal_in 10 a []) [], length-append (decimal_in 10 b []) [])
last_grows (n ∷ ns) a b h =
    let r = last_grows ns a b h in
    omega (arith, length-append (decimal_in 10 n []) (numbers_text (ns ++ a ∷ [])), length-append (decimal_in 10 n []) (numbers_text (ns ++ b ∷ [])))

-- ---- Lines

abbrev size : List Valued → ℕ
size xs = length (lines_text xs)

size_append : (xs ys : List Valued) → size (xs ++ ys) ≡ size xs + size ys
size_append [] ys = omega arith
size_append (x ∷ xs) ys =
    let h = size_append xs ys in
    let t = line_text (line_fields x) in
    omega (arith, length-append t (lines_text (xs ++ ys)), length-append t (lines_text xs))

constraints_size : (cs : List Constraint) → size (map constraint_line cs) ≡ total (λ c. length (line_text (line_fields (constraint_line c)))) cs
constraints_size [] = refl
constraints_size (c ∷ cs) =
    let h = constraints_size cs in
    omega (arith, length-append (line_text (line_fields (constraint_line c))) (lines_text (map constraint_line cs)))

-- A method's line, whose last number is the count of its constraints, is as the table has it.
abbrev method_text : Method → ℕ → List ℕ
method_text m count = line_text (code "M" ∷ ((m.task ∷ length m.subtasks ∷ m.subtasks) ++ (count ∷ [])))

method_grows : (m : Method) (a b : ℕ) → a ≤ b → length (method_text m a) ≤ length (method_text m b)
unfolding line_text
method_grows m a b h =
    let ns = m.task ∷ length m.subtasks ∷ m.subtasks in
    let n = last_grows ns a b h in
    let end = code "\n" ∷ [] in
    omega (arith, length-append (numbers_text (ns ++ a ∷ [])) end, length-append (numbers_text (ns ++ b ∷ [])) end)

method_parts : (m : Method) → size (method_lines m) ≡ length (method_text m (length m.constraints)) + size (map constraint_line m.constraints)
unfolding method_lines line_fields row_of table
method_parts m = length-append (method_text m (length m.constraints)) (lines_text (map constraint_line m.constraints))

method_size : (m : Method) → size (method_lines (tidied_method m)) ≤ size (method_lines m)
unfolding tidied_method
method_size m =
    let cs = m.constraints in
    omega (
      arith,
      method_grows m (length (sorted cs)) (length cs) (sorted_length cs),
      sorted_total (λ c. length (line_text (line_fields (constraint_line c)))) cs,
      constraints_size cs,
      constraints_size (sorted cs),
      method_parts m,
      method_parts (tidied_method m),
    )

methods_size : (ms : List Method) → size (flatten (map method_lines (map tidied_method ms))) ≤ size (flatten (map method_lines ms))
unfolding flatten
methods_size [] = omega arith
methods_size (m ∷ ms) =
    let h = method_size m in
    let r = methods_size ms in
    omega (
      arith,
      size_append (method_lines m) (flatten (map method_lines ms)),
      size_append (method_lines (tidied_method m)) (flatten (map method_lines (map tidied_method ms))),
    )

-- ---- The whole

pub written_length : (k : Case) → length (written k) ≤ length (printed k)
unfolding written printed lines_of tidied
written_length k =
    let before = header_line k.head ∷ initial_line k.initial ∷ map action_line k.actions in
    let after = cues_line k.plan ∷ map node_line k.nodes in
    let ms = flatten (map method_lines k.methods) in
    let ns = flatten (map method_lines (map tidied_method k.methods)) in
    let h = methods_size k.methods in
    omega (arith, size_append before (ms ++ after), size_append before (ns ++ after), size_append ms after, size_append ns after)
