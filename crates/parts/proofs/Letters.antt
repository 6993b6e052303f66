-- A constraint's letter picks its test; each test is the definition's, at the spans of the parts. Assumes nothing.
use mathlib.Core.Path.{◌≡◌, refl, sym, ap, ap₂, ◌∙◌}
use mathlib.Core.Bool.{Bool, true, false, cond, ◌||◌}
use mathlib.Core.List.{List, [], ◌∷◌, ◌++◌}
use Prim.Native.Nat.{ℕ, zero, suc, ◌+◌, ◌-◌, ◌*◌, ◌/◌, ◌%◌, ◌≤◌, ◌<◌}
use native.Mathlib.Decide.{ℕ_discrete}
use native.Mathlib.Nat.{zero-add}
use native.Mathlib.Omega.{arith}
use borrow.Author.Tests.{eq-eqb, ne_eqb}
use lib.Dec.{eqb}
use lib.Bits.{bit_and, and_mask, and_block}
use lib.ListN.{length, get_or, length-map, get_or-map}
use Rattle.rules.specs.Index.{Span, Part, part_of, only, pick, hull, span_of_part, c, f, is_before}
use Rattle.rules.specs.declared.Sign.{Sign}
use Rattle.rules.specs.Case.{Constraint, O, B, F, W, sign_of, is_either, constraint_of}
use Rattle.rules.specs.Constraint.{holds_from, keeps}
use Rattle.rules.proofs.Spans.{hull_one}
use Rattle.tree.specs.Layout.{subtasks_past}
use Rattle.rows.specs.Rows.{in_row}
use Rattle.parts.specs.Spans.{row_span, nodes_in, subtask_span, spans_in, SubtaskInside}
use Rattle.parts.proofs.Parts.{length_nodes}

-- ---- the letter

-- A byte without its bit of 32.
and_223 : (l : ℕ) → l < 256 → bit_and l 223 + l / 32 % 2 * 32 ≡ l
and_223 l h =
    let whole : l / 64 * 64 + l % 64 ≡ l = omega arith in
    let parts : bit_and l 223 ≡ l / 64 % 4 * 64 + l % 64 % 32 =
    ap (λ (x : ℕ). bit_and x 223) (sym whole) ∙ and_block 6 (l / 64) 3 (l % 64) 31 (omega arith) (omega arith)
    ∙ ap₂ (λ (x y : ℕ). x * 64 + y) (and_mask (l / 64) 2) (and_mask (l % 64) 5) in
    let high : l / 64 % 4 ≡ l / 64 = omega arith in
    let low : l / 32 ≡ l / 64 * 2 + l % 64 / 32 = omega arith in
    let one : l / 32 % 2 ≡ l % 64 / 32 = omega arith in
    omega arith

-- Without that bit a letter is the large one exactly if it is that or the small one.
pub either_large : (l large : ℕ) → l < 256 → large / 32 % 2 ≡ 0 → eqb (bit_and l 223) large ≡ is_either l large (large + 32)
either_large l large h b = go (ℕ_discrete l large) (ℕ_discrete l (large + 32))
  where
    go : Dec (l ≡ large) → Dec (l ≡ large + 32) → eqb (bit_and l 223) large ≡ is_either l large (large + 32)
    go (yes e) d = eq-eqb (bit_and l 223) large (omega (arith, and_223 l h)) ∙ sym (ap (λ (x : Bool). x || eqb l (large + 32)) (eq-eqb l large e))
    go (no n) (yes e) =
        eq-eqb (bit_and l 223) large (omega (arith, and_223 l h)) ∙ sym (ap₂ (λ (x y : Bool). x || y) (ne_eqb l large n) (eq-eqb l (large + 32) e))
    go (no n) (no m) =
        ne_eqb (bit_and l 223) large (λ e. m (omega (arith, and_223 l h, n)))
        ∙ sym (ap₂ (λ (x y : Bool). x || y) (ne_eqb l large n) (ne_eqb l (large + 32) m))

abbrev by_B : ℕ → ℕ → ℕ → Bool → Constraint
by_B l x y b = elim b [ true ↦ B (sign_of l) x y | false ↦ O x y ]

abbrev by_F : ℕ → ℕ → ℕ → Bool → Constraint
by_F l x y b = elim b [ true ↦ F (sign_of l) x y | false ↦ by_B l x y (is_either l 66 98) ]

abbrev by_W : ℕ → ℕ → ℕ → ℕ → Bool → Constraint
by_W l x y z b = elim b [ true ↦ W (sign_of l) x y z | false ↦ by_F l x y (is_either l 70 102) ]

module _ (l x y z : ℕ) where
  pub numbered_W : is_either l 87 119 ≡ true → constraint_of l x y z ≡ W (sign_of l) x y z
  unfolding constraint_of
  numbered_W w = ap (by_W l x y z) w

  pub numbered_F : is_either l 87 119 ≡ false → is_either l 70 102 ≡ true → constraint_of l x y z ≡ F (sign_of l) x y
  unfolding constraint_of
  numbered_F w f = ap (by_W l x y z) w ∙ ap (by_F l x y) f

  pub numbered_B : is_either l 87 119 ≡ false → is_either l 70 102 ≡ false → is_either l 66 98 ≡ true → constraint_of l x y z ≡ B (sign_of l) x y
  unfolding constraint_of
  numbered_B w f b = ap (by_W l x y z) w ∙ ap (by_F l x y) f ∙ ap (by_B l x y) b

  pub numbered_O : is_either l 87 119 ≡ false → is_either l 70 102 ≡ false → is_either l 66 98 ≡ false → constraint_of l x y z ≡ O x y
  unfolding constraint_of
  numbered_O w f b = ap (by_W l x y z) w ∙ ap (by_F l x y) f ∙ ap (by_B l x y) b

-- ---- one subtask

pub pick_none : (in? : ℕ → Bool) (j : ℕ) (l : List Span) → ((k : ℕ) → j ≤ k → in? k ≡ false) → pick in? j l ≡ []
unfolding pick
pick_none in? j [] h = refl
pick_none in? j (s ∷ l) h =
    ap₂ (λ (b : Bool) (r : List Span). cond b (s ∷ []) [] ++ r) (h j (omega arith)) (pick_none in? (suc j) l (λ k b. h k (omega arith)))

pick_only : (i j : ℕ) (l : List Span) (d : Span) → i < length l → pick (eqb (j + i)) j l ≡ get_or l i d ∷ []
unfolding pick
pick_only i j [] d h = absurd (omega arith)
pick_only zero j (s ∷ l) d h =
    ap₂ (λ (b : Bool) (r : List Span). cond b (s ∷ []) [] ++ r) (eq-eqb (j + 0) j (omega arith))
    (pick_none (eqb (j + 0)) (suc j) l (λ k b. ne_eqb (j + 0) k (λ e. omega arith)))
pick_only (suc i) j (s ∷ l) d h =
    let same : j + suc i ≡ suc j + i = omega arith in
    ap₂ (λ (b : Bool) (r : List Span). cond b (s ∷ []) [] ++ r) (ne_eqb (j + suc i) j (λ e. omega arith))
    (ap (λ (n : ℕ). pick (eqb n) (suc j) l) same ∙ pick_only i (suc j) l d (omega arith))

pub only_span : (own : Span) (subs : List Span) (i : ℕ) (d : Span) → i < length subs → span_of_part own subs (only i) ≡ get_or subs i d
unfolding span_of_part only
only_span own subs i d h =
    ap (λ (n : ℕ). hull (pick (eqb n) 0 subs)) (sym (zero-add i)) ∙ ap hull (pick_only i 0 subs d h) ∙ hull_one (get_or subs i d)

pub subtask_part : (work : List ℕ) (own : Span) (j : ℕ) → subtasks_past ≤ length work → SubtaskInside work j
    → subtask_span work j ≡ span_of_part own (spans_in work) (only j)
unfolding spans_in subtask_span
subtask_part work own j room t =
    let small = t.few in
    sym (only_span own (spans_in work) j (row_span work 0)
    (let e = length-map (nodes_in work) (row_span work) in let g = length_nodes work room in omega arith)
    ∙ get_or-map (row_span work) (nodes_in work) j 0)

-- ---- the test of each kind

module _ (work words : List ℕ) (own : Span) where
  abbrev at : Part → Span
  at part = span_of_part own (spans_in work) part

  pub keeps_order : {d : Constraint} (i j : ℕ) {r : Bool} {s t : Span} → subtasks_past ≤ length work → d ≡ O i j
      → SubtaskInside work i × SubtaskInside work j → s ≡ subtask_span work i → t ≡ subtask_span work j → r ≡ is_before s t
      → r ≡ keeps (in_row words) at d
  unfolding keeps
  keeps_order i j room e v p q b =
      b ∙ ap₂ is_before (p ∙ subtask_part work own i room v.0) (q ∙ subtask_part work own j room v.1) ∙ ap (keeps (in_row words) at) (sym e)

  -- A condition, whose sign is as the code has it.
  module _ {d : Constraint} {g h : Sign} (same : g ≡ h) {r : Bool} {s : Span} where
    pub keeps_before : (p u : ℕ) → d ≡ B h p u → s ≡ at (part_of u) → r ≡ in_row words g p (c s - 1) → r ≡ keeps (in_row words) at d
    unfolding keeps
    keeps_before p u e q b = b ∙ ap₂ (λ (z : Sign) (x : Span). in_row words z p (c x - 1)) same q ∙ ap (keeps (in_row words) at) (sym e)

    pub keeps_after : (p u : ℕ) → d ≡ F h p u → s ≡ at (part_of u) → r ≡ in_row words g p (f s) → r ≡ keeps (in_row words) at d
    unfolding keeps
    keeps_after p u e q b = b ∙ ap₂ (λ (z : Sign) (x : Span). in_row words z p (f x)) same q ∙ ap (keeps (in_row words) at) (sym e)

    pub keeps_between : (u p v : ℕ) {t : Span} → d ≡ W h u p v → s ≡ at (part_of u) → t ≡ at (part_of v)
        → r ≡ holds_from (in_row words) g p (f s) (c t) → r ≡ keeps (in_row words) at d
    unfolding keeps
    keeps_between u p v {t} e q o b =
        b ∙ ap (λ (z : Sign). holds_from (in_row words) z p (f s) (c t)) same
        ∙ ap₂ (λ (x y : Span). holds_from (in_row words) h p (f x) (c y)) q o ∙ ap (keeps (in_row words) at) (sym e)
