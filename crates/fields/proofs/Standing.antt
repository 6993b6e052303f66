-- Numbers that stand in a list: the first, the others, a part of them, any one of them. Assumes nothing.
use mathlib.Core.Path.{◌≡◌, sym, ap, ◌∙◌}
use mathlib.Core.List.{List, [], ◌∷◌, ◌++◌, append_assoc}
use Prim.Native.Nat.{ℕ, suc, ◌+◌, ◌-◌, ◌<◌, ◌≤◌}
use native.Mathlib.Nat.{add-zero, suc-add, add-suc}
use native.Mathlib.Omega.{arith}
use lib.ListN.{length, get_or, take, drop, set, length-append, length-drop, get_or-append}
use lib.Seq.{sets, sets-eq, length-take-le, drop_at, get_or-drop, drop-drop, drop-append_seam}
use Rattle.fields.specs.Standing.{Stands}

pub stands_left : (fields : List ℕ) (at : ℕ) (xs ys : List ℕ) → Stands fields at (xs ++ ys) → Stands fields at xs
stands_left fields at xs ys s = record { rest = ys ++ s.rest; here = s.here ∙ append_assoc xs ys s.rest }

pub stands_right : (fields : List ℕ) (at : ℕ) (xs ys : List ℕ) → Stands fields at (xs ++ ys) → Stands fields (at + length xs) ys
stands_right fields at xs ys s = record {
  rest = s.rest;
  here = sym (drop-drop (length xs) at fields) ∙ ap (drop (length xs)) (s.here ∙ append_assoc xs ys s.rest) ∙ drop-append_seam xs (ys ++ s.rest);
}

-- All but the first.
pub stands_rest : (fields : List ℕ) (at x : ℕ) (xs : List ℕ) → Stands fields at (x ∷ xs) → Stands fields (at + 1) xs
stands_rest fields at x xs s = stands_right fields at (x ∷ []) xs s

-- They lie inside the list, if there are any.
pub stands_inside : (fields : List ℕ) (at : ℕ) (xs : List ℕ) → Stands fields at xs → 0 < length xs → at + length xs ≤ length fields
stands_inside fields at xs s some =
    let size : length fields - at ≡ length xs + length s.rest
    = sym (length-drop at fields) ∙ ap length s.here ∙ length-append xs s.rest in
    omega arith

pub stands_at : (fields : List ℕ) (at : ℕ) (xs : List ℕ) (i : ℕ) → Stands fields at xs → i < length xs → get_or fields (at + i) 0 ≡ get_or xs i 0
stands_at fields at xs i s h =
    sym (get_or-drop at fields i 0) ∙ ap (λ (l : List ℕ). get_or l i 0) s.here ∙ get_or-append xs s.rest 0 i h

pub stands_first : (fields : List ℕ) (at x : ℕ) (xs : List ℕ) → Stands fields at (x ∷ xs) → get_or fields at 0 ≡ x
stands_first fields at x xs s =
    let here : at + 0 ≡ at = omega arith in
    ap (λ (i : ℕ). get_or fields i 0) (sym here) ∙ stands_at fields at (x ∷ xs) 0 s (omega arith)

-- Numbers stored in two parts, one after the other.
pub sets_append : (xs ys l : List ℕ) (i : ℕ) → sets l i (xs ++ ys) ≡ sets (sets l i xs) (i + length xs) ys
sets_append [] ys l i = rw add-zero
sets_append (x ∷ xs) ys l i = sets_append xs ys (set l i x) (suc i) ∙ rw (suc-add i (length xs), ← add-suc i (length xs))

-- What is stored stands there.
pub sets_stand : (l : List ℕ) (i : ℕ) (xs : List ℕ) → i + length xs ≤ length l → Stands (sets l i xs) i xs
sets_stand l i xs fits =
    let size : length (take i l) ≡ i = length-take-le i l (omega arith) in
    record { rest = drop (i + length xs) l; here = ap (drop i) (sets-eq xs l i fits ∙ append_assoc (take i l) xs (drop (i + length xs) l)) ∙ drop_at (take i l) (xs ++ drop (i + length xs) l) i size }

-- Stated of another list that is equal.
pub stands_as : (fields : List ℕ) (at : ℕ) (xs ys : List ℕ) → xs ≡ ys → Stands fields at xs → Stands fields at ys
stands_as fields at xs ys e s = record { rest = s.rest; here = s.here ∙ ap (λ (l : List ℕ). l ++ s.rest) e }
