-- Two lists of bytes compared, and the hash of one, byte by byte. Assumes nothing.
use mathlib.Core.Path.{◌≡◌, refl, ap, ap₂, ◌∙◌}
use mathlib.Core.Bool.{Bool, true, false, ◌&&◌}
use mathlib.Core.List.{List, [], ◌∷◌}
use Prim.Native.Nat.{ℕ, suc, ◌+◌, ◌≤◌, ◌<◌}
use native.Mathlib.Numerals.{add-one}
use native.Mathlib.Omega.{arith}
use borrow.Author.Tests.{eq-eqb, ne_eqb}
use lib.Dec.{eqb}
use lib.ListN.{length, get_or, drop, drop_of_length-le}
use lib.Seq.{drop-cons}
use Rattle.rules.specs.Tokens.{same_bytes}
use Rattle.names.specs.Names.{mix, hash_from}

-- ---- What `same_bytes` says

and_left : (a b : Bool) → (a && b) ≡ true → a ≡ true
and_left true b e = refl
and_left false b e = e

and_right : (a b : Bool) → (a && b) ≡ true → b ≡ true
and_right true b e = e
and_right false b e = let z : ◌≡◌ {A = ℕ} 0 1 = cc in absurd (omega arith)

and-false : (a : Bool) → (a && false) ≡ false
and-false true = refl
and-false false = refl

-- ---- `same`

pub eq_lengths : (a b : List ℕ) → (length a ≡ length b → ⊥) → same_bytes a b ≡ false
eq_lengths [] [] h = absurd (h refl)
eq_lengths [] (y ∷ b) h = refl
eq_lengths (x ∷ a) [] h = refl
eq_lengths (x ∷ a) (y ∷ b) h = ap (λ (t : Bool). eqb x y && t) (eq_lengths a b (λ e. h (ap suc e))) ∙ and-false (eqb x y)

eq_next : (a b : List ℕ) (i : ℕ) → i < length a → i < length b
    → same_bytes (drop i a) (drop i b) ≡ (eqb (get_or a i 0) (get_or b i 0) && same_bytes (drop (i + 1) a) (drop (i + 1) b))
eq_next a b i h k = ap₂ same_bytes (drop-cons a i 0 h) (drop-cons b i 0 k) ∙ rw (add-one)

pub eq_on : (a b : List ℕ) (i : ℕ) → i < length a → i < length b → get_or a i 0 ≡ get_or b i 0
    → same_bytes (drop i a) (drop i b) ≡ same_bytes (drop (i + 1) a) (drop (i + 1) b)
eq_on a b i h k e = eq_next a b i h k ∙ ap (λ (t : Bool). t && same_bytes (drop (i + 1) a) (drop (i + 1) b)) (eq-eqb (get_or a i 0) (get_or b i 0) e)

pub eq_off : (a b : List ℕ) (i : ℕ) → i < length a → i < length b → (get_or a i 0 ≡ get_or b i 0 → ⊥) → same_bytes (drop i a) (drop i b) ≡ false
eq_off a b i h k e = eq_next a b i h k ∙ ap (λ (t : Bool). t && same_bytes (drop (i + 1) a) (drop (i + 1) b)) (ne_eqb (get_or a i 0) (get_or b i 0) e)

pub eq_over : (a b : List ℕ) (i : ℕ) → length a ≤ i → length b ≤ i → same_bytes (drop i a) (drop i b) ≡ true
eq_over a b i h k = ap₂ same_bytes (drop_of_length-le a h) (drop_of_length-le b k)

-- ---- `hash`

pub hash_next : (l : List ℕ) (h i : ℕ) → i < length l → hash_from h (drop i l) ≡ hash_from (mix h (get_or l i 0)) (drop (i + 1) l)
hash_next l h i k = rw (add-one, drop-cons l i 0)

pub hash_over : (l : List ℕ) (h i : ℕ) → length l ≤ i → hash_from h (drop i l) ≡ h
hash_over l h i k = ap (hash_from h) (drop_of_length-le l k)
