-- The order of constraints is strict and total: none precedes itself, what precedes what precedes a third precedes that, and where
-- neither of two precedes the other they are one. The first numbers that differ decide, and the numbers of a constraint, with its rank,
-- give it back. Assumes nothing.
use mathlib.Core.Path.{◌≡◌, refl, sym, ap, ap₂, ◌∙◌}
use mathlib.Core.Bool.{Bool, true, false, ◌&&◌, ◌||◌, false≢true}
use mathlib.Core.List.{List, [], ◌∷◌, map}
use mathlib.Core.Logic.{◌⊎◌, inl, inr, ⊎_elim}
use Prim.Native.Nat.{ℕ, ◌<◌}
use native.Mathlib.Decide.{dec_lt}
use native.Mathlib.Omega.{arith}
use lib.Dec.{eqb, ltb}
use lib.ListN.{length, get_or}
use borrow.Author.Tests.{ltb-true, lt-ltb, le-ltb, eqb-true, eq-eqb}
use Rattle.rules.specs.declared.Sign.TheVariants.{Positive, Negative}
use Rattle.rules.specs.Table.{number_of}
use Rattle.rules.specs.Case.{Constraint, O, B, F, W}
use Rattle.rules.specs.Fields.{constraint_line}
use Rattle.rules.specs.Writing.{rank, sort_key, is_less, precedes}
use Rattle.rules.proofs.Tables.{and_left, and_right, and_both}

-- ---- Lists of numbers

-- What decides: the first numbers differ; or they are equal, and the others decide.
decides : (x y : ℕ) (b : Bool) → (ltb x y || (eqb x y && b)) ≡ true → (x < y) ⊎ ((x ≡ y) × (b ≡ true))
decides x y b e = go (ltb x y) refl e
  where
    go : (t : Bool) → ltb x y ≡ t → (t || (eqb x y && b)) ≡ true → (x < y) ⊎ ((x ≡ y) × (b ≡ true))
    go true q e = inl (ltb-true x y q)
    go false q e = inr (eqb-true x y (and_left (eqb x y) b e), and_right (eqb x y) b e)

less_first : (x y : ℕ) (b : Bool) → x < y → (ltb x y || (eqb x y && b)) ≡ true
less_first x y b h = ap (λ (t : Bool). t || (eqb x y && b)) (lt-ltb x y h)

less_later : (x y : ℕ) (b : Bool) → x ≡ y → b ≡ true → (ltb x y || (eqb x y && b)) ≡ true
less_later x y b e q = ap₂ (λ (t u : Bool). t || u) (le-ltb x y (omega arith)) (and_both (eq-eqb x y e) q)

less_self : (xs : List ℕ) → is_less xs xs ≡ true → ⊥
less_self [] e = false≢true e
less_self (x ∷ xs) e = ⊎_elim (λ (h : x < x). omega arith) (λ (q, l). less_self xs l) (decides x x (is_less xs xs) e)

less_trans : (xs ys zs : List ℕ) → is_less xs ys ≡ true → is_less ys zs ≡ true → is_less xs zs ≡ true
less_trans [] ys zs e f = e
less_trans (x ∷ xs) [] zs e f = absurd (false≢true e)
less_trans (x ∷ xs) (y ∷ ys) [] e f = f
less_trans (x ∷ xs) (y ∷ ys) (z ∷ zs) e f = go (decides x y (is_less xs ys) e) (decides y z (is_less ys zs) f) (less_trans xs ys zs)
  where
    go : (x < y) ⊎ ((x ≡ y) × (is_less xs ys ≡ true)) → (y < z) ⊎ ((y ≡ z) × (is_less ys zs ≡ true))
        → (is_less xs ys ≡ true → is_less ys zs ≡ true → is_less xs zs ≡ true) → is_less (x ∷ xs) (z ∷ zs) ≡ true
    go (inl h) (inl i) rest = less_first x z (is_less xs zs) (omega arith)
    go (inl h) (inr (q, l)) rest = less_first x z (is_less xs zs) (omega arith)
    go (inr (q, l)) (inl h) rest = less_first x z (is_less xs zs) (omega arith)
    go (inr (p, l)) (inr (q, m)) rest = less_later x z (is_less xs zs) (p ∙ q) (rest l m)

-- Neither of two first numbers decides: they are equal.
undecided : (x y : ℕ) (b c : Bool) → (ltb x y || (eqb x y && b)) ≡ false → (ltb y x || (eqb y x && c)) ≡ false
    → (x ≡ y) × (b ≡ false) × (c ≡ false)
undecided x y b c e f = (same, later b (λ q. less_later x y b same q) e, later c (λ q. less_later y x c (sym same) q) f)
  where
    never : {t : Bool} → t ≡ true → t ≡ false → ⊥
    never p q = false≢true (sym q ∙ p)

    pick : Dec (x < y) → Dec (y < x) → x ≡ y
    pick (yes h) i = absurd (never (less_first x y b h) e)
    pick (no h) (yes i) = absurd (never (less_first y x c i) f)
    pick (no h) (no i) = omega arith

    same : x ≡ y
    same = pick (dec_lt x y) (dec_lt y x)

    later : {t : Bool} (d : Bool) → (d ≡ true → t ≡ true) → t ≡ false → d ≡ false
    later true h q = absurd (never (h refl) q)
    later false h q = refl

-- Of two lists of one length, neither less than the other.
less_neither : (xs ys : List ℕ) → length xs ≡ length ys → is_less xs ys ≡ false → is_less ys xs ≡ false → xs ≡ ys
less_neither [] [] n e f = refl
less_neither [] (y ∷ ys) n e f = absurd (omega arith)
less_neither (x ∷ xs) [] n e f = absurd (omega arith)
less_neither (x ∷ xs) (y ∷ ys) n e f =
    let (q, l, m) = undecided x y (is_less xs ys) (is_less ys xs) e f in
    let r = less_neither xs ys (omega arith) l m in
    λ j. q j ∷ r j

-- ---- Constraints

-- The constraint of a rank with these numbers.
unfoldable of_key : List ℕ → Constraint
of_key key =
    let a = get_or key 1 0 in
    let b = get_or key 2 0 in
    let c = get_or key 3 0 in
    get_or (O a b ∷ B Positive a b ∷ B Negative a b ∷ F Positive a b ∷ F Negative a b ∷ W Positive a b c ∷ W Negative a b c ∷ []) (get_or key 0 0) (O a b)

of_key_lem : (c : Constraint) → of_key (sort_key c) ≡ c
unfolding of_key sort_key rank constraint_line
of_key_lem (O i j) = refl
of_key_lem (B Positive p u) = refl
of_key_lem (B Negative p u) = refl
of_key_lem (F Positive p u) = refl
of_key_lem (F Negative p u) = refl
of_key_lem (W Positive u p v) = refl
of_key_lem (W Negative u p v) = refl

-- The rank says how many numbers there are.
abbrev length_of : ℕ → ℕ
length_of n = get_or (3 ∷ 3 ∷ 3 ∷ 3 ∷ 3 ∷ 4 ∷ 4 ∷ []) n 0

key_length : (c : Constraint) → length (sort_key c) ≡ length_of (rank c)
unfolding sort_key rank constraint_line
key_length (O i j) = refl
key_length (B Positive p u) = refl
key_length (B Negative p u) = refl
key_length (F Positive p u) = refl
key_length (F Negative p u) = refl
key_length (W Positive u p v) = refl
key_length (W Negative u p v) = refl

pub precedes_self : (c : Constraint) → precedes c c ≡ true → ⊥
unfolding precedes
precedes_self c e = less_self (sort_key c) e

pub precedes_trans : (c d e : Constraint) → precedes c d ≡ true → precedes d e ≡ true → precedes c e ≡ true
unfolding precedes
precedes_trans c d e p q = less_trans (sort_key c) (sort_key d) (sort_key e) p q

pub precedes_neither : (c d : Constraint) → precedes c d ≡ false → precedes d c ≡ false → c ≡ d
unfolding precedes sort_key
precedes_neither c d e f =
    let r = (undecided (rank c) (rank d) (is_less (fields c) (fields d)) (is_less (fields d) (fields c)) e f).0 in
    let n = key_length c ∙ ap length_of r ∙ sym (key_length d) in
    sym (of_key_lem c) ∙ ap of_key (less_neither (sort_key c) (sort_key d) n e f) ∙ of_key_lem d
  where
    fields : Constraint → List ℕ
    fields x = map number_of (constraint_line x).1
