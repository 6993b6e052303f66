-- Membership in lists, and tests that decide statements: each by cases on the list or on the test.
use mathlib.Core.Path.{◌≡◌, refl, sym, ap, subst}
use mathlib.Core.List.{List, [], ◌∷◌, ◌++◌}
use mathlib.Core.List.Memᴰ.{head as here}
use mathlib.Core.List.Memᴰ.{not-nil}
use mathlib.Core.List.Memᴰ.{tail as there}
use mathlib.Core.List.{Memᴰ as Mem}
use mathlib.Core.Bool.{Bool, true, false, cond, true≢false, false≢true}
use lib.Dec.{T, eqb, eqb→eq, eqb_refl}
use Prim.Native.Nat.{ℕ}

-- A member stands between two parts of the list.
pub mem_split : {A : Type 0} {x : A} (l : List A) → Mem x l → (before : List A) × (after : List A) × (l ≡ before ++ (x ∷ after))
mem_split [] h = absurd (not-nil h)
mem_split (y ∷ l) (here e) = ([], l, ap (λ z. z ∷ l) (sym e))
mem_split (y ∷ l) (there h) = let (k, m, e) = mem_split l h in (y ∷ k, m, ap (λ z. y ∷ z) e)

-- A list of one or none, by a test.
pub mem_cond : {A : Type 0} (b : Bool) {x y : A} → Mem y (cond b (x ∷ []) []) → (b ≡ true) × (y ≡ x)
mem_cond true (here e) = (refl, e)
mem_cond true (there h) = absurd (not-nil h)
mem_cond false h = absurd (not-nil h)

pub true_T : {b : Bool} → b ≡ true → T b
true_T e = subst T (sym e) tt

-- A test that decides a statement.
pub data Reflects (P : Type 0) : Bool → Type 0 where
  holds : P → Reflects P true
  fails : ¬ P → Reflects P false

pub reflects_sure : {P : Type 0} {b : Bool} → Reflects P b → b ≡ true → P
reflects_sure (holds p) e = p
reflects_sure (fails n) e = absurd (false≢true e)

pub sure_reflects : {P : Type 0} {b : Bool} → Reflects P b → P → b ≡ true
sure_reflects (holds p) q = refl
sure_reflects (fails n) q = absurd (n q)

pub never_reflects : {P : Type 0} {b : Bool} → Reflects P b → ¬ P → b ≡ false
never_reflects (holds p) n = absurd (n p)
never_reflects (fails m) n = refl

pub eqb_reflects : (i j : ℕ) → Reflects (i ≡ j) (eqb i j)
eqb_reflects i j = go (eqb i j) refl
  where
    go : (b : Bool) → eqb i j ≡ b → Reflects (i ≡ j) b
    go true e = holds (eqb→eq i j (subst T (sym e) tt))
    go false e = fails (λ p. subst T e (subst (λ (n : ℕ). T (eqb i n)) p (eqb_refl i)))

pub reflects_never : {P : Type 0} {b : Bool} → Reflects P b → b ≡ false → ¬ P
reflects_never (holds p) e = absurd (true≢false e)
reflects_never (fails n) e = n
