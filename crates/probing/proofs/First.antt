-- What `first` says in plain words: an entry is found exactly if it has the key and no earlier one has; none exactly if none has it. Assumes
-- nothing.
use mathlib.Core.Path.{◌≡◌, refl, sym, ap, ◌∙◌}
use mathlib.Core.Bool.{Bool, true, false}
use mathlib.Core.Logic.{◌⊎◌, inl, inr, ⊎_elim}
use Prim.Native.Nat.{ℕ, zero, suc, ◌≤◌, ◌<◌}
use native.Mathlib.Nat.{eq-or-lt_of_le}
use native.Mathlib.Omega.{arith}
use borrow.Author.Tests.{ltb-true, ltb-false}
use lib.Dec.{ltb}
use Rattle.std.specs.Prelude.{Option, None, Some}
use Rattle.probing.specs.Probing.{earlier, first}

pub below : (a b : ℕ) → (a < b) ⊎ (b ≤ a)
below a b = go (ltb a b) refl
  where
    go : (t : Bool) → ltb a b ≡ t → (a < b) ⊎ (b ≤ a)
    go true e = inl (ltb-true a b e)
    go false e = inr (ltb-false a b e)

pub nothing_not_at : {A : Type 0} (e : ℕ) → None ≡ Some e → A
nothing_not_at e h = let z : ◌≡◌ {A = ℕ} 0 1 = cc in absurd (omega arith)

-- Where none is found, none has the key.
pub first_none : (t : ℕ → Bool) (n : ℕ) → first t n ≡ None → (e : ℕ) → e < n → t e ≡ false
first_none t zero p e h = absurd (omega arith)
first_none t (suc n) p e h = go (λ q. first_none t n q e) (first t n) refl (t n) refl p
  where
    go : (first t n ≡ None → e < n → t e ≡ false) → (r : Option ℕ) → first t n ≡ r → (b : Bool) → t n ≡ b → earlier r b n ≡ None → t e ≡ false
    go on (Some x) q b s w = nothing_not_at x (sym w)
    go on None q true s w = nothing_not_at n (sym w)
    go on None q false s w = ⊎_elim (on q) (λ k. let same : e ≡ n = omega arith in ap t same ∙ s) (below e n)

-- And the other way round.
pub none_first : (t : ℕ → Bool) (n : ℕ) → ((e : ℕ) → e < n → t e ≡ false) → first t n ≡ None
none_first t zero z = refl
none_first t (suc n) z =
    ap (λ (y : Option ℕ). earlier y (t n) n) (none_first t n (λ e h. z e (omega arith))) ∙ ap (λ (y : Bool). earlier None y n) (z n (omega arith))

-- An entry that is found has the key, and no earlier one has it.
pub first_at : (t : ℕ → Bool) (n e : ℕ) → first t n ≡ Some e → (e < n) × (t e ≡ true) × ((d : ℕ) → d < e → t d ≡ false)
first_at t zero e p = nothing_not_at e p
first_at t (suc n) e p = go (first_at t n e) (first t n) refl (t n) refl p
  where
    go : (first t n ≡ Some e → (e < n) × (t e ≡ true) × ((d : ℕ) → d < e → t d ≡ false)) → (r : Option ℕ) → first t n ≡ r → (b : Bool) → t n ≡ b
        → earlier r b n ≡ Some e → (e < suc n) × (t e ≡ true) × ((d : ℕ) → d < e → t d ≡ false)
    go on (Some x) q b s w = let h = on (q ∙ w) in let less : e < n = h.0 in (omega arith, h.1, h.2)
    go on None q true s w =
        let same : n ≡ e = cc in
        (omega arith, ap t (sym same) ∙ s, λ d k. first_none t n q d (omega arith))
    go on None q false s w = nothing_not_at e w

-- What is found among the first m is found among more.
pub first_stays : (t : ℕ → Bool) (m n e : ℕ) → first t m ≡ Some e → m ≤ n → first t n ≡ Some e
first_stays t m zero e p h = let s : 0 ≡ m = omega arith in ap (first t) s ∙ p
first_stays t m (suc n) e p h =
    ⊎_elim (λ s. ap (first t) (sym s) ∙ p) (λ l. ap (λ (y : Option ℕ). earlier y (t n) n) (first_stays t m n e p (omega arith))) (eq-or-lt_of_le h)

-- An entry that has the key, and no earlier one has it, is found.
pub at_first : (t : ℕ → Bool) (n e : ℕ) → e < n → t e ≡ true → ((d : ℕ) → d < e → t d ≡ false) → first t n ≡ Some e
at_first t n e h b none =
    first_stays t (suc e) n e (ap (λ (y : Option ℕ). earlier y (t e) e) (none_first t e none) ∙ ap (λ (y : Bool). earlier None y e) b) (omega arith)

-- Only the first n entries count.
pub first_agree : (t u : ℕ → Bool) (n : ℕ) → ((e : ℕ) → e < n → t e ≡ u e) → first t n ≡ first u n
first_agree t u zero a = refl
first_agree t u (suc n) a =
    ap (λ (y : Option ℕ). earlier y (t n) n) (first_agree t u n (λ e h. a e (omega arith))) ∙ ap (λ (b : Bool). earlier (first u n) b n) (a n (omega arith))
