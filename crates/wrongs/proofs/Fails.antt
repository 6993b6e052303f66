-- The test of a line, part by part: one part that fails is enough, and the last decides where the others pass. Assumes nothing.
use mathlib.Core.Path.{◌≡◌, sym, ap, ◌∙◌}
use mathlib.Core.Bool.{Bool, true, false, ◌&&◌, ◌||◌, or-true, and-false}
use mathlib.Core.List.{List}
use mathlib.Core.Logic.{◌⊎◌, ⊎_elim}
use Prim.Native.Nat.{ℕ, ◌+◌, ◌≤◌, ◌<◌}
use lib.Dec.{eqb, ltb}
use lib.ListN.{get_or}
use borrow.Author.Tests.{eq-eqb, ne_eqb, lt-ltb, le-ltb}
use Rattle.wrongs.specs.Wrongs.{fails}

either : (a b : Bool) → b ≡ true → (a || b) ≡ true
either a b p = ap (λ (x : Bool). a || x) p ∙ or-true a

head_true : (a b : Bool) → a ≡ true → (a || b) ≡ true
head_true a b p = ap (λ (x : Bool). x || b) p

head_false : (a b : Bool) → a ≡ false → (a || b) ≡ b
head_false a b p = ap (λ (x : Bool). x || b) p

module _ (twin used marks : List ℕ) (lost root e : ℕ) where
  abbrev parent : Bool
  parent = eqb root (e + 1) && ltb 0 (get_or used e 0)

  pub fails_twin : 0 < get_or twin e 0 → true ≡ fails twin used marks lost root e
  unfolding fails
  fails_twin h = sym (head_true (ltb 0 (get_or twin e 0)) _ (lt-ltb 0 (get_or twin e 0) h))

  pub fails_used : 1 < get_or used e 0 → true ≡ fails twin used marks lost root e
  unfolding fails
  fails_used h = sym (either (ltb 0 (get_or twin e 0)) _ (head_true (ltb 1 (get_or used e 0)) _ (lt-ltb 1 (get_or used e 0) h)))

  pub fails_parent : root ≡ e + 1 → 0 < get_or used e 0 → true ≡ fails twin used marks lost root e
  unfolding fails
  fails_parent s u =
      sym (either (ltb 0 (get_or twin e 0)) _ (either (ltb 1 (get_or used e 0)) _ (head_true parent _
      (ap (λ (b : Bool). b && ltb 0 (get_or used e 0)) (eq-eqb root (e + 1) s) ∙ lt-ltb 0 (get_or used e 0) u))))

  pub fails_marks : get_or marks e 0 ≡ 0 → eqb (get_or marks e 0) 0 ≡ fails twin used marks lost root e
  unfolding fails
  fails_marks z =
      eq-eqb (get_or marks e 0) 0 z
      ∙ sym (either (ltb 0 (get_or twin e 0)) _ (either (ltb 1 (get_or used e 0)) _ (either parent _
      (head_true (eqb (get_or marks e 0) 0) _ (eq-eqb (get_or marks e 0) 0 z)))))

  pub no_parent : (get_or used e 0 ≤ 0) ⊎ (root ≡ e + 1 → ⊥) → parent ≡ false
  no_parent o =
      ⊎_elim
      (λ u. ap (λ (b : Bool). eqb root (e + 1) && b) (le-ltb 0 (get_or used e 0) u) ∙ and-false (eqb root (e + 1)))
      (λ n. ap (λ (b : Bool). b && ltb 0 (get_or used e 0)) (ne_eqb root (e + 1) n))
      o

  pub fails_last : get_or twin e 0 ≤ 0 → get_or used e 0 ≤ 1 → parent ≡ false → (get_or marks e 0 ≡ 0 → ⊥)
      → eqb e lost ≡ fails twin used marks lost root e
  unfolding fails
  fails_last t u p m =
      sym (head_false (ltb 0 (get_or twin e 0)) _ (le-ltb 0 (get_or twin e 0) t)
      ∙ head_false (ltb 1 (get_or used e 0)) _ (le-ltb 1 (get_or used e 0) u)
      ∙ head_false parent _ p
      ∙ head_false (eqb (get_or marks e 0) 0) _ (ne_eqb (get_or marks e 0) 0 m))
