-- What the code's tests say of the definitions: a definition that goes by a test computes once the test's answer is known.
-- Assumes nothing.
use mathlib.Core.Path.{◌≡◌, sym, ap, ap₂, ◌∙◌}
use mathlib.Core.Bool.{Bool, true, false, ◌&&◌}
use Prim.Native.Nat.{ℕ}
use native.Mathlib.Decide.{ℕ_discrete}
use native.Mathlib.Omega.{arith}
use lib.Bits.{bit_and, bit_or, or_add_and, and_le_l, and_le_r}
use lib.Dec.{eqb}
use borrow.Author.Tests.{eq-eqb, ne_eqb}
use Rattle.rules.proofs.Tables.{and_both}
use Rattle.rules.specs.State.{State, Action, without, applies_word, applies, next, step}

-- Two words together are 0 exactly if each is.
pub or_none : (a b : ℕ) → eqb (bit_or a b) 0 ≡ eqb a 0 && eqb b 0
or_none a b = go (ℕ_discrete a 0) (ℕ_discrete b 0)
  where
    go : Dec (a ≡ 0) → Dec (b ≡ 0) → eqb (bit_or a b) 0 ≡ eqb a 0 && eqb b 0
    go (yes p) (yes q) = eq-eqb (bit_or a b) 0 (omega (arith, or_add_and a b)) ∙ sym (and_both (eq-eqb a 0 p) (eq-eqb b 0 q))
    go (yes p) (no q) =
        ne_eqb (bit_or a b) 0 (λ e. q (omega (arith, or_add_and a b, and_le_l a b)))
        ∙ sym (ap₂ (λ (x y : Bool). x && y) (eq-eqb a 0 p) (ne_eqb b 0 q))
    go (no p) d =
        ne_eqb (bit_or a b) 0 (λ e. p (omega (arith, or_add_and a b, and_le_r a b)))
        ∙ sym (ap (λ (x : Bool). x && eqb b 0) (ne_eqb a 0 p))

pub no_obstacle : (w needed forbidden : ℕ) {missing : ℕ} → missing ≡ without needed w → eqb (bit_or missing (bit_and forbidden w)) 0 ≡ applies_word w needed forbidden
unfolding applies_word
no_obstacle w needed forbidden {missing} e =
    or_none missing (bit_and forbidden w) ∙ ap (λ (n : ℕ). eqb n 0 && eqb (bit_and forbidden w) 0) e

abbrev answer : State → Action → Bool → Bool × State
answer s a b = elim b [ true ↦ (true, next s a) | false ↦ (false, s) ]

-- An action that applies gives the next state, another the state as it came.
pub step_yes : (s : State) (a : Action) (t : State) → applies s a ≡ true → t ≡ next s a → (true, t) ≡ step s a
unfolding step
step_yes s a t e q = ap (λ (u : State). (true, u)) q ∙ sym (ap (answer s a) e)

pub step_no : (s : State) (a : Action) → applies s a ≡ false → (false, s) ≡ step s a
unfolding step
step_no s a e = sym (ap (answer s a) e)
