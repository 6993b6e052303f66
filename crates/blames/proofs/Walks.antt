-- The least or the greatest index at the members of a set, found member by member, lowest first: what is sought is that of the index so far
-- and of the members that remain (Going). Assumes nothing.
use mathlib.Core.Path.{◌≡◌, refl, sym, ap, ap₂, subst, ◌∙◌}
use mathlib.Core.List.{List, [], ◌∷◌, head_d, tail, Memᴰ}
use Prim.Native.Nat.{ℕ, ◌^◌, ◌<◌}
use native.Mathlib.Omega.{arith}
use lib.ListN.{length, get_or}
use Rattle.rules.specs.Index.{of_gap}
use Rattle.subsets.specs.Members.{members_of}
use Rattle.subsets.proofs.Chosen.{head_tail}
use Rattle.subsets.proofs.Members.{members_below}

abbrev pub Walk : Type 0
Walk = ℕ → List ℕ → List ℕ → ℕ

pub record Going (walk : Walk) (v set : ℕ) (gs : List ℕ) (far rest : ℕ) : Type 0 where
  pub below : (s : ℕ) → Memᴰ s (members_of rest) → s < length gs
  pub same : walk far (members_of rest) gs ≡ walk v (members_of set) gs

pub going_starts : (walk : Walk) (v set : ℕ) (gs : List ℕ) → set < 2 ^ length gs → Going walk v set gs v set
going_starts walk v set gs h = record { below = λ s m. members_below set (length gs) s h m; same = refl }

no_length : (l : List ℕ) → length l ≡ 0 → l ≡ []
no_length [] e = refl
no_length (x ∷ l) e = absurd (omega arith)

module _ {walk : Walk} {v set : ℕ} {gs : List ℕ} {far rest : ℕ} (p : Going walk v set gs far rest) where
  -- A step of the walk, by the rule that takes the lesser or the greater of two indexes.
  module _ (some : 0 < length (members_of rest)) where
    first_rest : members_of rest ≡ head_d (members_of rest) 32 ∷ tail (members_of rest)
    first_rest = head_tail (members_of rest) 32 (λ e. omega (arith, ap length e))

    pub next_below : head_d (members_of rest) 32 < length gs
    next_below =
        p.below (head_d (members_of rest) 32)
        (subst (λ (l : List ℕ). Memᴰ (head_d (members_of rest) 32) l) (sym first_rest) (Memᴰ.head refl))

    pub fewer : (rest' : ℕ) → members_of rest' ≡ tail (members_of rest) → length (members_of rest') < length (members_of rest)
    fewer rest' r = omega (arith, ap length r, ap length first_rest)

    pub going_on : (rule : ℕ → ℕ → ℕ)
        → ((w s : ℕ) (ss : List ℕ) → walk w (s ∷ ss) gs ≡ walk (rule w (of_gap (get_or gs s 0))) ss gs)
        → (far' rest' : ℕ) → far' ≡ rule far (of_gap (get_or gs (head_d (members_of rest) 32) 0)) → members_of rest' ≡ tail (members_of rest)
        → Going walk v set gs far' rest'
    going_on rule step far' rest' e r =
        record {
          below = λ s m. p.below s (subst (λ (l : List ℕ). Memᴰ s l) (sym first_rest) (Memᴰ.tail (subst (λ (l : List ℕ). Memᴰ s l) r m)));
          same = ap₂ (λ (w : ℕ) (l : List ℕ). walk w l gs) e r ∙ sym (step far (head_d (members_of rest) 32) (tail (members_of rest)))
              ∙ ap (λ (l : List ℕ). walk far l gs) (sym first_rest) ∙ p.same;
        }

  pub going_ends : ((w : ℕ) → walk w [] gs ≡ w) → length (members_of rest) ≡ 0 → far ≡ walk v (members_of set) gs
  going_ends none e = sym (ap (λ (l : List ℕ). walk far l gs) (no_length (members_of rest) e) ∙ none far) ∙ p.same
