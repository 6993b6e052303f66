-- `skip`: what `learn` blames is passed over, and fewer choices are left. Assumes nothing.
use mathlib.Core.Path.{◌≡◌, refl, subst}
use mathlib.Core.Bool.{Bool, false}
use mathlib.Core.List.{List}
use Prim.Native.Nat.{ℕ, zero, suc, ◌≤◌, ◌<◌}
use native.Mathlib.Omega.{arith}
use lib.ListN.{length}
use Rattle.std.specs.Prelude.{Some}
use Rattle.rules.specs.Gaps.{Within}
use Rattle.choices.specs.Searching.{next, over, next_of, on_from, AllFail}
use Rattle.choices.specs.Reasons.{Reason, Known, Learns}
use Rattle.choices.proofs.Order.{Sized, sized, Kept, kept}
use Rattle.choices.proofs.Skipping.{shorter, next_skips, over_fails}
use Rattle.seeking.specs.Seeking.{GoesOn, Nearer}

-- No more gaps are blamed than there are: so `learn` promises of a condition that nothing meets.
pub blame_inside : (k m b : ℕ) (c why after : List ℕ) → Learns k m c why b after → b ≤ length c
blame_inside k m b c why after l = (l (λ d. false) (λ d h a. refl) (λ s i d h a x. refl)).0.0

-- There is a next choice only where a gap is to blame, and then fewer choices are left.
pub nearer_any : (k b : ℕ) (c d : List ℕ) → next_of k b c ≡ next d
    → (1 ≤ b) × (length (on_from k d) < length (on_from k c)) × (length d ≡ length c) × (Within k c → Within k d)
nearer_any k zero c d e = let z : ◌≡◌ {A = ℕ} 0 1 = cc in absurd (omega arith)
nearer_any k (suc b) c d e = (
  omega arith,
  shorter k (suc b) c d e,
  subst (Sized (length c)) e (sized k (suc b) c),
  λ w. subst (Kept k) e (kept k (suc b) c w),
)

-- The same of no more gaps than there are, as `skip` says it.
pub nearer : (k b : ℕ) (c d : List ℕ) → b ≤ length c → next_of k b c ≡ next d → Nearer k c (Some b) d
nearer k zero c d inside e = let z : ◌≡◌ {A = ℕ} 0 1 = cc in absurd (omega arith)
nearer k (suc b) c d inside e = (
  omega arith,
  inside,
  shorter k (suc b) c d e,
  subst (Sized (length c)) e (sized k (suc b) c),
  λ w. subst (Kept k) e (kept k (suc b) c w),
)

module _ (passing : List ℕ → Bool) (k : ℕ) (c : List ℕ) where
  pub goes : (m b : ℕ) (why after d : List ℕ) → Learns k m c why b after → next_of k b c ≡ next d → Within k c
      → Reason passing k (length c) m c → Known passing k why c → GoesOn passing k c d after
  goes m b why after d l e w r known =
      let x = l passing r known in
      record { skips = next_skips passing k b c d w x.0 e; known = x.1 d e }

  pub none_left_lem : (m b : ℕ) (why after : List ℕ) → Learns k m c why b after → next_of k b c ≡ over → Within k c
      → Reason passing k (length c) m c → Known passing k why c → AllFail passing (on_from k c)
  none_left_lem m b why after l e w r known = over_fails passing k b c w (l passing r known).0 e
