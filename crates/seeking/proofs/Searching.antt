-- `seek`: where its search has come to; one law for each turn and each way out. Assumes nothing.
use mathlib.Core.Path.{◌≡◌, refl, sym, subst, ◌∙◌}
use mathlib.Core.Bool.{Bool}
use mathlib.Core.List.{List}
use Prim.Native.Nat.{ℕ, ◌<◌}
use lib.ListN.{length}
use Rattle.std.specs.Prelude.{Option, Some, None}
use Rattle.rules.specs.Constraint.{Holds}
use Rattle.rules.specs.Gaps.{Within}
use Rattle.choices.specs.Searching.{on_from, AllFail}
use Rattle.choices.specs.Reasons.{Reason, Known}
use Rattle.choices.proofs.Skipping.{skips_self, skips_on, fails_on}
use Rattle.blames.specs.Entries.{PoolFits, PoolSound, BrokenEntry}
use Rattle.blames.specs.Tests.{Says}
use Rattle.blames.specs.declared.entry.Entry.{Entry}
use Rattle.blames.proofs.Reasons.{broken_reason}
use Rattle.seeking.specs.Seeking.{LongFails, LongSays, GoesOn, Skipped, Nearer}

module _ (holds : Holds) (k spare : ℕ) (pool : List Entry) where
  -- What is said of each condition that fails where an entry is broken and where there are too many digits.
  abbrev pub Whatever : ℕ → ((List ℕ → Bool) → Type 0) → Type 0
  Whatever e P = (passing : List ℕ → Bool) → PoolSound holds passing k e pool → LongFails passing k e spare → P passing

  -- The positions of a set are a reason, be it of an entry or of the length.
  abbrev pub Against : ℕ → List ℕ → Type 0
  Against set c = Whatever (length c) (λ passing. Reason passing k (length c) set c)

  pub entry_against : (r : Option ℕ) {x : ℕ} (set : ℕ) (c : List ℕ) → r ≡ Some x → set ≡ x → PoolFits k (length c) pool → Says holds pool c r
      → Against set c
  entry_against r set c e f fits says passing sound long =
      let b : BrokenEntry holds pool c set = rw f (subst (Says holds pool c) e says) in
      broken_reason holds passing k (length c) set pool c fits sound b

  pub length_against : (r : Option ℕ) {x : ℕ} (set : ℕ) (c : List ℕ) → r ≡ Some x → set ≡ x → LongSays k spare c r → Against set c
  length_against r set c e f says passing sound long =
      rw f (subst (LongSays k spare c) e says passing long)

  -- From c₀ with the reasons why₀ on to c with the reasons why.
  pub record Searched (c₀ why₀ c why : List ℕ) : Type 0 where
    pub same_length : length c ≡ length c₀
    pub lent : length why ≡ length why₀
    pub within : Within k c
    pub goes : Whatever (length c₀) (λ passing. Known passing k why₀ c₀ → GoesOn passing k c₀ c why)

  pub opened : (c why : List ℕ) → Within k c → Searched c why c why
  opened c why w = record {
    same_length = refl;
    lent = refl;
    within = w;
    goes = λ passing s l known. record { skips = skips_self passing k c w; known = known };
  }

  module _ (c₀ why₀ c why : List ℕ) (x : Searched c₀ why₀ c why) (set : ℕ) (against : Against set c) where
    -- What `skip` promises of this choice.
    abbrev pub Promised : Option ℕ → List ℕ → List ℕ → Type 0
    Promised r d after =
        (passing : List ℕ → Bool) → Within k c → Reason passing k (length c) set c → Known passing k why c → Skipped passing k c r d after

    -- So of each condition.
    kept : (r : Option ℕ) (d after : List ℕ) → Promised r d after
        → Whatever (length c₀) (λ passing. Known passing k why₀ c₀ → GoesOn passing k c₀ c why × Skipped passing k c r d after)
    kept r d after p passing s l known =
        let g = x.goes passing s l known in
        let e = sym x.same_length in
        let y = against passing (subst (λ (n : ℕ). PoolSound holds passing k n pool) e s) (subst (λ (n : ℕ). LongFails passing k n spare) e l) in
        (g, p passing x.within y g.known)

    pub ended : (r : Option ℕ) (d after : List ℕ) → ((b : ℕ) → r ≡ Some b → ⊥) → Promised r d after
        → Whatever (length c₀) (λ passing. Known passing k why₀ c₀ → AllFail passing (on_from k c₀))
    ended None d after n p passing s l known = let y = kept None d after p passing s l known in fails_on passing k c₀ c y.0.skips y.1
    ended (Some b) d after n p passing s l known = absurd (n b refl)

    pub fewer : (r : Option ℕ) (d : List ℕ) → (r ≡ None → ⊥) → Nearer k c r d → length (on_from k d) < length (on_from k c)
    fewer None d n y = absurd (n refl)
    fewer (Some b) d n y = y.2

    pub moved : (r : Option ℕ) {b : ℕ} (d after : List ℕ) → r ≡ Some b → Nearer k c r d → length after ≡ length why → Promised r d after
        → Searched c₀ why₀ d after
    moved None d after e n h p = cc
    moved (Some b) d after e n h p = record {
      same_length = n.3 ∙ x.same_length;
      lent = h ∙ x.lent;
      within = n.4 x.within;
      goes = λ passing s l known.
          let z = kept (Some b) d after p passing s l known in
          record { skips = skips_on passing k c₀ c d z.0.skips z.1.skips; known = z.1.known };
    }
