-- The table of a list of names finds what the definition finds in the list. Assumes nothing.
use mathlib.Core.Path.{◌≡◌, refl, sym, ap, subst, ◌∙◌}
use mathlib.Core.Bool.{Bool, true, false}
use mathlib.Core.List.{List, [], ◌∷◌}
use mathlib.Core.Logic.{⊎_elim}
use mathlib.Core.Option.{some}
use mathlib.Core.Option as maybe
use Prim.Native.Nat.{ℕ, suc, ◌+◌, ◌≤◌, ◌<◌}
use native.Mathlib.Omega.{arith}
use lib.ListN.{length, get_or}
use Rattle.std.specs.Prelude.{Option}
use Rattle.rules.specs.Tokens.{same_bytes}
use Rattle.rules.specs.Naming.{listed_from, listed_at}
use Rattle.probing.specs.Probing.{first, Kept}
use Rattle.probing.proofs.First.{below, none_first, at_first}
use Rattle.names.specs.Names.{same_name, Placed, hash_name}
use Rattle.naming.specs.Listing.{Listed, as_found}

-- The first place with a name among the places from i on, where none before i has it.
first_listed : (t : ℕ → Bool) (name : List ℕ) (names : List (List ℕ)) (i : ℕ) → ((e : ℕ) → e < length names → t (i + e) ≡ same_bytes (get_or names e []) name)
    → ((d : ℕ) → d < i → t d ≡ false) → first t (i + length names) ≡ as_found (listed_from i names name)
first_listed t name [] i each none_before = none_first t (i + 0) (λ e h. none_before e (omega arith))
first_listed t name (x ∷ names) i each none_before = go (same_bytes x name) refl (λ z. first_listed t name names (suc i) later (past z))
  where
    here : t i ≡ same_bytes x name
    here = let z : i ≡ i + 0 = omega arith in ap t z ∙ each 0 (omega arith)

    later : (e : ℕ) → e < length names → t (suc i + e) ≡ same_bytes (get_or names e []) name
    later e h = let z : suc i + e ≡ i + suc e = omega arith in ap t z ∙ each (suc e) (omega arith)

    past : t i ≡ false → (d : ℕ) → d < suc i → t d ≡ false
    past z d h = ⊎_elim (none_before d) (λ l. let same : d ≡ i = omega arith in ap t same ∙ z) (below d i)

    go : (b : Bool) → same_bytes x name ≡ b → (t i ≡ false → first t (suc i + length names) ≡ as_found (listed_from (suc i) names name))
        → first t (i + suc (length names)) ≡ as_found (elim b as (λ y. maybe.Option ℕ) [ true ↦ some i | false ↦ listed_from (suc i) names name ])
    go true e rest = at_first t (i + suc (length names)) i (omega arith) (here ∙ e) none_before
    go false e rest = let z : i + suc (length names) ≡ suc i + length names = omega arith in ap (first t) z ∙ rest (here ∙ e)

module _ (text starts ends slots : List ℕ) (names : List (List ℕ)) (listed : Listed text starts ends slots names) where
  -- The first entry that has a name is the one that the definition finds.
  pub listed_first : (name : List ℕ) → first (same_name text starts ends name) (length names) ≡ as_found (listed_at names name)
  unfolding listed_at
  listed_first name =
      let z : length names ≡ 0 + length names = omega arith in
      ap (first (same_name text starts ends name)) z
      ∙ first_listed (same_name text starts ends name) name names 0 each (λ d h. absurd (omega arith))
    where
      each : (e : ℕ) → e < length names → same_name text starts ends name (0 + e) ≡ same_bytes (get_or names e []) name
      each e h = let z : 0 + e ≡ e = omega arith in ap (same_name text starts ends name) z ∙ ap (λ (l : List ℕ). same_bytes l name) (listed.each e h)

  module _ (count : ℕ) (all : count ≡ length names) where
    -- What `names::find` asks, for the name other[from..to].
    pub find_ready : (other : List ℕ) (from to : ℕ) → from ≤ to → to ≤ length other
        → (length slots ≡ 4096) × (count ≤ length starts) × Placed text starts ends × (from ≤ to) × (to ≤ length other)
        × Kept (same_name text starts ends) hash_name slots count
    find_ready other from to order inside = (
      listed.slots_length,
      omega (arith, listed.most, listed.starts_length),
      listed.placed,
      order,
      inside,
      subst (Kept (same_name text starts ends) hash_name slots) (sym all) listed.kept,
    )

    -- What it answers.
    pub find_listed : (name : List ℕ) (r : Option ℕ) → r ≡ first (same_name text starts ends name) count → r ≡ as_found (listed_at names name)
    find_listed name r e = e ∙ (ap (first (same_name text starts ends name)) all ∙ listed_first name)
