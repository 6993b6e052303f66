-- What the table asks of names as keys; that places which are not in it yet may change; and that a place of the text may be stored at any
-- index. Assumes nothing.
use mathlib.Core.Path.{◌≡◌, refl, sym, ap, ap₂, ◌∙◌}
use mathlib.Core.Bool.{Bool, true, false}
use mathlib.Core.List.{List}
use mathlib.Core.Logic.{◌⊎◌, inl, inr, ⊎_elim}
use Prim.Native.Nat.{ℕ, ◌-◌, ◌≤◌, ◌<◌}
use native.Mathlib.Omega.{arith}
use borrow.Author.Tests.{eqb-true, eqb-false}
use lib.Dec.{eqb}
use lib.ListN.{length, get_or, take, drop, set, length-set}
use lib.Seq.{get_or-set_same, get_or-set_other}
use Rattle.rules.specs.Tokens.{same_bytes}
use Rattle.rules.proofs.Import.Says.{same_bytes_lem}
use Rattle.probing.specs.declared.Walk.{Walk}
use Rattle.probing.specs.Probing.{walk, Kept}
use Rattle.probing.proofs.Tables.{Puts, puts, kept_agree}
use Rattle.names.specs.Names.{name_at, same_name, Placed, hash_from, cut, hash_name}

pub cut_small : (h : ℕ) → cut h < 4096
unfolding cut
cut_small h = omega arith

-- The entry n has its own name and no other.
pub name_puts : (text starts ends slots : List ℕ) (n : ℕ) → length slots ≡ 4096 → Kept (same_name text starts ends) hash_name slots n
    → (end : Walk) → end ≡ walk (same_name text starts ends (name_at text starts ends n)) slots (hash_name (name_at text starts ends n))
    → Puts (same_name text starts ends) hash_name slots n (name_at text starts ends n) end
name_puts text starts ends slots n size kept =
    let k = name_at text starts ends n in
    puts (same_name text starts ends) hash_name slots n k kept (λ j e. sym ((same_bytes_lem k j).0 e)) ((same_bytes_lem k k).1 refl) (omega (arith, cut_small (hash_from 0 k)))

-- ---- Entries from n on may change

-- The table stays right for other lists that have the same first n places.
pub kept_same : (text starts ends starts' ends' slots : List ℕ) (n : ℕ) → ((e : ℕ) → e < n → get_or starts' e 0 ≡ get_or starts e 0)
    → ((e : ℕ) → e < n → get_or ends' e 0 ≡ get_or ends e 0) → Kept (same_name text starts ends) hash_name slots n → Kept (same_name text starts' ends') hash_name slots n
kept_same text starts ends starts' ends' slots n from to kept =
    kept_agree (same_name text starts ends) (same_name text starts' ends') hash_name slots n
    (λ k e h. ap₂ (λ (a b : ℕ). same_bytes (take (b - a) (drop a text)) k) (sym (from e h)) (sym (to e h))) kept

-- So it does when a place is stored that is not in the table yet.
pub kept_set : (text starts ends slots : List ℕ) (n i a b : ℕ) → n ≤ i → Kept (same_name text starts ends) hash_name slots n
    → Kept (same_name text (set starts i a) (set ends i b)) hash_name slots n
kept_set text starts ends slots n i a b h kept =
    kept_same text starts ends (set starts i a) (set ends i b) slots n
    (λ e k. get_or-set_other starts i e a 0 (λ s. omega arith)) (λ e k. get_or-set_other ends i e b 0 (λ s. omega arith)) kept

-- ---- Every entry is a place of the text

-- Where all numbers are 0.
pub zeros_placed : (text starts ends : List ℕ) → length ends ≡ length starts → ((e : ℕ) → get_or starts e 0 ≡ 0) → ((e : ℕ) → get_or ends e 0 ≡ 0) → Placed text starts ends
zeros_placed text starts ends e from to =
    record { pairs = e; order = λ i h. omega (arith, from i, to i); inside = λ i h. omega (arith, to i) }

-- After a place of the text is stored at i.
pub placed_set : (text starts ends : List ℕ) (i a b : ℕ) → a ≤ b → b ≤ length text → Placed text starts ends → Placed text (set starts i a) (set ends i b)
placed_set text starts ends i a b h k placed =
    record {
      pairs = length-set ends i b ∙ placed.pairs ∙ sym (length-set starts i a);
      order = λ e l. ⊎_elim (λ s. omega (arith, s.0, s.1)) (λ s. omega (arith, s.0, s.1, placed.order e (old e l))) (stored e (old e l));
      inside = λ e l. ⊎_elim (λ s. omega (arith, s.0, s.1)) (λ s. omega (arith, s.0, s.1, placed.inside e (old e l))) (stored e (old e l));
    }
  where
    old : (e : ℕ) → e < length (set starts i a) → e < length starts
    old e l = omega (arith, length-set starts i a)

    -- The entry e is the one stored, or as it was.
    stored : (e : ℕ) → e < length starts
        → ((get_or (set starts i a) e 0 ≡ a) × (get_or (set ends i b) e 0 ≡ b)) ⊎ ((get_or (set starts i a) e 0 ≡ get_or starts e 0) × (get_or (set ends i b) e 0 ≡ get_or ends e 0))
    stored e l = go (eqb i e) refl
      where
        go : (t : Bool) → eqb i e ≡ t
            → ((get_or (set starts i a) e 0 ≡ a) × (get_or (set ends i b) e 0 ≡ b)) ⊎ ((get_or (set starts i a) e 0 ≡ get_or starts e 0) × (get_or (set ends i b) e 0 ≡ get_or ends e 0))
        go true t =
            let same = eqb-true i e t in
            inl (ap (λ (j : ℕ). get_or (set starts j a) e 0) same ∙ get_or-set_same starts e a 0 l, ap (λ (j : ℕ). get_or (set ends j b) e 0) same ∙ get_or-set_same ends e b 0 (omega (arith, placed.pairs)))
        go false t = inr (get_or-set_other starts i e a 0 (λ s. eqb-false i e t (sym s)), get_or-set_other ends i e b 0 (λ s. eqb-false i e t (sym s)))
