-- The least and the greatest index of an entry by what is at most the one and at least the other, and where they lie. Assumes nothing.
use mathlib.Core.Path.{◌≡◌, refl, sym, subst}
use mathlib.Core.Bool.{true}
use mathlib.Core.Logic.{◌↔◌, ⊎_elim}
use mathlib.Core.List.Memᴰ
use mathlib.Core.List.{List, [], ◌∷◌, Memᴰ}
use Prim.Native.Nat.{ℕ, ◌+◌, ◌*◌, ◌^◌, ◌≤◌, ◌<◌, min, max}
use native.Mathlib.Nat.{le_refl}
use native.Mathlib.Omega.{arith}
use lib.ListN.{get_or}
use Rattle.rules.specs.State.{bit}
use Rattle.rules.specs.Index.{Span, of_gap}
use Rattle.rules.specs.Gaps.{Within}
use Rattle.subsets.specs.Members.{members_of}
use Rattle.subsets.proofs.Members.{members_are}
use Rattle.blames.specs.declared.entry.Entry.{Entry}
use Rattle.blames.specs.Entries.{lowest, highest, edges, EntryFits}
use Rattle.rules.proofs.Gaps.Texts.{gap_within}

-- ---- of a list of positions

pub lowest_iff : (v z : ℕ) (ss gs : List ℕ) → (z ≤ lowest v ss gs) ↔ ((z ≤ v) × ((s : ℕ) → Memᴰ s ss → z ≤ of_gap (get_or gs s 0)))
lowest_iff v z [] gs = (λ h. (h, λ s m. absurd (Memᴰ.not-nil m)), λ p. p.0)
lowest_iff v z (s ∷ ss) gs =
    let r = lowest_iff (min v (of_gap (get_or gs s 0))) z ss gs in (
      λ h. let p = r.0 h in (
        omega (arith, p.0),
        λ i m. ⊎_elim (λ e. subst (λ (n : ℕ). z ≤ of_gap (get_or gs n 0)) (sym e) (omega (arith, p.0))) (λ t. p.1 i t) (Memᴰ.cases_cons m),
      ),
      λ p. r.1 (omega (arith, p.0, p.1 s (Memᴰ.head refl)), λ i m. p.1 i (Memᴰ.tail m)),
    )

pub highest_iff : (v z : ℕ) (ss gs : List ℕ) → (highest v ss gs ≤ z) ↔ ((v ≤ z) × ((s : ℕ) → Memᴰ s ss → of_gap (get_or gs s 0) ≤ z))
highest_iff v z [] gs = (λ h. (h, λ s m. absurd (Memᴰ.not-nil m)), λ p. p.0)
highest_iff v z (s ∷ ss) gs =
    let r = highest_iff (max v (of_gap (get_or gs s 0))) z ss gs in (
      λ h. let p = r.0 h in (
        omega (arith, p.0),
        λ i m. ⊎_elim (λ e. subst (λ (n : ℕ). of_gap (get_or gs n 0) ≤ z) (sym e) (omega (arith, p.0))) (λ t. p.1 i t) (Memᴰ.cases_cons m),
      ),
      λ p. r.1 (omega (arith, p.0, p.1 s (Memᴰ.head refl)), λ i m. p.1 i (Memᴰ.tail m)),
    )

-- ---- of an entry

-- What is at most where the start part starts, and at least where the end part ends.
abbrev pub StartsBy : Entry → List ℕ → ℕ → Type 0
StartsBy x gs start = (z : ℕ) → (z ≤ start) ↔ ((z ≤ x.start) × ((i : ℕ) → bit x.starts i ≡ true → z ≤ of_gap (get_or gs i 0)))

abbrev pub EndsBy : Entry → List ℕ → ℕ → Type 0
EndsBy x gs end = (z : ℕ) → (end ≤ z) ↔ ((x.end ≤ z) × ((i : ℕ) → bit x.ends i ≡ true → of_gap (get_or gs i 0) ≤ z))

module _ (x : Entry) (gs : List ℕ) where
  pub starts_by : x.starts < 2 ^ 32 → StartsBy x gs (edges x gs).start
  unfolding edges
  starts_by h z =
      let r = lowest_iff x.start z (members_of x.starts) gs in (
        λ l. let p = r.0 l in (p.0, λ i b. p.1 i ((members_are x.starts i h).1 b)),
        λ p. r.1 (p.0, λ i m. p.1 i ((members_are x.starts i h).0 m)),
      )

  pub ends_by : x.ends < 2 ^ 32 → EndsBy x gs (edges x gs).end
  unfolding edges
  ends_by h z =
      let r = highest_iff x.end z (members_of x.ends) gs in (
        λ l. let p = r.0 l in (p.0, λ i b. p.1 i ((members_are x.ends i h).1 b)),
        λ p. r.1 (p.0, λ i m. p.1 i ((members_are x.ends i h).0 m)),
      )

  -- An index told in that way is the entry's.
  pub edges_start : (start : ℕ) → x.starts < 2 ^ 32 → StartsBy x gs start → (edges x gs).start ≡ start
  edges_start start h told =
      let e : ℕ = (edges x gs).start in
      let up : e ≤ start = (told e).1 ((starts_by h e).0 (le_refl e)) in
      let down : start ≤ e = (starts_by h start).1 ((told start).0 (le_refl start)) in
      omega arith

  pub edges_end : (end : ℕ) → x.ends < 2 ^ 32 → EndsBy x gs end → (edges x gs).end ≡ end
  edges_end end h told =
      let e : ℕ = (edges x gs).end in
      let up : e ≤ end = (ends_by h end).1 ((told end).0 (le_refl end)) in
      let down : end ≤ e = (told e).1 ((ends_by h e).0 (le_refl e)) in
      omega arith

-- Between the first gap and the last one.
pub record EdgesFit (k : ℕ) (s : Span) : Type 0 where
  pub start_least : 1 ≤ s.start
  pub start_most : s.start ≤ 2 * k + 1
  pub end_most : s.end ≤ 2 * k + 1

pub edges_fit : (k e : ℕ) (x : Entry) (gs : List ℕ) → Within k gs → EntryFits k e x → EdgesFit k (edges x gs)
unfolding edges of_gap
edges_fit k e x gs w t =
    let low : ℕ = lowest x.start (members_of x.starts) gs in
    let p = (lowest_iff x.start low (members_of x.starts) gs).0 (le_refl low) in
    let most = t.start_most in
    record {
      start_least = (lowest_iff x.start 1 (members_of x.starts) gs).1 (t.start_least, λ s m. omega arith);
      start_most = omega (arith, p.0);
      end_most = (highest_iff x.end (2 * k + 1) (members_of x.ends) gs).1 (t.end_most, λ s m. omega (arith, gap_within k gs s w));
    }
