-- What a broken entry says of the other choices: those that agree at its positions break it too, and so they fail. A list of slots
-- without an entry says nothing. Assumes nothing.
use mathlib.Core.Path.{◌≡◌, refl, sym, ap, ap₂, ◌∙◌}
use mathlib.Core.Logic.{◌≢◌}
use mathlib.Core.Bool.{Bool, true, false, ◌||◌, true≢false}
use mathlib.Core.List.{List, [], ◌∷◌, Memᴰ}
use Prim.Native.Nat.{ℕ, zero, suc, ◌/◌, ◌%◌, ◌^◌, ◌<◌, min, max}
use borrow.Author.Tests.{eqb-true}
use lib.Dec.{eqb}
use lib.ListN.{get_or, replicate}
use Rattle.rules.specs.State.{bit}
use Rattle.rules.specs.Index.{Span, of_gap}
use Rattle.rules.specs.Constraint.{Holds, keeps}
use Rattle.rules.specs.Gaps.{Choice}
use Rattle.rules.proofs.Bits.{bit_or_lem}
use Rattle.subsets.specs.Members.{members_of}
use Rattle.subsets.proofs.Chosen.{chosen_has}
use Rattle.subsets.proofs.Members.{members_below}
use Rattle.blames.specs.declared.entry.Entry.{Entry}
use Rattle.blames.specs.Entries.{lowest, highest, edges, meant, entry_keeps, positions_of, EntryFits, no_entry, entry_at, PoolFits, PoolSound, BrokenEntry}
use Rattle.blames.proofs.Letters.{silent_keeps}

-- ---- choices that agree

abbrev AgreeAt : List ℕ → List ℕ → List ℕ → Type 0
AgreeAt ss ds gs = (s : ℕ) → Memᴰ s ss → get_or ds s 0 ≡ get_or gs s 0

lowest_agrees : (v : ℕ) (ss ds gs : List ℕ) → AgreeAt ss ds gs → lowest v ss ds ≡ lowest v ss gs
lowest_agrees v [] ds gs h = refl
lowest_agrees v (s ∷ ss) ds gs h =
    ap (λ (g : ℕ). lowest (min v (of_gap g)) ss ds) (h s (Memᴰ.head refl))
    ∙ lowest_agrees (min v (of_gap (get_or gs s 0))) ss ds gs (λ i m. h i (Memᴰ.tail m))

highest_agrees : (v : ℕ) (ss ds gs : List ℕ) → AgreeAt ss ds gs → highest v ss ds ≡ highest v ss gs
highest_agrees v [] ds gs h = refl
highest_agrees v (s ∷ ss) ds gs h =
    ap (λ (g : ℕ). highest (max v (of_gap g)) ss ds) (h s (Memᴰ.head refl))
    ∙ highest_agrees (max v (of_gap (get_or gs s 0))) ss ds gs (λ i m. h i (Memᴰ.tail m))

member_bit : (u s : ℕ) → Memᴰ s (members_of u) → bit u s ≡ true
unfolding members_of
member_bit u s m = (chosen_has (bit u) 32 0 s m).2

or-true : (b : Bool) → b || true ≡ true
or-true true = refl
or-true false = refl

module _ (k e : ℕ) (x : Entry) (ds gs : List ℕ) (t : EntryFits k e x)
    (agree : (s : ℕ) → s < e → bit (positions_of x) s ≡ true → get_or ds s 0 ≡ get_or gs s 0) where
  at_starts : AgreeAt (members_of x.starts) ds gs
  unfolding positions_of
  at_starts s m =
      agree s (members_below x.starts e s t.starts_below m)
      (bit_or_lem x.ends x.starts s ∙ ap (λ (b : Bool). bit x.ends s || b) (member_bit x.starts s m) ∙ or-true (bit x.ends s))

  at_ends : AgreeAt (members_of x.ends) ds gs
  unfolding positions_of
  at_ends s m =
      agree s (members_below x.ends e s t.ends_below m)
      (bit_or_lem x.ends x.starts s ∙ ap (λ (b : Bool). b || bit x.starts s) (member_bit x.ends s m))

  edges_agree : edges x ds ≡ edges x gs
  unfolding edges
  edges_agree =
      ap₂ (λ (a b : ℕ). record { start = a; end = b }) (lowest_agrees x.start (members_of x.starts) ds gs at_starts)
      (highest_agrees x.end (members_of x.ends) ds gs at_ends)

pub entry_agrees : (holds : Holds) (k e : ℕ) (x : Entry) (gs ds : List ℕ) → EntryFits k e x
    → ((s : ℕ) → s < e → bit (positions_of x) s ≡ true → get_or ds s 0 ≡ get_or gs s 0) → entry_keeps holds x ds ≡ entry_keeps holds x gs
unfolding entry_keeps
entry_agrees holds k e x gs ds t agree =
    ap (λ (s : Span). elim (eqb x.letter 0) [ true ↦ true | false ↦ keeps holds (λ part. s) (meant x) ]) (edges_agree k e x ds gs t agree)

-- ---- a broken entry's positions

digit_of : (w i : ℕ) → bit w i ≡ true → w / 2 ^ i % 2 ≡ 1
unfolding bit
digit_of w i b = eqb-true (w / 2 ^ i % 2) 1 b

-- An entry that is broken has a letter.
has_letter : (holds : Holds) (x : Entry) (gs : List ℕ) → entry_keeps holds x gs ≡ false → x.letter ≢ 0
has_letter holds x gs b e = true≢false (sym (silent_keeps holds x gs e) ∙ b)

pub broken_reason : (holds : Holds) (passing : List ℕ → Bool) (k e m : ℕ) (pool : List Entry) (gs : List ℕ) → PoolFits k e pool → PoolSound holds passing k e pool
    → BrokenEntry holds pool gs m → (ds : List ℕ) → Choice k e ds
    → ((s : ℕ) → s < e → m / 2 ^ s % 2 ≡ 1 → get_or ds s 0 ≡ get_or gs s 0) → passing ds ≡ false
broken_reason holds passing k e m pool gs fits sound b ds choice agree =
    let x = entry_at pool b.slot in
    let t = fits b.slot b.inside (has_letter holds x gs b.broken) in
    sound b.slot b.inside ds choice
    (entry_agrees holds k e x gs ds t
    (λ s l h. agree s l (digit_of m s (ap (λ (w : ℕ). bit w s) b.positions ∙ h)))
    ∙ b.broken)

-- ---- no entries

none_at : (n i : ℕ) → entry_at (replicate n no_entry) i ≡ no_entry
none_at zero i = refl
none_at (suc n) zero = refl
none_at (suc n) (suc i) = none_at n i

no_letter_lem : (n i : ℕ) → (entry_at (replicate n no_entry) i).letter ≡ 0
no_letter_lem n i = ap (λ (x : Entry). x.letter) (none_at n i)

pub pool_none_fits : (k e n : ℕ) → PoolFits k e (replicate n no_entry)
pool_none_fits k e n i inside l = absurd (l (no_letter_lem n i))

pub pool_none_sound : (holds : Holds) (passing : List ℕ → Bool) (k e n : ℕ) → PoolSound holds passing k e (replicate n no_entry)
pool_none_sound holds passing k e n i inside gs choice b = absurd (has_letter holds (entry_at (replicate n no_entry) i) gs b (no_letter_lem n i))
