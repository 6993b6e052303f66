-- A list of bytes, put into another from a place on, part by part. Assumes nothing.
use mathlib.Core.Path.{◌≡◌, refl, sym, ap, ◌∙◌}
use mathlib.Core.List.{List, [], ◌∷◌, ◌++◌, append_assoc, append-nil}
use Prim.Native.Nat.{ℕ, suc, ◌+◌, ◌-◌, ◌≤◌, ◌<◌}
use native.Mathlib.Omega.{arith}
use lib.ListN.{length, set, replicate, length-append, length-replicate, drop_of_length-le}
use lib.Seq.{sets, sets-eq, length-sets}
use Rattle.rules.specs.Verdict.{filled}
use Rattle.fields.proofs.Standing.{sets_append}

-- Of all that is due from place `to` on, what comes before `rest` is put, up to a place.
pub record Putting (all : List ℕ) (to : ℕ) (before rest : List ℕ) (past : ℕ) (now : List ℕ) : Type 0 where
  pub done : List ℕ
  pub is : now ≡ sets before to done
  pub place : past ≡ to + length done
  pub whole : done ++ rest ≡ all

pub putting_starts : (all : List ℕ) (to : ℕ) (before : List ℕ) → Putting all to before all to before
putting_starts all to before = record { done = []; is = refl; place = omega arith; whole = refl }

module _ (all : List ℕ) (to : ℕ) (before rest : List ℕ) (past : ℕ) (now : List ℕ) where
  pub putting_ends : Putting all to before rest past now → rest ≡ [] → (now ≡ sets before to all) × (past ≡ to + length all)
  putting_ends p e =
      let same : p.done ≡ all = sym (append-nil p.done) ∙ ap (λ (l : List ℕ). p.done ++ l) (sym e) ∙ p.whole in
      (p.is ∙ ap (sets before to) same, p.place ∙ ap (λ (l : List ℕ). to + length l) same)

  -- How much is to come, and that the list is as long as it was.
  pub putting_room : Putting all to before rest past now → (past + length rest ≡ to + length all) × (length now ≡ length before)
  putting_room p =
      let size = ap length p.whole in
      let parts = length-append p.done rest in
      let place = p.place in
      (omega arith, ap length p.is ∙ length-sets before to p.done)

  -- What is to come may be written in another way.
  pub putting_as : (rest' : List ℕ) → rest ≡ rest' → Putting all to before rest past now → Putting all to before rest' past now
  putting_as rest' e p = record { done = p.done; is = p.is; place = p.place; whole = ap (λ (l : List ℕ). p.done ++ l) (sym e) ∙ p.whole }

-- More of it.
pub putting_more : (all : List ℕ) (to : ℕ) (before own rest : List ℕ) (past : ℕ) (now after : List ℕ) (next : ℕ) → Putting all to before (own ++ rest) past now
    → after ≡ sets now past own → next ≡ past + length own → Putting all to before rest next after
putting_more all to before own rest past now after next p e place =
    let here = p.place in
    let long = length-append p.done own in
    record {
      done = p.done ++ own;
      is = e ∙ (λ j. sets (p.is j) (here j) own) ∙ sym (sets_append p.done own before to);
      place = omega arith;
      whole = append_assoc p.done own rest ∙ p.whole;
    }

-- One byte more.
pub putting_one : (all : List ℕ) (to : ℕ) (before : List ℕ) (b : ℕ) (rest : List ℕ) (past : ℕ) (now : List ℕ) → Putting all to before (b ∷ rest) past now
    → Putting all to before rest (past + 1) (set now past b)
putting_one all to before b rest past now p = putting_more all to before (b ∷ []) rest past now (set now past b) (past + 1) p refl refl

-- ---- A whole list

pub sets_whole : (l xs : List ℕ) → length xs ≡ length l → sets l 0 xs ≡ xs
sets_whole l xs e =
    sets-eq xs l 0 (omega arith) ∙ ap (λ (r : List ℕ). xs ++ r) (drop_of_length-le l {i = 0 + length xs} (omega arith)) ∙ append-nil xs

-- Bytes from the start on, and then zeros to the end.
pub sets_filled : (l xs : List ℕ) (past : ℕ) → past ≡ length xs → past ≤ length l
    → sets (sets l 0 xs) past (replicate (length (sets l 0 xs) - past) 0) ≡ filled (length l) 0 xs
unfolding filled
sets_filled l xs past e fits =
    let size = length-sets l 0 xs in
    let zeros : List ℕ = replicate (length l - length xs) 0 in
    let long = length-append xs zeros in
    let many = length-replicate {A = ℕ} (length l - length xs) 0 in
    let start : past ≡ 0 + length xs = omega arith in
    (λ j. sets (sets l 0 xs) (start j) (replicate {A = ℕ} (size j - e j) 0))
    ∙ sym (sets_append xs zeros l 0)
    ∙ sets_whole l (xs ++ zeros) (omega arith)

-- One zero fewer to come.
pub zeros_more : (n i : ℕ) → i < n → replicate {A = ℕ} (n - i) 0 ≡ 0 ∷ replicate (n - (i + 1)) 0
zeros_more n i h = let e : n - i ≡ suc (n - (i + 1)) = omega arith in ap (λ (m : ℕ). replicate {A = ℕ} m 0) e

pub zeros_none : (n i : ℕ) → n ≤ i → replicate {A = ℕ} (n - i) 0 ≡ []
zeros_none n i h = let e : n - i ≡ 0 = omega arith in ap (λ (m : ℕ). replicate {A = ℕ} m 0) e

pub sets_zero : (l : List ℕ) → sets l 0 (replicate (length l - 0) 0) ≡ replicate (length l) 0
sets_zero l =
    let e : length l - 0 ≡ length l = omega arith in
    ap (λ (n : ℕ). sets l 0 (replicate {A = ℕ} n 0)) e ∙ sets_whole l (replicate (length l) 0) (length-replicate {A = ℕ} (length l) 0)
