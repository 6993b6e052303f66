-- The marks of the positions claimed: one more claim is one more mark, and the least position without a mark is the least unclaimed.
-- Assumes nothing.
use mathlib.Core.Path.{◌≡◌, refl, sym, ap, ◌∙◌}
use mathlib.Core.Bool.{Bool, true, false, cond, ◌||◌}
use mathlib.Core.List.{List, ◌∷◌}
use mathlib.Core.Option.{Option, none, some}
use Prim.Native.Nat.{ℕ, zero, suc, ◌+◌, ◌≤◌, ◌<◌}
use native.Mathlib.Decide.{ℕ_discrete}
use native.Mathlib.Numerals.{add-one}
use native.Mathlib.Omega.{arith}
use borrow.Author.Tests.{eq-eqb, ne_eqb}
use lib.Dec.{eqb}
use lib.ListN.{length, get_or, set, take, length-set, length-take, drop_of_length-le}
use lib.Seq.{slice, slice-cons, ext_get_or, get_or-set_same, get_or-set_other}
use Rattle.rules.specs.State.{tabulate}
use Rattle.rules.specs.Tree.{is_in, least_unclaimed}
use Rattle.rules.proofs.Tables.{length_tabulate, get_d_tabulate}
use Rattle.tree.specs.Layout.{marks_from, marks_of, marks_in}
use Rattle.tree.specs.Marks.{least_unmarked}
use Rattle.tree.proofs.Stores.{slice_at}

length_marks : (k : ℕ) (claimed : List ℕ) → length (marks_of k claimed) ≡ k
unfolding marks_of
length_marks k claimed = length_tabulate k 1 (λ i. cond (is_in i claimed) 1 0)

mark_of : (k : ℕ) (claimed : List ℕ) (i : ℕ) → i < k → get_or (marks_of k claimed) i 0 ≡ cond (is_in (1 + i) claimed) 1 0
unfolding marks_of
mark_of k claimed i h = get_d_tabulate k 1 (λ j. cond (is_in j claimed) 1 0) i 0 h

-- One more claim.
pub marks_claim : (k i : ℕ) (claimed : List ℕ) → i < k → set (marks_of k claimed) i 1 ≡ marks_of k ((1 + i) ∷ claimed)
unfolding is_in
marks_claim k i claimed h =
    ext_get_or 0 (set (marks_of k claimed) i 1) (marks_of k ((1 + i) ∷ claimed))
    (length-set (marks_of k claimed) i 1 ∙ length_marks k claimed ∙ sym (length_marks k ((1 + i) ∷ claimed)))
    (λ j b.
    let inside : j < k = omega (arith, length-set (marks_of k claimed) i 1, length_marks k claimed) in
    go j inside (ℕ_discrete j i))
  where
    go : (j : ℕ) → j < k → Dec (j ≡ i) → get_or (set (marks_of k claimed) i 1) j 0 ≡ get_or (marks_of k ((1 + i) ∷ claimed)) j 0
    go j b (yes e) =
        let room : i < length (marks_of k claimed) = omega (arith, length_marks k claimed) in
        let same : 1 + i ≡ 1 + j = omega arith in
        ap (λ (x : ℕ). get_or (set (marks_of k claimed) i 1) x 0) e
        ∙ get_or-set_same (marks_of k claimed) i 1 0 room
        ∙ sym (mark_of k ((1 + i) ∷ claimed) j b ∙ ap (λ (t : Bool). cond (t || is_in (1 + j) claimed) 1 0) (eq-eqb (1 + i) (1 + j) same))
    go j b (no n) =
        let other : 1 + i ≡ 1 + j → ⊥ = λ e. n (omega arith) in
        get_or-set_other (marks_of k claimed) i j 1 0 n
        ∙ mark_of k claimed j b
        ∙ sym (mark_of k ((1 + i) ∷ claimed) j b ∙ ap (λ (t : Bool). cond (t || is_in (1 + j) claimed) 1 0) (ne_eqb (1 + i) (1 + j) other))

-- What the work space says of position i + 1.
module _ (k i : ℕ) (claimed w : List ℕ) (h : i < k) (m : marks_in k w ≡ marks_of k claimed) where
  mark_is : get_or w (marks_from + i) 0 ≡ cond (is_in (1 + i) claimed) 1 0
  mark_is = slice_at marks_from (marks_from + k) w i (omega arith) ∙ ap (λ (l : List ℕ). get_or l i 0) m ∙ mark_of k claimed i h

  pub mark_clear : get_or w (marks_from + i) 0 ≡ 0 → is_in (1 + i) claimed ≡ false
  mark_clear e = go (is_in (1 + i) claimed) (sym e ∙ mark_is)
    where
      go : (b : Bool) → ◌≡◌ {A = ℕ} 0 (cond b 1 0) → b ≡ false
      go true q = absurd (omega arith)
      go false q = refl

  pub mark_set : (get_or w (marks_from + i) 0 ≡ 0 → ⊥) → is_in (1 + i) claimed ≡ true
  mark_set e = go (is_in (1 + i) claimed) (λ q. e (mark_is ∙ q))
    where
      go : (b : Bool) → (◌≡◌ {A = ℕ} (cond b 1 0) 0 → ⊥) → b ≡ true
      go true q = refl
      go false q = absurd (q refl)

-- ---- The least position without a mark

unmarked_step : (b : Bool) (i : ℕ) (rest : Option ℕ)
    → ◌≡◌ {A = Option ℕ} (elim (eqb (cond b 1 0) 0) [ true ↦ some i | false ↦ rest ]) (elim b [ true ↦ rest | false ↦ some i ])
unmarked_step true i rest = refl
unmarked_step false i rest = refl

-- For the marks of some claims it is the least unclaimed position.
unmarked_from : (k i : ℕ) (claimed : List ℕ)
    → least_unmarked i (tabulate k i (λ j. cond (is_in j claimed) 1 0)) ≡ least_unclaimed claimed k i
unmarked_from zero i claimed = refl
unmarked_from (suc k) i claimed =
    unmarked_step (is_in i claimed) i (least_unmarked (i + 1) (tabulate k (suc i) (λ j. cond (is_in j claimed) 1 0)))
    ∙ ap (λ (r : Option ℕ). elim (is_in i claimed) as (λ x. Option ℕ) [ true ↦ r | false ↦ some i ])
    (ap (λ (j : ℕ). least_unmarked (i + 1) (tabulate k j (λ j. cond (is_in j claimed) 1 0))) (sym (add-one i)) ∙ unmarked_from k (i + 1) claimed)

pub least_unclaimed_lem : (k : ℕ) (claimed w : List ℕ) → marks_in k w ≡ marks_of k claimed → least_unmarked 1 (marks_in k w) ≡ least_unclaimed claimed k 1
unfolding marks_of
least_unclaimed_lem k claimed w m = ap (least_unmarked 1) m ∙ unmarked_from k 1 claimed

-- The search from position i + 1 on.
module _ (k i : ℕ) (w : List ℕ) (h : i < k) (room : marks_from + k ≤ length w) where
  marks_next : slice (marks_from + i) (marks_from + k) w ≡ get_or w (marks_from + i) 0 ∷ slice (marks_from + (i + 1)) (marks_from + k) w
  marks_next =
      let s : suc (marks_from + i) ≡ marks_from + (i + 1) = omega arith in
      slice-cons (marks_from + i) (marks_from + k) w 0 (omega arith) room
      ∙ ap (λ (j : ℕ). get_or w (marks_from + i) 0 ∷ slice j (marks_from + k) w) s

  pub unmarked_here : get_or w (marks_from + i) 0 ≡ 0 → least_unmarked (i + 1) (slice (marks_from + i) (marks_from + k) w) ≡ some (i + 1)
  unmarked_here e =
      ap (least_unmarked (i + 1)) marks_next
      ∙ ap (λ (b : Bool). elim b as (λ x. Option ℕ) [ true ↦ some (i + 1) | false ↦ least_unmarked (i + 1 + 1) (slice (marks_from + (i + 1)) (marks_from + k) w) ]) (eq-eqb _ _ e)

  pub unmarked_on : (get_or w (marks_from + i) 0 ≡ 0 → ⊥)
      → least_unmarked (i + 1) (slice (marks_from + i) (marks_from + k) w) ≡ least_unmarked (i + 1 + 1) (slice (marks_from + (i + 1)) (marks_from + k) w)
  unmarked_on e =
      ap (least_unmarked (i + 1)) marks_next
      ∙ ap (λ (b : Bool). elim b as (λ x. Option ℕ) [ true ↦ some (i + 1) | false ↦ least_unmarked (i + 1 + 1) (slice (marks_from + (i + 1)) (marks_from + k) w) ]) (ne_eqb _ _ e)

pub unmarked_none : (k i : ℕ) (w : List ℕ) → k ≤ i → least_unmarked (i + 1) (slice (marks_from + i) (marks_from + k) w) ≡ none
unmarked_none k i w h =
    ap (least_unmarked (i + 1)) (drop_of_length-le (take (marks_from + k) w) {i = marks_from + i} (simp length-take (omega arith)))
