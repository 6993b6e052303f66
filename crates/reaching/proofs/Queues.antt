-- What marking does to the marks and the queue: a line that is not marked finds room in the queue; to mark it and append it is a step, and so is
-- to leave what is marked already; two steps make one. Assumes nothing.
use mathlib.Core.Path.{◌≡◌, refl, sym, ap, ◌∙◌}
use mathlib.Core.Bool.{Bool, true, false}
use mathlib.Core.List.{List}
use mathlib.Core.Logic.{◌⊎◌, inl, inr, ⊎_elim}
use Prim.Native.Nat.{ℕ, zero, suc, ◌+◌, ◌≤◌, ◌<◌}
use native.Mathlib.Omega.{arith}
use borrow.Author.Tests.{eqb-true, eqb-false}
use lib.Dec.{eqb}
use lib.ListN.{length, get_or, set, length-set}
use lib.Seq.{get_or-set_same, get_or-set_other}
use Rattle.reaching.specs.Queued.{total, Queued, Adds, Names, Among, Follows, Room, Line}

pub same_or_not : (a b : ℕ) → (a ≡ b) ⊎ (a ≡ b → ⊥)
same_or_not a b = go (eqb a b) refl
  where
    go : (t : Bool) → eqb a b ≡ t → (a ≡ b) ⊎ (a ≡ b → ⊥)
    go true e = inl (eqb-true a b e)
    go false e = inr (eqb-false a b e)

pub at_same : (l : List ℕ) (a b : ℕ) → a ≡ b → get_or l a 0 ≡ get_or l b 0
at_same l a b s = ap (λ (x : ℕ). get_or l x 0) s

-- A mark that is not 0 is 1.
pub not_zero : (m : List ℕ) (d : ℕ) → get_or m d 0 ≤ 1 → (get_or m d 0 ≡ 0 → ⊥) → get_or m d 0 ≡ 1
not_zero m d b h = ⊎_elim (λ s. absurd (h s)) (λ o. omega arith) (same_or_not (get_or m d 0) 0)

-- Whatever a link of a line names, the lists have room for it.
pub links_room : {starts links twin marks queue : List ℕ} {e : ℕ} → Line starts links twin e marks queue → (u : ℕ) → get_or starts e 0 ≤ u
    → u < get_or starts (e + 1) 0 → Room (get_or links u 0) marks queue
links_room {e = e} n u from to =
    let low = n.graph.links_low e u n.low from to in
    (omega (arith, n.room.0), omega (arith, n.room.1))

-- ---- How many lines are marked

module _ (m : List ℕ) (bit : (d : ℕ) → get_or m d 0 ≤ 1) where
  total_most : (n : ℕ) → total m n ≤ n
  total_most zero = omega arith
  total_most (suc n) = omega (arith, total_most n, bit n)

  total_free : (d n : ℕ) → get_or m d 0 ≡ 0 → d < n → total m n < n
  total_free d zero z h = absurd (omega arith)
  total_free d (suc n) z h =
      ⊎_elim
      (λ s. omega (arith, total_most n, at_same m d n s))
      (λ o. omega (arith, total_free d n z (omega arith), bit n))
      (same_or_not d n)

total_above : (m : List ℕ) (d n : ℕ) → n ≤ d → total (set m d 1) n ≡ total m n
total_above m d zero h = refl
total_above m d (suc n) h = omega (arith, total_above m d n (omega arith), get_or-set_other m d n 1 0 (λ s. omega arith))

total_set : (m : List ℕ) (d n : ℕ) → get_or m d 0 ≡ 0 → d < length m → d < n → total (set m d 1) n ≡ suc (total m n)
total_set m d zero z l h = absurd (omega arith)
total_set m d (suc n) z l h =
    ⊎_elim
    (λ s. omega (arith, total_above m d n (omega arith), get_or-set_same m d 1 0 l, at_same (set m d 1) d n s, at_same m d n s))
    (λ o. omega (arith, total_set m d n z l (omega arith), get_or-set_other m d n 1 0 (λ s. o (sym s))))
    (same_or_not d n)

total_none : (m : List ℕ) → ((d : ℕ) → get_or m d 0 ≡ 0) → (n : ℕ) → total m n ≡ 0
total_none m z zero = refl
total_none m z (suc n) = omega (arith, total_none m z n, z n)

-- ---- Steps

-- With no line marked the queue is empty.
pub queued_none : (m q : List ℕ) → ((d : ℕ) → get_or m d 0 ≡ 0) → Queued m q 0
queued_none m q z =
    record {
      bit = λ d. omega (arith, z d);
      counted = sym (total_none m z (length q));
      listed = λ i h. absurd (omega arith);
      placed = λ d h. absurd (omega (arith, z d));
    }

-- The queue holds no more than it has room for.
pub tail_most : {m q : List ℕ} {t : ℕ} → Queued m q t → t ≤ length q
tail_most {m} {q} k = omega (arith, k.counted, total_most m k.bit (length q))

-- A line that is not marked finds room in the queue.
pub room_left : (m q : List ℕ) (t d : ℕ) → Queued m q t → get_or m d 0 ≡ 0 → d < length q → t < length q
room_left m q t d k z h = omega (arith, k.counted, total_free m k.bit d (length q) z h)

-- Lines that are all marked already.
pub adds_none : {A : ℕ → Type 0} {m q : List ℕ} {t : ℕ} → Queued m q t → ((d : ℕ) → A d → get_or m d 0 ≡ 1) → Adds A m q t m q t
adds_none k f =
    record { queued = k; longer = omega arith; same = λ i h. refl; stays = λ d h. h; all = f; only = λ d h. inl h }

-- A line that is marked already.
pub adds_known : {m q : List ℕ} {t : ℕ} (d target : ℕ) → Queued m q t → (get_or m d 0 ≡ 0 → ⊥) → target ≡ suc d → Adds (Names target) m q t m q t
adds_known {m} d target k h e = adds_none k (λ x n. at_same m x d (omega arith) ∙ not_zero m d (k.bit d) h)

-- One line more.
module _ (m q : List ℕ) (t d : ℕ) (k : Queued m q t) (z : get_or m d 0 ≡ 0) (l : d < length m) (h : d < length q) where
  marks_before : (x : ℕ) → get_or (set m d 1) x 0 ≡ 1 → (get_or m x 0 ≡ 1) ⊎ (x ≡ d)
  marks_before x y =
      ⊎_elim
      (λ s. inr s)
      (λ o. inl (sym (get_or-set_other m d x 1 0 o) ∙ y))
      (same_or_not x d)

  marks_stay : (x : ℕ) → get_or m x 0 ≡ 1 → get_or (set m d 1) x 0 ≡ 1
  marks_stay x y = get_or-set_other m d x 1 0 (λ s. omega (arith, at_same m x d s)) ∙ y

  queue_same : (i : ℕ) → i < t → get_or (set q t d) i 0 ≡ get_or q i 0
  queue_same i g = get_or-set_other q t i d 0 (λ s. omega arith)

  queue_last : get_or (set q t d) t 0 ≡ d
  queue_last = get_or-set_same q t d 0 (room_left m q t d k z h)

  marks_new : get_or (set m d 1) d 0 ≡ 1
  marks_new = get_or-set_same m d 1 0 l

  queued_more : Queued (set m d 1) (set q t d) (t + 1)
  queued_more =
      record {
        bit =
            λ x. ⊎_elim
            (λ s. omega (arith, at_same (set m d 1) x d s, marks_new))
            (λ o. omega (arith, get_or-set_other m d x 1 0 o, k.bit x))
            (same_or_not x d);
        counted = omega (arith, ap (total (set m d 1)) (length-set q t d), total_set m d (length q) z l h, k.counted);
        listed =
            λ i g. ⊎_elim
            (λ s. at_same (set m d 1) _ d (at_same (set q t d) i t s ∙ queue_last) ∙ marks_new)
            (λ o. let g' : i < t = omega arith in
            at_same (set m d 1) _ _ (queue_same i g') ∙ marks_stay (get_or q i 0) (k.listed i g'))
            (same_or_not i t);
        placed =
            λ x y. ⊎_elim
            (λ old. let p = k.placed x old in (p.0, omega (arith, p.1), queue_same p.0 p.1 ∙ p.2))
            (λ s. (t, omega arith, queue_last ∙ sym s))
            (marks_before x y);
      }

  pub adds_one : (target : ℕ) → target ≡ suc d → Adds (Names target) m q t (set m d 1) (set q t d) (t + 1)
  adds_one target e =
      record {
        queued = queued_more;
        longer = omega arith;
        same = queue_same;
        stays = marks_stay;
        all = λ x n. at_same (set m d 1) x d (omega arith) ∙ marks_new;
        only = λ x y. ⊎_elim (λ old. inl old) (λ s. inr (omega arith)) (marks_before x y);
      }

-- Two steps, one after the other.
adds_both : {A B C : ℕ → Type 0} {m q m' q' m'' q'' : List ℕ} {t t' t'' : ℕ} → ((d : ℕ) → A d ⊎ B d → C d) → ((d : ℕ) → C d → A d ⊎ B d)
    → Adds A m q t m' q' t' → Adds B m' q' t' m'' q'' t'' → Adds C m q t m'' q'' t''
adds_both to from a b =
    record {
      queued = b.queued;
      longer = omega (arith, a.longer, b.longer);
      same = λ i h. b.same i (omega (arith, a.longer)) ∙ a.same i h;
      stays = λ d h. b.stays d (a.stays d h);
      all = λ d v. ⊎_elim (λ x. b.stays d (a.all d x)) (λ y. b.all d y) (from d v);
      only = λ d h. ⊎_elim (λ old. ⊎_elim (λ o. inl o) (λ x. inr (to d (inl x))) (a.only d old)) (λ y. inr (to d (inr y))) (b.only d h);
    }

-- ---- The links of a line

-- None of them yet.
pub among_none : (links : List ℕ) (from : ℕ) {m q : List ℕ} {t : ℕ} → Queued m q t → Adds (Among links from from) m q t m q t
among_none links from k = adds_none k (λ d n. absurd (omega (arith, n.1, n.2)))

-- One of them more.
pub among_next : (links : List ℕ) (from i : ℕ) {m q m' q' m'' q'' : List ℕ} {t t' t'' : ℕ} → from ≤ i → Adds (Among links from i) m q t m' q' t'
    → Adds (Names (get_or links i 0)) m' q' t' m'' q'' t'' → Adds (Among links from (i + 1)) m q t m'' q'' t''
among_next links from i f a b =
    adds_both
    (λ d n. ⊎_elim (λ p. (p.0, p.1, omega (arith, p.2), p.3)) (λ e. (i, f, omega arith, e)) n)
    (λ d p. ⊎_elim (λ s. inr (at_same links i p.0 (sym s) ∙ p.3)) (λ o. inl (p.0, p.1, omega (arith, p.2), p.3)) (same_or_not p.0 i))
    a
    b

-- All of them.
pub among_all : (links : List ℕ) (from i to : ℕ) {m q m' q' : List ℕ} {t t' : ℕ} → i ≡ to → Adds (Among links from i) m q t m' q' t'
    → Adds (Among links from to) m q t m' q' t'
among_all links from i to s a = rw s at a

-- The links, and then the twin.
pub follows_both : (starts links twin : List ℕ) (e : ℕ) {m q m' q' m'' q'' : List ℕ} {t t' t'' : ℕ}
    → Adds (Among links (get_or starts e 0) (get_or starts (e + 1) 0)) m q t m' q' t' → Adds (Names (get_or twin e 0)) m' q' t' m'' q'' t''
    → Adds (Follows starts links twin e) m q t m'' q'' t''
follows_both starts links twin e a b = adds_both (λ d n. n) (λ d n. n) a b
