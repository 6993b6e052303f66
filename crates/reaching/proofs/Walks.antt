-- A walk over the queue: each marked line is visited, and what follows a line that was taken is marked. So with no line left to take, the visited
-- lines are the marked ones. Assumes nothing.
use mathlib.Core.Path.{◌≡◌, sym, ◌∙◌, subst}
use mathlib.Core.List.{List}
use mathlib.Core.Logic.{inl, inr, ⊎_elim}
use Prim.Native.Nat.{ℕ, ◌+◌, ◌≤◌, ◌<◌}
use native.Mathlib.Omega.{arith}
use lib.ListN.{get_or}
use Rattle.reaching.specs.Visited.{Visited, begin, linked, twinned, Graph, Marked}
use Rattle.reaching.specs.Queued.{Queued, Adds, Names, Follows}
use Rattle.reaching.proofs.Queues.{same_or_not, at_same, not_zero}

-- A visited line is one of the graph's.
pub visited_low : {starts links twin : List ℕ} {count root d : ℕ} → Graph starts links twin count → root < count
    → Visited starts links twin root d → d < count
visited_low g h begin = h
visited_low g h (linked e d u v from to l) = omega (arith, g.links_low e u (visited_low g h v) from to)
visited_low g h (twinned e d v l) = omega (arith, g.twins_low e (visited_low g h v))

-- The first `head` lines of the queue were taken.
pub record Walked (starts links twin : List ℕ) (root head : ℕ) (marks queue : List ℕ) (tail : ℕ) : Type 0 where
  pub queued : Queued marks queue tail
  pub rooted : get_or marks root 0 ≡ 1
  pub visited : (d : ℕ) → get_or marks d 0 ≡ 1 → Visited starts links twin root d
  pub closed : (i d : ℕ) → i < head → Follows starts links twin (get_or queue i 0) d → get_or marks d 0 ≡ 1

module _ (starts links twin : List ℕ) (root : ℕ) where
  -- The root alone is marked.
  pub walk_starts : {m q m' q' : List ℕ} {t : ℕ} → ((d : ℕ) → get_or m d 0 ≡ 0) → Adds (Names (root + 1)) m q 0 m' q' t
      → Walked starts links twin root 0 m' q' t
  walk_starts z a =
      record {
        queued = a.queued;
        rooted = a.all root (omega arith);
        visited =
            λ d h. ⊎_elim
            (λ old. absurd (omega (arith, z d)))
            (λ n. let s : root ≡ d = omega arith in subst (Visited starts links twin root) s begin)
            (a.only d h);
        closed = λ i d h f. absurd (omega arith);
      }

  module _ {m q : List ℕ} {head t : ℕ} (w : Walked starts links twin root head m q t) where
    -- The line to take next is visited.
    pub taken_visited : head < t → Visited starts links twin root (get_or q head 0)
    taken_visited l = w.visited (get_or q head 0) (w.queued.listed head l)

    follows_visited : {e d : ℕ} → Visited starts links twin root e → Follows starts links twin e d → Visited starts links twin root d
    follows_visited {e} {d} v f = ⊎_elim (λ p. linked e d p.0 v p.1 p.2 p.3) (λ n. twinned e d v n) f

    -- It is taken: what follows it is marked.
    pub walk_on : {m' q' : List ℕ} {t' : ℕ} → head < t → Adds (Follows starts links twin (get_or q head 0)) m q t m' q' t'
        → Walked starts links twin root (head + 1) m' q' t'
    walk_on {m'} {q'} l a =
        record {
          queued = a.queued;
          rooted = a.stays root w.rooted;
          visited = λ d h. ⊎_elim (λ old. w.visited d old) (λ f. follows_visited (taken_visited l) f) (a.only d h);
          closed = λ i d h f. closed i d h (a.same i (omega arith)) f;
        }
      where
        closed : (i d : ℕ) → i < head + 1 → get_or q' i 0 ≡ get_or q i 0 → Follows starts links twin (get_or q' i 0) d → get_or m' d 0 ≡ 1
        closed i d h e f =
            ⊎_elim
            (λ s. a.all d (subst (λ (x : ℕ). Follows starts links twin x d) (e ∙ at_same q i head s) f))
            (λ o. a.stays d (w.closed i d (omega arith) (subst (λ (x : ℕ). Follows starts links twin x d) e f)))
            (same_or_not i head)

    -- With no line left to take, what follows a marked line is marked, and so each visited line.
    follows_marked : t ≤ head → (e d : ℕ) → get_or m e 0 ≡ 1 → Follows starts links twin e d → get_or m d 0 ≡ 1
    follows_marked l e d h f =
        let p = w.queued.placed e h in
        w.closed p.0 d (omega (arith, p.1)) (subst (λ (x : ℕ). Follows starts links twin x d) (sym p.2) f)

    visited_marked : t ≤ head → {d : ℕ} → Visited starts links twin root d → get_or m d 0 ≡ 1
    visited_marked l begin = w.rooted
    visited_marked l (linked e d u v from to n) = follows_marked l e d (visited_marked l v) (inl (u, from, to, n))
    visited_marked l (twinned e d v n) = follows_marked l e d (visited_marked l v) (inr n)

    pub walk_ends : t ≤ head → Marked starts links twin root m
    walk_ends l =
        record {
          bit = w.queued.bit;
          only = λ d h. w.visited d (not_zero m d (w.queued.bit d) h);
          all = λ d v. visited_marked l v;
        }
