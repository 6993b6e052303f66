-- The invariants of the loops over lines: what those from here on leave, after those read so far, is what those from the first on leave; and
-- likewise of the places that are listed. Assumes nothing.
use Rattle.std.specs.Prelude.{Result, Ok, Err}
use mathlib.Core.Path.{◌≡◌, refl, subst, transport, ◌∙◌}
use mathlib.Core.List.{List}
use Prim.Native.Nat.{ℕ, suc, ◌+◌, ◌-◌, ◌≤◌, ◌<◌}
use native.Mathlib.Omega.{arith}
use lib.ListN.{length, set, length-set}
use Rattle.rules.specs.declared.Answer.{Answer}
use Rattle.rules.specs.Case.{Read, many}
use Rattle.reading.specs.declared.Spot.{Spot}
use Rattle.reading.specs.Groups.{Due, Left, together, Placed}
use Rattle.reading.proofs.Turns.{AlwaysGoes, due_next, kept_next, many_more, many_stops, many_ends, placed_more, placed_stops, placed_ends}

module _ (text : List ℕ) (past : ℕ) {A : Type 0} (shows : A → List ℕ) (one : ℕ → ℕ → Read A) (count : ℕ) (from : Spot) (before : List ℕ) where
  -- i of so many are read, and the next is due here.
  pub record Progress (at : Spot) (now : List ℕ) (i : ℕ) : Type 0 where
    pub most : i ≤ count
    pub due : Due text past now at
    pub kept : length now ≡ length before
    pub same : (r : Result Spot Answer) (u : List ℕ) → Left (together shows) at.from now (many one (count - i) at.line at.start.at) r u
        → Left (together shows) from.from before (many one count from.line from.start.at) r u

  -- The same, with the places of those i listed from an index on.
  pub record Listing (index : ℕ) (directory : List ℕ) (at : Spot) (now places : List ℕ) (i : ℕ) : Type 0 where
    pub progress : Progress at now i
    pub size : length places ≡ length directory
    pub placed : (u : List ℕ) → Placed shows at.from (index + i) places (many one (count - i) at.line at.start.at) u
        → Placed shows from.from index directory (many one count from.line from.start.at) u

  pub begins : Due text past before from → Progress from before 0
  begins due =
      let c : count - 0 ≡ count = omega arith in
      record {
        most = omega arith;
        due = due;
        kept = refl;
        same = λ r u h. subst (λ (k : ℕ). Left (together shows) from.from before (many one k from.line from.start.at) r u) c h;
      }

  pub list_begins : (index : ℕ) (directory : List ℕ) → Due text past before from → Listing index directory from before directory 0
  list_begins index directory due =
      let c : count - 0 ≡ count = omega arith in
      let n : index + 0 ≡ index = omega arith in
      record {
        progress = begins due;
        size = refl;
        placed = λ u h. transport (λ j. Placed shows from.from (n j) directory (many one (c j) from.line from.start.at) u) h;
      }

  module _ (goes : AlwaysGoes text shows one) (at : Spot) (now : List ℕ) (i : ℕ) (p : Progress at now i) where
    module _ (more : i < count) (g : Result Spot Answer) (v : List ℕ) (h : Left shows at.from now (one at.line at.start.at) g v) where
      left : count - i ≡ suc (count - (i + 1))
      left = omega arith

      pub goes_on_lem : (s : Spot) → g ≡ Ok s → Progress s v (i + 1)
      goes_on_lem s e = record {
        most = omega arith;
        due = due_next shows text past now v at s (one at.line at.start.at) g p.due
            (goes at.line at.start.at at.from p.due.ahead p.due.inside) h e;
        kept = kept_next shows now v at.from s (one at.line at.start.at) g h e ∙ p.kept;
        same = λ r u q. p.same r u (many_more shows one at s now v (count - i) (count - (i + 1)) left g h e r u q);
      }

      pub stops : (a : Answer) → g ≡ Err a → (u : List ℕ) → Left (together shows) from.from before (many one count from.line from.start.at) (Err a) u
      stops a e u = p.same (Err a) u (many_stops shows one at at now v (count - i) (count - (i + 1)) left g h a e u)

      module _ (index : ℕ) (directory places : List ℕ) (size : length places ≡ length directory)
          (placed : (u : List ℕ) → Placed shows at.from (index + i) places (many one (count - i) at.line at.start.at) u
          → Placed shows from.from index directory (many one count from.line from.start.at) u) where
        -- The place of the one that was read is listed, at index k.
        pub list_goes_on : (s : Spot) (k : ℕ) → g ≡ Ok s → k ≡ index + i → Listing index directory s v (set places k at.from) (i + 1)
        list_goes_on s k e here =
            let further : index + (i + 1) ≡ index + i + 1 = omega arith in
            record {
              progress = goes_on_lem s e;
              size = length-set places k at.from ∙ size;
              placed = λ u q.
                  placed u
                  (placed_more shows one at s now v (count - i) (count - (i + 1)) left g h (index + i) places e u
                  (transport (λ j. Placed shows s.from (further j) (set places (here j) at.from) (many one (count - (i + 1)) s.line s.start.at) u) q));
            }

        pub list_stops : (a : Answer) → g ≡ Err a → (u : List ℕ) → Placed shows from.from index directory (many one count from.line from.start.at) u
        list_stops a e u = placed u (placed_stops shows one at at now v (count - i) (count - (i + 1)) left g h a e (index + i) places u)

    pub ends : count ≤ i → Left (together shows) from.from before (many one count from.line from.start.at) (Ok at) now
    ends over = let none : count - i ≡ 0 = omega arith in p.same (Ok at) now (many_ends shows one at now (count - i) none)

    pub list_ends : (index : ℕ) (directory places : List ℕ)
        → ((u : List ℕ) → Placed shows at.from (index + i) places (many one (count - i) at.line at.start.at) u
        → Placed shows from.from index directory (many one count from.line from.start.at) u)
        → count ≤ i → Placed shows from.from index directory (many one count from.line from.start.at) places
    list_ends index directory places placed over = let none : count - i ≡ 0 = omega arith in placed places (placed_ends shows one at (index + i) places (count - i) none)
