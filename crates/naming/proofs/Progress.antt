-- The invariant of the loop over the lines of one use: the names so far, put before those that the lines from here on list, are what all lines
-- list; and what the loop leaves in the end. Assumes nothing.
use mathlib.Core.Path.{◌≡◌, refl, sym, ap, subst, ◌∙◌}
use mathlib.Core.List.{List, [], ◌∷◌}
use mathlib.Core.Logic.{⊎_elim}
use Prim.Native.Nat.{ℕ, zero, suc, ◌+◌, ◌-◌, ◌≤◌, ◌<◌}
use native.Mathlib.Numerals.{add-one}
use native.Mathlib.Omega.{arith}
use lib.ListN.{length, get_or}
use Rattle.std.specs.Prelude.{Ok, Err}
use Rattle.std.specs.Prelude as code
use Rattle.rules.specs.declared.Answer.{Answer}
use Rattle.rules.specs.Result.{found, refused, ◌>>=◌}
use Rattle.rules.specs.Case.{Read}
use Rattle.rules.specs.Naming.{name_lines}
use Rattle.probing.specs.Probing.{Kept}
use Rattle.probing.proofs.First.{below}
use Rattle.probing.proofs.Tables.{empty}
use Rattle.names.specs.Names.{name_at, same_name, hash_name}
use Rattle.names.proofs.Keys.{zeros_placed}
use Rattle.naming.specs.declared.Spot.{Spot}
use Rattle.naming.specs.Lines.{earlier_names, Entered, one_name, NextName, Left}
use Rattle.naming.specs.Listing.{Blank, Listed}
use Rattle.naming.proofs.Turns.{went, halted, others, lines_by_one, Follows, one_follows}

-- ---- Names put before others

-- Names, the latest first, before others.
abbrev before : List (List ℕ) → List (List ℕ) → List (List ℕ)
before [] names = names
before (x ∷ earlier) names = before earlier (x ∷ names)

abbrev read_before : List (List ℕ) → Read (List (List ℕ)) → Read (List (List ℕ))
read_before earlier (found (names, n, place)) = found (before earlier names, n, place)
read_before earlier (refused a) = refused a

before_length : (earlier names : List (List ℕ)) → length (before earlier names) ≡ length earlier + length names
before_length [] names = omega arith
before_length (x ∷ earlier) names = omega (arith, before_length earlier (x ∷ names))

before_past : (earlier names : List (List ℕ)) (j : ℕ) → get_or (before earlier names) (length earlier + j) [] ≡ get_or names j []
before_past [] names j = let e : 0 + j ≡ j = omega arith in ap (λ (k : ℕ). get_or names k []) e
before_past (x ∷ earlier) names j =
    let e : suc (length earlier) + j ≡ length earlier + suc j = omega arith in
    ap (λ (k : ℕ). get_or (before earlier (x ∷ names)) k []) e ∙ before_past earlier (x ∷ names) (suc j)

module _ (text starts ends : List ℕ) where
  names_length : (n : ℕ) → length (earlier_names text starts ends n) ≡ n
  names_length zero = refl
  names_length (suc n) = ap suc (names_length n)

  -- Each of the first entries by its number.
  names_at : (n e : ℕ) (names : List (List ℕ)) → e < n → get_or (before (earlier_names text starts ends n) names) e [] ≡ name_at text starts ends e
  names_at zero e names h = absurd (omega arith)
  names_at (suc n) e names h =
      ⊎_elim
      (λ l. names_at n e (name_at text starts ends n ∷ names) l)
      (λ l. let same : e ≡ length (earlier_names text starts ends n) + 0 = omega (arith, names_length n) in
      let number : n ≡ e = omega arith in
      ap (λ (k : ℕ). get_or (before (earlier_names text starts ends n) (name_at text starts ends n ∷ names)) k []) same
      ∙ (before_past (earlier_names text starts ends n) (name_at text starts ends n ∷ names) 0 ∙ ap (name_at text starts ends) number))
      (below e n)

-- ---- The invariant

module _ (text : List ℕ) (count : ℕ) (from : Spot) where
  abbrev all : Read (List (List ℕ))
  all = name_lines text count 0 [] from.line from.at

  pub record Progress (starts ends slots : List ℕ) (at : Spot) (i : ℕ) : Type 0 where
    pub most : i ≤ count
    pub line : at.line ≡ from.line + i
    pub entered : Entered text starts ends slots i
    pub same : name_lines text count 0 [] from.line from.at
        ≡ read_before (earlier_names text starts ends i) (name_lines text (count - i) i (earlier_names text starts ends i) at.line at.at)

  pub begins : (starts ends slots cleared : List ℕ) → Blank starts ends slots → length cleared ≡ length slots → ((e : ℕ) → get_or cleared e 0 ≡ 0)
      → Progress starts ends cleared from 0
  begins starts ends slots cleared blank size zeros =
      record {
        most = omega arith;
        line = omega arith;
        entered = record {
          placed = zeros_placed text starts ends (blank.ends_length ∙ sym blank.starts_length) blank.starts_zero blank.ends_zero;
          kept = empty (same_name text starts ends) hash_name cleared zeros;
          starts_length = blank.starts_length;
          slots_length = size ∙ blank.slots_length;
        };
        same = go (count - 0) (omega arith);
      }
    where
      plain : (r : Read (List (List ℕ))) → r ≡ read_before [] r
      plain (found (names, n, place)) = refl
      plain (refused a) = refl

      go : (k : ℕ) → count ≡ k → all ≡ read_before [] (name_lines text k 0 [] from.line from.at)
      go k e = plain all ∙ ap (λ (j : ℕ). read_before [] (name_lines text j 0 [] from.line from.at)) e

  module _ (starts ends slots : List ℕ) (at : Spot) (i : ℕ) (p : Progress starts ends slots at i) where
    -- The earlier names.
    abbrev those : List (List ℕ)
    those = earlier_names text starts ends i

    -- The lists keep their lengths.
    pub sizes : (starts₀ ends₀ slots₀ : List ℕ) → Blank starts₀ ends₀ slots₀
        → (length starts ≡ length starts₀) × (length ends ≡ length ends₀) × (length slots ≡ length slots₀)
    sizes starts₀ ends₀ slots₀ blank = (
      p.entered.starts_length ∙ sym blank.starts_length,
      p.entered.placed.pairs ∙ (p.entered.starts_length ∙ sym blank.ends_length),
      p.entered.slots_length ∙ sym blank.slots_length,
    )

    module _ (more : i < count) (g : code.Result Spot Answer) (starts' ends' slots' : List ℕ)
        (h : Left (NextName text starts ends i starts' ends' slots') (one_name text i (earlier_names text starts ends i) at.line at.at) g) where
      abbrev one : Read (List ℕ)
      one = one_name text i those at.line at.at

      -- All lines by the next one.
      split : all ≡ read_before those (one >>= λ (name, n, place). others text i those at.line at.at (count - (i + 1)) name n place)
      split =
          let left : count - i ≡ suc (count - (i + 1)) = omega arith in
          p.same
          ∙ ap (read_before those)
          (ap (λ (k : ℕ). name_lines text k i those at.line at.at) left ∙ lines_by_one text i those at.line at.at (count - (i + 1)))

      pub stops : (a : Answer) → g ≡ Err a → (r : code.Result Spot Answer) → r ≡ Err a → (s e l : List ℕ) → Left (Listed text s e l) all r
      stops a e r z s t l =
          subst (λ (y : Read (List (List ℕ))). Left (Listed text s t l) y r)
          (sym
          (split
          ∙ ap (λ (r : Read (List ℕ)). read_before those (r >>= λ (name, n, place). others text i those at.line at.at (count - (i + 1)) name n place))
          (halted (NextName text starts ends i starts' ends' slots') one g h a e)))
          z

      pub goes_on_lem : (s : Spot) → g ≡ Ok s → Progress starts' ends' slots' s (i + 1)
      goes_on_lem s e =
          subst (Progress starts' ends' slots' s) (sym (add-one i))
          record {
            most = omega arith;
            line = omega (arith, p.line, follows);
            entered = w.2.entered;
            same = split ∙ (ap (λ (r : Read (List ℕ)). read_before those (r >>= λ (name, n, place). others text i those at.line at.at (count - (i + 1)) name n place)) w.1
                ∙ (moved (name_lines text (count - (i + 1)) (suc i) (w.0 ∷ those) s.line s.at)
                ∙ (ap (λ (l : List (List ℕ)). read_before l (name_lines text (count - (i + 1)) (suc i) l s.line s.at)) (sym w.2.names)
                ∙ ap (λ (k : ℕ). read_before (earlier_names text starts' ends' (suc i)) (name_lines text (count - k) (suc i) (earlier_names text starts' ends' (suc i)) s.line s.at)) (add-one i))));
          }
        where
          w : (name : List ℕ) × (one ≡ found (name, s.line, s.at)) × NextName text starts ends i starts' ends' slots' name
          w = went (NextName text starts ends i starts' ends' slots') one g h s e

          follows : s.line ≡ at.line + 1
          follows = subst (Follows text i those at.line at.at) w.1 (one_follows text i those at.line at.at)

          moved : (r : Read (List (List ℕ)))
              → read_before those (r >>= λ (names, n, place). found (w.0 ∷ names, n, place)) ≡ read_before (w.0 ∷ those) r
          moved (found (names, n, place)) = refl
          moved (refused a) = refl

    pub ends_here : count ≤ i → i ≤ 2048 → Left (Listed text starts ends slots) all (Ok at)
    ends_here over few =
        let none : count - i ≡ 0 = omega arith in
        subst (λ (r : Read (List (List ℕ))). Left (Listed text starts ends slots) r (Ok at))
        (sym (p.same ∙ ap (λ (k : ℕ). read_before those (name_lines text k i those at.line at.at)) none)) (refl, listed)
      where
        size : length (before those []) ≡ i
        size = omega (arith, before_length those [], names_length text starts ends i)

        listed : Listed text starts ends slots (before those [])
        listed = record {
          each = λ e h. sym (names_at text starts ends i e [] (omega (arith, size)));
          placed = p.entered.placed;
          kept = subst (Kept (same_name text starts ends) hash_name slots) (sym size) p.entered.kept;
          most = omega (arith, size);
          starts_length = p.entered.starts_length;
          slots_length = p.entered.slots_length;
        }
