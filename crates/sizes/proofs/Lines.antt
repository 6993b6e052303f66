-- Lines, passed one by one. Assumes nothing.
use mathlib.Core.Path.{◌≡◌, refl, sym, subst}
use mathlib.Core.List.{List, [], ◌∷◌}
use Prim.Native.Nat.{ℕ, ◌+◌, ◌≤◌, ◌<◌}
use native.Mathlib.Omega.{arith}
use lib.ListN.{length, length-append}
use Rattle.rules.specs.Case.{Valued}
use Rattle.rules.specs.Fields.{line_fields, lines_fields}
use Rattle.fields.specs.Standing.{Stands}
use Rattle.fields.proofs.Standing.{stands_left, stands_right}
use Rattle.sizes.specs.Sizes.{IsLine, AreLines}
use Rattle.sizes.proofs.Items.{letter_here}

-- Of `count` lines, those from line i on start at a place.
pub record Going (k : ℕ) (fields : List ℕ) (at count : ℕ) (xs : List Valued) (past i : ℕ) : Type 0 where
  pub rest : List Valued
  pub counted : length rest + i ≡ count
  pub lines : AreLines k rest
  pub here : Stands fields past (lines_fields rest)
  pub whole : past + length (lines_fields rest) ≡ at + length (lines_fields xs)

pub going_starts : (k : ℕ) (fields : List ℕ) (at count : ℕ) (xs : List Valued) → length xs ≡ count → AreLines k xs → Stands fields at (lines_fields xs)
    → Going k fields at count xs at 0
going_starts k fields at count xs e l s = record { rest = xs; counted = omega arith; lines = l; here = s; whole = refl }

-- The line that is due, and that those after it follow.
pub record Due (k : ℕ) (fields : List ℕ) (at count : ℕ) (xs : List Valued) (past i : ℕ) : Type 0 where
  pub line : Valued
  pub is : IsLine k line
  pub here : Stands fields past (line_fields line)
  pub inside : past + length (line_fields line) ≤ length fields
  pub next : (n : ℕ) → n ≡ length (line_fields line) → Going k fields at count xs (past + n) (i + 1)

module _ (k : ℕ) (fields : List ℕ) (at count : ℕ) (xs : List Valued) (past i : ℕ) where
  pub line_due : Going k fields at count xs past i → i < count → Due k fields at count xs past i
  line_due g more = go g.rest g.counted g.lines g.here g.whole
    where
      go : (rest : List Valued) → length rest + i ≡ count → AreLines k rest → Stands fields past (lines_fields rest)
          → past + length (lines_fields rest) ≡ at + length (lines_fields xs) → Due k fields at count xs past i
      go [] counted lines here whole = absurd (omega arith)
      go (y ∷ ys) counted lines here whole =
          let own = stands_left fields past (line_fields y) (lines_fields ys) here in
          let long = length-append (line_fields y) (lines_fields ys) in
          record {
            line = y;
            is = lines.0;
            here = own;
            inside = (letter_here k fields past y lines.0 own).0;
            next =
                λ n e. record {
                  rest = ys;
                  counted = omega arith;
                  lines = lines.1;
                  here = subst (λ (m : ℕ). Stands fields (past + m) (lines_fields ys)) (sym e) (stands_right fields past (line_fields y) (lines_fields ys) here);
                  whole = omega arith;
                };
          }

  pub going_ends : Going k fields at count xs past i → count ≤ i → past ≡ at + length (lines_fields xs)
  going_ends g done = go g.rest g.counted g.whole
    where
      go : (rest : List Valued) → length rest + i ≡ count → past + length (lines_fields rest) ≡ at + length (lines_fields xs) → past ≡ at + length (lines_fields xs)
      go [] counted whole = omega arith
      go (y ∷ ys) counted whole = absurd (omega arith)
