-- One node's constraints entered in turn: of all of them, those that are left stand at a place. Assumes nothing.
use mathlib.Core.Path.{◌≡◌, refl, sym, ap, subst}
use mathlib.Core.List.{List, [], ◌∷◌, map}
use mathlib.Core.List.Memᴰ.{head as here}
use mathlib.Core.List.Memᴰ.{tail as there}
use mathlib.Core.List.{Memᴰ as Mem}
use Prim.Native.Nat.{ℕ, ◌+◌, ◌<◌}
use native.Mathlib.Omega.{arith}
use lib.ListN.{length}
use Rattle.rules.specs.Case.{Constraint}
use Rattle.rules.specs.Fields.{lines_fields, constraint_line}
use Rattle.fields.specs.Standing.{Stands}
use Rattle.constraints.specs.declared.method.Line.{Line}
use Rattle.constraints.specs.Methods.{ConstraintsHere, meant, Says}

pub record Entered (fields : List ℕ) (at count number : ℕ) (all : List Constraint) : Type 0 where
  pub left : List Constraint
  pub stand : Stands fields at (lines_fields (map constraint_line left))
  pub most : number + length left ≡ count
  pub among : (d : Constraint) → Mem d left → Mem d all

pub entered_starts : {fields : List ℕ} {at count : ℕ} {all : List Constraint} → ConstraintsHere fields at count all → Entered fields at count 0 all
entered_starts {all = all} h = let e = h.counted in record { left = all; stand = h.here; most = omega arith; among = λ d m. m }

module _ {fields : List ℕ} {at count number : ℕ} {all : List Constraint} (p : Entered fields at count number all) where
  -- The constraint that is due, and those after it.
  pub record Due : Type 0 where
    pub this : Constraint
    pub later : List Constraint
    pub lefts : p.left ≡ this ∷ later
    pub stands : Stands fields at (lines_fields (map constraint_line (this ∷ later)))

  pub due : number < count → Due
  due more = go p.left refl
    where
      go : (ds : List Constraint) → p.left ≡ ds → Due
      go [] e = let l = ap length e in let m = p.most in absurd (omega arith)
      go (d ∷ ds) e = record {
        this = d;
        later = ds;
        lefts = e;
        stands = subst (λ (l : List Constraint). Stands fields at (lines_fields (map constraint_line l))) e p.stand;
      }

  -- The code has its line.
  module _ (x : Due) {y : Line} (says : Says fields y x.this x.later) where
    pub line_among : Mem (meant y) all
    line_among = p.among (meant y) (subst (λ (l : List Constraint). Mem (meant y) l) (sym x.lefts) (here says.means))

    pub entered_on : Entered fields y.next count (number + 1) all
    entered_on = record {
      left = x.later;
      stand = says.later;
      most = let e = ap length x.lefts in let m = p.most in omega arith;
      among = λ d m. p.among d (subst (λ (l : List Constraint). Mem d l) (sym x.lefts) (there m));
    }
