-- One method's constraints in text order: the first broken one from the start on is that from here on, after those that held.
-- Assumes nothing.
use mathlib.Core.Path.{◌≡◌, refl, sym, ap, subst, ◌∙◌}
use mathlib.Core.Bool.{Bool, true, false}
use mathlib.Core.List.{List, [], ◌∷◌, map}
use mathlib.Core.List.Memᴰ.{head as here}
use mathlib.Core.Option.{Option, some}
use Prim.Native.Nat.{ℕ, ◌+◌, ◌≤◌, ◌<◌}
use native.Mathlib.Omega.{arith}
use lib.ListN.{length}
use Rattle.rules.specs.declared.Answer.{Answer}
use Rattle.rules.specs.Index.{Span, Part, span_of_part}
use Rattle.rules.specs.Case.{Constraint}
use Rattle.rules.specs.Fields.{lines_fields, constraint_line}
use Rattle.rules.specs.Constraint.{Holds, keeps, broken_at, first_broken_of}
use Rattle.rules.proofs.Judgement.Each.{Each, each_tail}
use Rattle.fields.specs.Standing.{Stands}
use Rattle.constraints.specs.declared.method.Line.{Line}
use Rattle.std.specs.Prelude.{Ok, Err}
use Rattle.rows.specs.Rows.{in_row}
use Rattle.parts.specs.Spans.{spans_in}
use Rattle.parts.specs.Tests.{Tested}
use Rattle.constraints.specs.Methods.{kept_as, ConstraintsHere, meant, Says}

abbrev decide : Holds → (Part → Span) → ℕ → ℕ → Constraint → List Constraint → Bool → Option Answer
decide holds at line number d ds b = elim b [ true ↦ first_broken_of holds at line (number + 1) ds | false ↦ some (broken_at line number d) ]

-- The tests of one node, by its line and span and the lists: of all the constraints, those that are left stand at a place.
pub record Testing (fields : List ℕ) (at count line : ℕ) (own : Span) (held : ℕ) (words work : List ℕ) (number : ℕ) (all : List Constraint) : Type 0 where
  pub left : List Constraint
  pub stand : Stands fields at (lines_fields (map constraint_line left))
  pub most : number + length left ≡ count
  pub inside : Each (Tested work held own) all → Each (Tested work held own) left
  pub same : first_broken_of (in_row words) (span_of_part own (spans_in work)) line 0 all
      ≡ first_broken_of (in_row words) (span_of_part own (spans_in work)) line number left

pub testing_starts : {fields : List ℕ} {at count : ℕ} (line : ℕ) (own : Span) (held : ℕ) (words work : List ℕ) {all : List Constraint}
    → ConstraintsHere fields at count all → Testing fields at count line own held words work 0 all
testing_starts line own held words work {all} h =
    let e = h.counted in
    record { left = all; stand = h.here; most = omega arith; inside = λ f. f; same = refl }

module _ {fields : List ℕ} {at count line : ℕ} {own : Span} {held : ℕ} {words work : List ℕ} {number : ℕ} {all : List Constraint}
    (p : Testing fields at count line own held words work number all) where
  abbrev first_from : ℕ → List Constraint → Option Answer
  first_from i ds = first_broken_of (in_row words) (span_of_part own (spans_in work)) line i ds

  pub testing_ends : count ≤ number → Ok tt ≡ kept_as (first_from 0 all)
  testing_ends m = sym (ap kept_as (p.same ∙ go p.left p.most))
    where
      go : (ds : List Constraint) → number + length ds ≡ count → first_from number ds ≡ first_from number []
      go [] e = refl
      go (d ∷ ds) e = absurd (omega arith)

  -- The constraint that is due, and those after it.
  pub record Due : Type 0 where
    pub this : Constraint
    pub later : List Constraint
    pub lefts : p.left ≡ this ∷ later
    pub stands : Stands fields at (lines_fields (map constraint_line (this ∷ later)))

  pub due : number < count → Due
  due more = go p.left refl
    where
      go : (ds : List Constraint) → p.left ≡ ds → Due
      go [] e = let l = ap length e in let m = p.most in absurd (omega arith)
      go (d ∷ ds) e = record {
        this = d;
        later = ds;
        lefts = e;
        stands = subst (λ (l : List Constraint). Stands fields at (lines_fields (map constraint_line l))) e p.stand;
      }

  -- The code has its line.
  module _ (x : Due) {y : Line} (says : Says fields y x.this x.later) where
    opened : Each (Tested work held own) all → Each (Tested work held own) (x.this ∷ x.later)
    opened f = subst (λ (ds : List Constraint). Each (Tested work held own) ds) x.lefts (p.inside f)

    pub tested_here : Each (Tested work held own) all → Tested work held own (meant y)
    tested_here f = subst (Tested work held own) (sym says.means) (opened f x.this (here refl))

    goes : {r b : Bool} → r ≡ keeps (in_row words) (span_of_part own (spans_in work)) (meant y) → r ≡ b
        → first_from 0 all ≡ decide (in_row words) (span_of_part own (spans_in work)) line number x.this x.later b
    goes k e =
        p.same ∙ ap (first_from number) x.lefts
        ∙ ap (decide (in_row words) (span_of_part own (spans_in work)) line number x.this x.later)
        (ap (keeps (in_row words) (span_of_part own (spans_in work))) (sym says.means) ∙ sym k ∙ e)

    pub testing_breaks : {r : Bool} {answer : Answer} → r ≡ keeps (in_row words) (span_of_part own (spans_in work)) (meant y) → r ≡ false
        → answer ≡ broken_at line number (meant y) → Err answer ≡ kept_as (first_from 0 all)
    testing_breaks k b e = ap Err (e ∙ ap (broken_at line number) says.means) ∙ sym (ap kept_as (goes k b))

    pub testing_goes_on : {r : Bool} → r ≡ keeps (in_row words) (span_of_part own (spans_in work)) (meant y) → r ≡ true
        → Testing fields y.next count line own held words work (number + 1) all
    testing_goes_on k b = record {
      left = x.later;
      stand = says.later;
      most = let e = ap length x.lefts in let m = p.most in omega arith;
      inside = λ f. each_tail (Tested work held own) x.this x.later (opened f);
      same = goes k b;
    }
