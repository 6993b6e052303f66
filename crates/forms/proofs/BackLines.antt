-- A line after the root line, by what it says: what reading from it on gives; and how many subtasks a named method has. Assumes nothing.
use mathlib.Core.Path.{◌≡◌, refl, sym, ap, ◌∙◌}
use mathlib.Core.Bool.{Bool, true, false}
use mathlib.Core.List.{List, []}
use mathlib.Core.Option.{Option, none, some}
use Prim.Native.Nat.{ℕ, zero, suc, ◌+◌, ◌≤◌, ◌<◌}
use native.Mathlib.Omega.{arith}
use borrow.Author.Tests.{eqb-true}
use lib.Dec.{eqb}
use lib.ListN.{length}
use Rattle.rules.specs.declared.Answer.{Answer}
use Rattle.rules.specs.declared.Answer.TheVariants.{WrongShape, WrongName}
use Rattle.rules.specs.Result.{Result, found, refused, ◌>>=◌}
use Rattle.rules.specs.Case.{method_at, Case, Read}
use Rattle.rules.specs.Naming.{Names, listed_at}
use Rattle.rules.specs.Form.{Back, a_compound, the_end, FormLine, task_line, used_as, suits, compound_named, method_named, both_named, back_line, on_back, with_task, back_lines}
use Rattle.text.proofs.Scan.{and_right}
use Rattle.shapes.proofs.Words.{apart}
use Rattle.forms.specs.Held.{MethodsHere}

module _ (k : Case) (ns : Names) (text : List ℕ) (n at : ℕ) where
  -- What reading goes on to, with so many lines left.
  abbrev goes_on : ℕ → Read Back → Read (List FormLine)
  goes_on zero r = r >>= λ (back, n', place'). on_back back (λ id name method subtasks. refused (WrongShape n 0)) (found ([], n', place'))
  goes_on (suc left) r =
      r >>= λ (back, n', place').
      on_back back
      (λ id name method subtasks. both_named k ns n name method subtasks >>= λ m. with_task (task_line n id m subtasks) (back_lines k ns text left n' place'))
      (found ([], n', place'))

  pub back_other : (left : ℕ) → back_line text n at ≡ refused (WrongShape n 0) → back_lines k ns text left n at ≡ refused (WrongShape n 0)
  back_other zero h = ap (goes_on zero) h
  back_other (suc left) h = ap (goes_on (suc left)) h

  pub back_end : (left next : ℕ) → back_line text n at ≡ found (the_end, n + 1, next) → back_lines k ns text left n at ≡ found ([], n + 1, next)
  back_end zero next h = ap (goes_on zero) h
  back_end (suc left) next h = ap (goes_on (suc left)) h

  module _ (id next : ℕ) (name method subtasks : List ℕ) (h : back_line text n at ≡ found (a_compound id name method subtasks, n + 1, next)) where
    -- "the 3,001st action or compound line, counted together" is surplus.
    pub back_surplus : (left : ℕ) → left ≡ 0 → back_lines k ns text left n at ≡ refused (WrongShape n 0)
    back_surplus zero e = ap (goes_on zero) h
    back_surplus (suc left) e = absurd (omega arith)

    abbrev taken : ℕ → Result ℕ → Read (List FormLine)
    taken left r = r >>= λ m. with_task (task_line n id m subtasks) (back_lines k ns text left (n + 1) next)

    pub back_unnamed : (left : ℕ) (a : Answer) → 1 ≤ left → both_named k ns n name method subtasks ≡ refused a → back_lines k ns text left n at ≡ refused a
    back_unnamed zero a l e = absurd (omega arith)
    back_unnamed (suc left) a l e = ap (goes_on (suc left)) h ∙ ap (taken left) e

    pub back_taken : (left m : ℕ) → both_named k ns n name method subtasks ≡ found m
        → back_lines k ns text (suc left) n at ≡ with_task (task_line n id m subtasks) (back_lines k ns text left (n + 1) next)
    back_taken left m e = ap (goes_on (suc left)) h ∙ ap (taken left) e

-- A name that is found serves.
served : (serves : ℕ → Bool) (n : ℕ) (o : Option ℕ) (m : ℕ) → used_as serves n o ≡ found m → serves m ≡ true
served serves n none m e = apart (cc)
served serves n (some i) m e = go (serves i) refl e
  where
    go : (b : Bool) → serves i ≡ b → elim b as (λ z. Result ℕ) [ true ↦ found i | false ↦ refused (WrongName n 0) ] ≡ found m → serves m ≡ true
    go true q f = let w : i ≡ m = cc in ap serves (sym w) ∙ q
    go false q f = apart (cc)

-- The subtasks on a compound line are as many as its method's.
pub few_subtasks : (k : Case) (ns : Names) (fields directory : List ℕ) → MethodsHere k fields directory → (n m : ℕ) (name method subtasks : List ℕ)
    → both_named k ns n name method subtasks ≡ found m → m < k.head.methods → length subtasks ≤ 32
unfolding both_named method_named suits
few_subtasks k ns fields directory here n m name method subtasks e low = by_task (compound_named k ns n name) e
  where
    by_task : (r : Result ℕ) → (r >>= λ t. method_named k ns n t method subtasks) ≡ found m → length subtasks ≤ 32
    by_task (found t) f =
        let s = served (λ i. suits (method_at k.methods i) t (length subtasks)) n (listed_at ns.methods method) m f in
        let same : length (method_at k.methods m).subtasks ≡ length subtasks = eqb-true _ _ (and_right (eqb (method_at k.methods m).task t) (eqb (length (method_at k.methods m).subtasks) (length subtasks)) s) in
        omega (arith, here.few m low)
    by_task (refused a) f = apart (cc)
