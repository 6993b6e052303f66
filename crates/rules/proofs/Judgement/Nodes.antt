-- The two tests of a node of a case that was read, beside what they stand for: it is of a task exactly if that is its own, since its method is
-- one of the case's and has a compound task; and a letter that is not right is wrong. Assumes nothing.
use mathlib.Core.Path.{◌≡◌, refl, sym, ◌∙◌, ap}
use mathlib.Core.Bool.{Bool, true, false, ◌&&◌, and-false, false≢true}
use Prim.Native.Nat.{ℕ, ◌<◌}
use native.Mathlib.Omega.{arith}
use lib.Dec.{eqb, leb, ltb}
use lib.ListN.{length}
use borrow.Author.Tests.{lt-ltb, le-leb, eqb-true, not-false}
use Rattle.rules.specs.Case.{NodeLine, D, E, L, Case, method_at, no_method}
use Rattle.rules.specs.Tree.{no_subtasks, is_method_of, of_task, right_letter}
use Rattle.rules.specs.Refusals.{own_task, LetterWrong}
use Rattle.rules.proofs.Statements.{none_iff}
use Rattle.rules.proofs.Judgement.Each.{each_at}
use Rattle.rules.proofs.Judgement.Sound.{Sound, GoodMethod, GoodNode}

and_implied : (a b : Bool) → (b ≡ true → a ≡ true) → (a && b) ≡ b
and_implied a true f = ap (λ (x : Bool). x && true) (f refl)
and_implied a false f = and-false a

module _ (k : Case) (s : Sound k) where
  method_of_task : (m t : ℕ) → m < k.head.methods → is_method_of k m t ≡ eqb (method_at k.methods m).task t
  unfolding is_method_of method_at
  method_of_task m t h =
      let room : m < length k.methods = omega (arith, s.methods_length) in
      let good : GoodMethod k.head (method_at k.methods m) = each_at (GoodMethod k.head) k.methods m no_method s.methods_good room in
      let mt = (method_at k.methods m).task in
      ap (λ (b : Bool). b && (leb k.head.actions t && eqb mt t)) (lt-ltb m (length k.methods) room)
      ∙ and_implied (leb k.head.actions t) (eqb mt t) (λ e. le-leb k.head.actions t (let q = eqb-true mt t e in let l = good.task_least in omega arith))

  pub of_task_lem : (x : NodeLine) (t : ℕ) → GoodNode k.head x → of_task k x t ≡ eqb (own_task k x) t
  unfolding of_task
  of_task_lem (D m) t h = method_of_task m t h
  of_task_lem (E m g) t h = method_of_task m t h.0
  of_task_lem (L a i) t h =
      let low = h.0 in
      and_implied (ltb t k.head.actions) (eqb a t) (λ e. lt-ltb t k.head.actions (let q = eqb-true a t e in omega arith))

pub letter_wrong : (k : Case) (x : NodeLine) → right_letter k x ≡ false → LetterWrong k x
unfolding right_letter
letter_wrong k (D m) e = (none_iff (method_at k.methods m)).0 (not-false (no_subtasks (method_at k.methods m)) e)
letter_wrong k (E m g) e = λ q. false≢true (sym e ∙ (none_iff (method_at k.methods m)).1 q)
letter_wrong k (L a i) e = false≢true (sym e)
