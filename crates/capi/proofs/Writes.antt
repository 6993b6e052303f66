-- The write call is the check and then 14: what it finds is what the check accepts, and a refusal, 14 too, comes with no records. Assumes nothing.
use mathlib.Core.Path.{refl}
use mathlib.Core.Bool.{Bool, true, false}
use mathlib.Core.List.{List}
use Prim.Native.Nat.{ℕ}
use lib.Dec.{ltb}
use lib.ListN.{length}
use Rattle.rules.specs.declared.Answer.TheVariants.{ShortOutput}
use Rattle.rules.specs.Result.{found, refused, ◌>>◌}
use Rattle.rules.specs.Case.{Case}
use Rattle.rules.specs.Tree.{Tree}
use Rattle.rules.specs.Verdict.{Found, check_lists, check, reported}
use Rattle.rules.specs.Writing.{written, output_long, write}
use Rattle.rules.proofs.Writing.Answers.{then_output}
use Rattle.verdict.proofs.Records.{Comes, check_comes}

module _ (s n w size : ℕ) (text : List ℕ) where
  by_length : (k : Case) (t : Tree) → Comes s n w text (found (k, t)) → (b : Bool)
      → Comes s n w text (◌>>◌ {A = Unit {0}} (elim b [ true ↦ refused (ShortOutput (length (written k))) | false ↦ found tt ]) (found (k, t)))
  unfolding reported
  by_length k t a true = refl
  by_length k t a false = a

  pub write_comes : Comes s n w text (write (check_lists s n w) size text)
  unfolding write output_long
  write_comes = go (check (check_lists s n w) text) (check_comes s n w text)
    where
      go : (f : Found Tree) → Comes s n w text f → Comes s n w text (then_output size f)
      go (found (k, t)) a = by_length k t a (ltb size (length (written k)))
      go (refused r) none = none
