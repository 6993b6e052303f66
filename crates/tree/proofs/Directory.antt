-- What a phase keeps of the work space serves the next: a directory that is the same finds the same lines. Assumes nothing.
use mathlib.Core.Path.{◌≡◌, sym, ap, subst, ◌∙◌}
use mathlib.Core.List.{List}
use Prim.Native.Nat.{ℕ, ◌+◌, ◌<◌}
use native.Mathlib.Omega.{arith}
use lib.ListN.{get_or}
use lib.Seq.{get_or-take}
use Rattle.rules.specs.State.{action_at}
use Rattle.rules.specs.Case.{Case, method_at}
use Rattle.rules.specs.Fields.{line_fields, lines_fields, action_line, method_lines}
use Rattle.rules.proofs.Judgement.Sound.{GoodHeader}
use Rattle.fields.specs.Standing.{Stands}
use Rattle.fields.specs.Directory.{Finds, methods_from}
use Rattle.tree.specs.Layout.{marks_from, directory_of}

-- A work space with the directory of another finds the same lines.
pub finds_kept : (k : Case) (fields w v : List ℕ) (initial plan nodes : ℕ) → GoodHeader k.head → directory_of v ≡ directory_of w
    → Finds k fields w initial plan nodes → Finds k fields v initial plan nodes
unfolding marks_from methods_from
finds_kept k fields w v initial plan nodes good e f =
    let few = good.few_actions in
    let some = good.few_methods in
    record {
      initial_here = f.initial_here;
      action_here = λ a h. there (line_fields (action_line (action_at k.actions a))) a (omega arith) (f.action_here a h);
      method_here = λ m h. there (lines_fields (method_lines (method_at k.methods m))) (1024 + m) (omega arith) (f.method_here m h);
      plan_here = f.plan_here;
      nodes_here = f.nodes_here;
    }
  where
    there : (xs : List ℕ) (i : ℕ) → i < 3072 → Stands fields (get_or w i 0) xs → Stands fields (get_or v i 0) xs
    there xs i h =
        let same : get_or w i 0 ≡ get_or v i 0 = sym (get_or-take 3072 w i 0 h) ∙ ap (λ (l : List ℕ). get_or l i 0) (sym e) ∙ get_or-take 3072 v i 0 h in
        subst (λ (place : ℕ). Stands fields place xs) same
