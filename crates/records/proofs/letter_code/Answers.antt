-- `letter_code`: each arm of the match is a clause. Assumes nothing.
use Prim.Native.Nat.{ℕ}
use Rattle.records.specs.Records.{letter_code}
use Rattle.rules.specs.Index.{at}
use Rattle.rules.specs.Case.{NodeLine, D, E, L, node_of}
use Rattle.rules.specs.Verdict.{node_record}
use borrow.Author.Tests.{ne_eqb}
use native.Mathlib.Omega.{arith}
use lib.Dec.{eqb}
use mathlib.Core.Bool.{Bool, true, false}
use mathlib.Core.Path.{◌≡◌, sym, ap, ◌∙◌}
use Rattle.records.proofs.letter_code.Goals as goal

-- The code by the tests of the letter.
abbrev by_tests : Bool → Bool → ℕ
by_tests d e =
    (node_record (elim d as (λ x. NodeLine) [ true ↦ D 0 | false ↦ elim e as (λ x. NodeLine) [ true ↦ E 0 0 | false ↦ L 0 0 ] ]) (at 0)).letter

-- A letter that is neither D nor E is a leaf's.
code_leaf : (l : ℕ) → (l ≡ 68 → ⊥) → (l ≡ 69 → ⊥) → 3 ≡ letter_code l
unfolding letter_code node_of node_record
code_leaf l d e = sym (ap (λ (b : Bool). by_tests b (eqb l 69)) (ne_eqb l 68 d) ∙ ap (by_tests false) (ne_eqb l 69 e))

pub returns-in-68 : goal.returns-in-68
unfolding letter_code node_of node_record
returns-in-68 c = rw c.in-68.is

pub returns-in-69 : goal.returns-in-69
unfolding letter_code node_of node_record
returns-in-69 c = rw c.in-69.is

pub returns-in_default : goal.returns-in_default
returns-in_default c = code_leaf c.args.letter (omega arith) (omega arith)
