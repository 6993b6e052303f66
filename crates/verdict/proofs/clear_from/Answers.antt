-- A turn stores the zero record at the next place; after the last, each place from the count on has it (Written).
use Rattle.std.proofs.Common.{◌≡◌, ℕ, suc, List, ◌+◌, ◌-◌, length, set, arith, sym, ap, ◌∙◌}
use Rattle.rules.specs.declared.Node.{Node}
use Rattle.rules.specs.Verdict.{no_node}
use Rattle.verdict.proofs.Written.{written, length_written, cleared}
use Rattle.verdict.proofs.clear_from.Goals as goal

-- one turn more
stored_next : (xs ys : List Node) (count i : ℕ) → i + 1 - count ≡ suc (i - count) → count + (i - count) ≡ i
    → ys ≡ written (λ _. no_node) xs count (i - count)
    → set ys i no_node ≡ written (λ _. no_node) xs count (i + 1 - count)
stored_next xs ys count i more at e =
    ap (λ (zs : List Node). set zs i no_node) e
    ∙ (ap (λ (j : ℕ). set (written (λ _. no_node) xs count (i - count)) j no_node) (sym at)
    ∙ ap (λ (k : ℕ). written (λ _. no_node) xs count k) (sym more))

pub loop-i-preserved : goal.loop-i-preserved
unfolding no_node
loop-i-preserved c =
    let l = c.loop-i in
    (omega arith, stored_next c.args.nodes.now l.nodes c.args.count l.i (omega arith) (omega arith) l.invariant.1)

pub returns : goal.returns
returns c =
    let l = c.loop-i in
    let all : l.i - c.args.count ≡ length c.args.nodes.now - c.args.count =
    omega (arith, ap length l.invariant.1, length_written (λ _. no_node) c.args.nodes.now c.args.count (l.i - c.args.count)) in
    l.invariant.1 ∙ (ap (λ (k : ℕ). written (λ _. no_node) c.args.nodes.now c.args.count k) all ∙ cleared no_node c.args.nodes.now c.args.count)
