-- The number of a node's line: the node lines follow the P line, which lies in the text, so a line's number is small. Assumes nothing.
use mathlib.Core.List.{List}
use Prim.Native.Nat.{ℕ, ◌+◌, ◌<◌}
use native.Mathlib.Omega.{arith}
use Rattle.rules.specs.declared.Header.{Header}
use Rattle.rules.specs.Case.{Case}
use Rattle.rules.specs.Tree.{Tree}
use Rattle.tree.proofs.Within.{plan_line_few}
use Rattle.constraints.proofs.Nodes.{is_sound, size_is}
use Rattle.constraints.proofs.Steps.{Going, all_nodes}

-- A node's line fits.
pub line_fits : {k : Case} {t : Tree} {fields : List ℕ} {header : Header} {plan_line nodes : ℕ} {states start work : List ℕ} {place n : ℕ}
    → Going k t fields header plan_line nodes states start work place n → n < header.nodes → plan_line + 1 + n < 1000000
line_fits {k = k} g h =
    let r = g.ready in
    let s = (is_sound r).head_good in
    let c = s.few_nodes in
    let e = plan_line_few k r.read in
    let d = r.plans in
    let f = all_nodes g in
    let z = size_is r in
    omega arith
