-- `entry_of`: the letter picks the parts (Letters). Assumes nothing.
use Rattle.entering.proofs.Letters.{entry_W, entry_F, entry_B, entry_O}
use Rattle.constraints.specs.declared.method.Line.{Line}
use Rattle.constraints.specs.Methods.{meant}
use Rattle.entering.specs.declared.sums.Part.{Part}
use Rattle.entering.specs.Lines.{InSums, entry_from, no_part}
use Rattle.parts.proofs.Letters.{numbered_O}
use Rattle.rules.specs.Case.{is_either}
use Prim.Native.Nat.{◌<◌}
use mathlib.Core.Bool.{false}
use mathlib.Core.Path.{◌≡◌, sym, ap, ap₂, subst, ◌∙◌}
use native.Mathlib.Omega.{arith}
use Rattle.entering.proofs.lines.entry_of.Goals as goal

-- The subtasks that O names are among 32.
named : (d : Line) → InSums (meant d) → is_either d.letter 87 119 ≡ false → is_either d.letter 70 102 ≡ false → is_either d.letter 66 98 ≡ false
    → (d.first < 32) × (d.second < 32)
named d sums w f b = subst InSums (numbered_O d.letter d.first d.second d.third w f b) sums

pub returns-then-is_either : goal.returns-then-is_either
returns-then-is_either c =
    let a = c.args in
    ap₂ (entry_from a.d a.d.second) c.part_of_set-u.ensures c.part_of_set-v.ensures
    ∙ sym (entry_W a.d a.own a.sums.now (sym c.is_either.ensures ∙ c.if-is_either.true))

pub returns-then-is_either-2 : goal.returns-then-is_either-2
returns-then-is_either-2 c =
    let a = c.args in
    ap (λ (u : Part). entry_from a.d a.d.first u no_part) c.part_of_set-u-then-is_either-2.ensures
    ∙ sym (entry_F a.d a.own a.sums.now (sym c.is_either.ensures ∙ c.if-is_either.false) (sym c.is_either-2.ensures ∙ c.if-is_either-2.true))

pub returns-then-is_either-3 : goal.returns-then-is_either-3
returns-then-is_either-3 c =
    let a = c.args in
    ap (entry_from a.d a.d.first no_part) c.part_of_set-u-then-is_either-3.ensures
    ∙ sym (entry_B a.d a.own a.sums.now (sym c.is_either.ensures ∙ c.if-is_either.false) (sym c.is_either-2.ensures ∙ c.if-is_either-2.false)
    (sym c.is_either-3.ensures ∙ c.if-is_either-3.true))

pub bounds-sums-d : goal.bounds-sums-d
bounds-sums-d c =
    let n = named c.args.d c.requires (sym c.is_either.ensures ∙ c.if-is_either.false) (sym c.is_either-2.ensures ∙ c.if-is_either-2.false)
    (sym c.is_either-3.ensures ∙ c.if-is_either-3.false) in
    omega (arith, n.0)

pub bounds-sums-d-2 : goal.bounds-sums-d-2
bounds-sums-d-2 c =
    let n = named c.args.d c.requires (sym c.is_either.ensures ∙ c.if-is_either.false) (sym c.is_either-2.ensures ∙ c.if-is_either-2.false)
    (sym c.is_either-3.ensures ∙ c.if-is_either-3.false) in
    omega (arith, n.1)

pub returns : goal.returns
returns c =
    let a = c.args in
    sym (entry_O a.d a.own a.sums.now (sym c.is_either.ensures ∙ c.if-is_either.false) (sym c.is_either-2.ensures ∙ c.if-is_either-2.false)
    (sym c.is_either-3.ensures ∙ c.if-is_either-3.false))
