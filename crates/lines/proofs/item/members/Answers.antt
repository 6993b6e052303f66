-- `members`: what the members from here on leave, after those read so far, is what all of them leave. Assumes nothing.
use Rattle.std.proofs.lemmas.Result.{err_from_is_err_and}
use Rattle.lines.proofs.Items.{room_here, room_next, members_more, members_refused}
use Rattle.lines.specs.Reading.{in_kind, Room, MembersLeft}
use Rattle.rules.specs.Table.{read_members}
use Prim.Native.Nat.{ℕ, suc, ◌+◌, ◌-◌}
use lib.Dec.{eqb, leb}
use lib.ListN.{set, length-set}
use mathlib.Core.Bool.{Bool, ◌&&◌}
use mathlib.Core.Path.{◌≡◌, sym, ◌∙◌, subst}
use native.Mathlib.Omega.{arith}
use Rattle.lines.proofs.item.members.Goals as goal

pub bounds-fields-from : goal.bounds-fields-from
bounds-fields-from c =
    let a = c.args in
    let l = c.loop-i in
    room_here a.text.now l.fields (a.from + l.i) l.at.at (λ w. leb l.low w && in_kind a.x.now.numbers a.before.now a.kind w) (a.field + l.i) c.in_ok-member.member l.invariant.1
    (sym c.in_ok-member.was ∙ c.take_number.ensures)

pub loop-i-preserved : goal.loop-i-preserved
loop-i-preserved c =
    let a = c.args in
    let l = c.loop-i in
    let m = c.in_ok-member.member in
    let ok : ℕ → Bool = in_kind a.x.now.numbers a.before.now a.kind in
    let took = sym c.in_ok-member.was ∙ c.take_number.ensures in
    let left : a.count - l.i ≡ suc (a.count - (l.i + 1)) = omega arith in
    let next : a.field + (l.i + 1) ≡ a.field + l.i + 1 = omega arith in
    let put : a.from + (l.i + 1) ≡ a.from + l.i + 1 = omega arith in (
      length-set l.fields (a.from + l.i) m.value ∙ l.invariant.0,
      subst (λ (k : ℕ). Room a.text.now (set l.fields (a.from + l.i) m.value) k m.next.at) (sym put)
          (room_next a.text.now l.fields (a.from + l.i) l.at.at (λ w. leb l.low w && ok w) (a.field + l.i) m l.invariant.1 took
          (set l.fields (a.from + l.i) m.value) (length-set l.fields (a.from + l.i) m.value)),
      λ r u h.
          l.invariant.2 r u
          (members_more a.text.now ok (eqb a.kind 11) l.i (a.from + l.i) l.fields (a.count - l.i) (a.count - (l.i + 1)) l.low (a.field + l.i)
          l.at.at left m took c.least_after-low.ensures next r u
          (subst (λ (k : ℕ). MembersLeft (l.i + 1) k (set l.fields (a.from + l.i) m.value) (read_members a.text.now ok (eqb a.kind 11) (a.count - (l.i + 1)) c.least_after-low.result (a.field + (l.i + 1)) m.next.at) r u) put h)),
    )

pub returns-in_err-member : goal.returns-in_err-member
returns-in_err-member c =
    let a = c.args in
    let l = c.loop-i in
    let p = err_from_is_err_and c.from_residual.result c.from_residual.ensures.1 in
    rw (p.1, p.2)
    (l.invariant.2 _ _
    (members_refused a.text.now (in_kind a.x.now.numbers a.before.now a.kind) (eqb a.kind 11) l.i (a.from + l.i) l.fields (a.count - l.i) (a.count - (l.i + 1))
    l.low (a.field + l.i) l.at.at (omega arith) _ l.fields (sym c.in_err-member.was ∙ c.take_number.ensures)))
