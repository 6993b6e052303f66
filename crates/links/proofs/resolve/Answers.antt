-- `links::resolve` meets its contract: line by line, after the action lines, which have no links. Assumes nothing.
use mathlib.Core.Path.{◌≡◌, subst, ◌∙◌}
use mathlib.Core.List.{◌++◌}
use Prim.Native.Nat.{ℕ, ◌<◌}
use native.Mathlib.Omega.{arith}
use lib.ListN.{get_or, drop, get_or-append}
use lib.Seq.{length-take-le, length_front}
use Rattle.rules.specs.Form.{uses}
use Rattle.links.specs.Links.{line_at}
use Rattle.links.specs.Steps.{Tallied}
use Rattle.links.proofs.Written.{lines_written}
use Rattle.links.proofs.Resolving.{resolving_begins, resolving_few, resolving_room, resolving_next, resolved}
use Rattle.links.proofs.resolve.Goals as goal

pub loop-e-init : goal.loop-e-init
loop-e-init c =
    let k = c.clear in
    let a = c.args in
    let r = c.requires in
    let whole = length-take-le a.cues a.starts.now (omega (arith, r.by_index.2.few, r.by_index.4, r.count_in_bounds.1)) in
    let zeros : (d : ℕ) → d < a.cues → get_or (k.new.slots ++ drop a.cues a.starts.now) d 0 ≡ 0 =
    λ d h. get_or-append k.new.slots (drop a.cues a.starts.now) 0 d (omega (arith, k.auto.slots)) ∙ k.ensures d in
    λ es w. resolving_begins w (k.new.slots ++ drop a.cues a.starts.now) a.links.now a.used.now zeros r.by_index_2.0 r.by_index_2.1

pub overflow_cast-starts : goal.overflow_cast-starts
overflow_cast-starts c =
    let r = c.requires.by_index in
    let few = resolving_few (lines_written r.2 r.3 r.4) (c.loop-e.invariant r.0 (lines_written r.2 r.3 r.4)) in
    omega (arith, few)

pub link_line-row-requires-clause-by_index : goal.link_line-row-requires-clause-by_index
link_line-row-requires-clause-by_index c =
    let l = c.loop-e in
    let r = c.requires.by_index in
    let w = lines_written r.2 r.3 r.4 in
    let g = l.invariant r.0 w in
    let fits = resolving_room w g c.loop-e-test.true in
    let most = w.most in (
      uses (line_at r.0 l.e),
      w.spelled l.e g.past (omega (arith, w.size, c.loop-e-test.true)),
      omega arith,
      omega (arith, l.auto.links, c.requires.count_in_bounds.2),
    )

pub link_line-row-requires-clause-count_bound : goal.link_line-row-requires-clause-count_bound
link_line-row-requires-clause-count_bound c =
    let l = c.loop-e in
    let r = c.requires.by_index in
    let w = lines_written r.2 r.3 r.4 in
    let g = l.invariant r.0 w in (
      w.most,
      omega (arith, l.auto.used, c.requires.count_in_bounds.3),
      subst (λ (m : ℕ). Tallied m l.n l.links l.used) w.size g.tallied,
    )

pub loop-e-preserved : goal.loop-e-preserved
loop-e-preserved c =
    let k = c.link_line-row in
    let l = c.loop-e in
    let same = l.auto.starts ∙ length_front c.args.starts.now c.clear.new.slots c.args.cues c.clear.auto.slots in
    λ es w. let g = l.invariant es w in
    resolving_next w g c.loop-e-test.true
    (k.ensures.stored (uses (line_at es l.e)) (w.spelled l.e g.past (omega (arith, w.size, c.loop-e-test.true))))
    (omega (arith, c.loop-e-test.true, same, c.requires.count_in_bounds.1)) k.ensures.tallied c.first_wrong-wrong.ensures

pub overflow_cast-starts-2 : goal.overflow_cast-starts-2
overflow_cast-starts-2 c =
    let r = c.requires.by_index in
    let few = resolving_few (lines_written r.2 r.3 r.4) (c.loop-e.invariant r.0 (lines_written r.2 r.3 r.4)) in
    omega (arith, few)

pub returns-clause-resolved : goal.returns-clause-resolved
returns-clause-resolved c =
    let l = c.loop-e in
    let same = l.auto.starts ∙ length_front c.args.starts.now c.clear.new.slots c.args.cues c.clear.auto.slots in
    λ es labels lines spelled size.
    let w = lines_written lines spelled size in
    resolved w (l.invariant es w) c.loop-e-test.false (omega (arith, same, c.requires.count_in_bounds.1))
