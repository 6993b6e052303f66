-- What is looked at is the part of the output that the made text stands in; none was tried if it is refused. Assumes nothing.
use mathlib.Core.Path.{refl, sym, subst}
use mathlib.Core.List.{List}
use Prim.Native.Nat.{ℕ}
use lib.ListN.{length}
use Rattle.rules.specs.Verdict.{check_lists}
use Rattle.rules.specs.Gaps.{before_choices, find_gaps, Limited}
use Rattle.finder.specs.Finding.{Finds}
use Rattle.importer.proofs.Rows.{text_is, imports_none, imports_found}
use Rattle.importer.proofs.find_made.Goals as goal

pub returns-then-d-eq0 : goal.returns-then-d-eq0
returns-then-d-eq0 c = λ made o l.
    let f = c.find-d in
    let a = c.args in
    let lists = check_lists (length a.states.now) a.node_room (length a.work.now) in
    let x = subst (λ (t : List ℕ). Finds (λ n. find_gaps n lists t) (Limited (before_choices lists t)) (length a.states.now) f.result f.new.states f.new.work)
    (text_is (length a.output.now) made a.output.now a.bytes o l) f.ensures in
    let r = c.refuse.ensures in
    imports_none lists made (length a.states.now) (length a.output.now) x c.if-d-eq0.true r.0 r.1 r.2 r.3

pub returns : goal.returns
returns c = λ made o l.
    let f = c.find-d in
    let a = c.args in
    let lists = check_lists (length a.states.now) a.node_room (length a.work.now) in
    let x = subst (λ (t : List ℕ). Finds (λ n. find_gaps n lists t) (Limited (before_choices lists t)) (length a.states.now) f.result f.new.states f.new.work)
    (text_is (length a.output.now) made a.output.now a.bytes o l) f.ensures in
    imports_found lists made (length a.states.now) (length a.output.now) x c.if-d-eq0.false refl refl (sym l) o
