-- `body`: group by group, each left as the next is due (Bodies). Assumes nothing.
use Rattle.std.proofs.lemmas.Result.{err_from_is_err_and}
use Rattle.reading.proofs.Bodies.{after1, after2, after3, after4, refused1, refused2, refused3, refused4, refused5, body_left}
use Rattle.fields.specs.Directory.{directory_size}
use Prim.Native.Nat.{ℕ, ◌≤◌}
use mathlib.Core.Path.{refl, sym, subst}
use mathlib.Core.List.{List}
use lib.ListN.{get_or}
use Rattle.lines.specs.Ranges.{known_of}
use Rattle.reading.specs.Groups.{NoSubtasks}
use Rattle.reading.proofs.body.Goals as goal

pub returns-in_err-action : goal.returns-in_err-action
returns-in_err-action c =
    let a = c.args in
    let r₁ = c.one_line in
    let x = c.in_err-action in
    let p = err_from_is_err_and c.from_residual.result c.from_residual.ensures.1 in
    rw (p.1, p.2)
    (refused1 a.text.now a.header a.past a.first a.fields.now a.directory.now c.requires.good_header.0 c.requires.due c.known-known.result.numbers c.known-known.ensures r₁.result _ r₁.ensures x.field-0.0 x.was _ _)

pub actions-requires-clause-due : goal.actions-requires-clause-due
actions-requires-clause-due c =
    let a = c.args in
    let r₁ = c.one_line in
    let n₁ = c.in_ok-action in
    let b₁ = after1 a.text.now a.header a.past a.first a.fields.now a.directory.now c.requires.good_header.0 c.requires.due c.known-known.result.numbers c.known-known.ensures r₁.result _ r₁.ensures n₁.action n₁.was in
    b₁.next

pub actions-requires-clause-x_bound : goal.actions-requires-clause-x_bound
unfolding known_of
actions-requires-clause-x_bound c = (subst (λ (x : List ℕ). get_or x 1 0 ≤ 1024) (sym c.known-known.ensures) c.requires.good_header.0.few_actions, c.requires.good_header.1)

pub returns-in_err-method : goal.returns-in_err-method
returns-in_err-method c =
    let a = c.args in
    let r₁ = c.one_line in
    let n₁ = c.in_ok-action in
    let b₁ = after1 a.text.now a.header a.past a.first a.fields.now a.directory.now c.requires.good_header.0 c.requires.due c.known-known.result.numbers c.known-known.ensures r₁.result _ r₁.ensures n₁.action n₁.was in
    let r₂ = c.actions in
    let x = c.in_err-method in
    let p = err_from_is_err_and c.from_residual-in_err-method.result c.from_residual-in_err-method.ensures.1 in
    rw (p.1, p.2)
    (refused2 a.text.now a.header a.past a.first a.fields.now a.directory.now c.requires.good_header.0 c.requires.due c.known-known.result.numbers c.known-known.ensures n₁.action _ b₁ r₂.result _ _ r₂.ensures.left r₂.ensures.placed x.field-0.0 x.was _ _)

pub methods-requires-clause-due : goal.methods-requires-clause-due
methods-requires-clause-due c =
    let a = c.args in
    let r₁ = c.one_line in
    let n₁ = c.in_ok-action in
    let b₁ = after1 a.text.now a.header a.past a.first a.fields.now a.directory.now c.requires.good_header.0 c.requires.due c.known-known.result.numbers c.known-known.ensures r₁.result _ r₁.ensures n₁.action n₁.was in
    let r₂ = c.actions in
    let n₂ = c.in_ok-method in
    let b₂ = after2 a.text.now a.header a.past a.first a.fields.now a.directory.now c.requires.good_header.0 c.requires.due c.known-known.result.numbers c.known-known.ensures n₁.action _ b₁ r₂.result _ _ r₂.ensures.left r₂.ensures.placed n₂.method n₂.was in
    b₂.next

pub methods-requires-clause-x_bound : goal.methods-requires-clause-x_bound
unfolding known_of
methods-requires-clause-x_bound c =
    let few = subst (λ (x : List ℕ). get_or x 3 0 ≤ 2048) (sym c.known-known.ensures) c.requires.good_header.0.few_methods in
    let none = subst NoSubtasks (sym c.known-known.ensures) refl in
    let long = subst (λ (k : ℕ). directory_size ≤ k) (sym c.actions.auto.directory) c.requires.good_header.1 in
    (few, long, none)

pub returns-in_err-plan : goal.returns-in_err-plan
returns-in_err-plan c =
    let a = c.args in
    let r₁ = c.one_line in
    let n₁ = c.in_ok-action in
    let b₁ = after1 a.text.now a.header a.past a.first a.fields.now a.directory.now c.requires.good_header.0 c.requires.due c.known-known.result.numbers c.known-known.ensures r₁.result _ r₁.ensures n₁.action n₁.was in
    let r₂ = c.actions in
    let n₂ = c.in_ok-method in
    let b₂ = after2 a.text.now a.header a.past a.first a.fields.now a.directory.now c.requires.good_header.0 c.requires.due c.known-known.result.numbers c.known-known.ensures n₁.action _ b₁ r₂.result _ _ r₂.ensures.left r₂.ensures.placed n₂.method n₂.was in
    let r₃ = c.methods in
    let x = c.in_err-plan in
    let p = err_from_is_err_and c.from_residual-in_err-plan.result c.from_residual-in_err-plan.ensures.1 in
    rw (p.1, p.2)
    (refused3 a.text.now a.header a.past a.first a.fields.now a.directory.now c.requires.good_header.0 c.requires.due c.known-known.result.numbers c.known-known.ensures n₂.method _ _ b₂ r₃.result _ _ r₃.ensures.left r₃.ensures.placed x.field-0.0 x.was _ _)

pub one_line-requires-2 : goal.one_line-requires-2
one_line-requires-2 c =
    let a = c.args in
    let r₁ = c.one_line in
    let n₁ = c.in_ok-action in
    let b₁ = after1 a.text.now a.header a.past a.first a.fields.now a.directory.now c.requires.good_header.0 c.requires.due c.known-known.result.numbers c.known-known.ensures r₁.result _ r₁.ensures n₁.action n₁.was in
    let r₂ = c.actions in
    let n₂ = c.in_ok-method in
    let b₂ = after2 a.text.now a.header a.past a.first a.fields.now a.directory.now c.requires.good_header.0 c.requires.due c.known-known.result.numbers c.known-known.ensures n₁.action _ b₁ r₂.result _ _ r₂.ensures.left r₂.ensures.placed n₂.method n₂.was in
    let r₃ = c.methods in
    let n₃ = c.in_ok-plan in
    let b₃ = after3 a.text.now a.header a.past a.first a.fields.now a.directory.now c.requires.good_header.0 c.requires.due c.known-known.result.numbers c.known-known.ensures n₂.method _ _ b₂ r₃.result _ _ r₃.ensures.left r₃.ensures.placed n₃.plan n₃.was in
    record {
      due = b₃.next;
    }

pub returns-in_err-node : goal.returns-in_err-node
returns-in_err-node c =
    let a = c.args in
    let r₁ = c.one_line in
    let n₁ = c.in_ok-action in
    let b₁ = after1 a.text.now a.header a.past a.first a.fields.now a.directory.now c.requires.good_header.0 c.requires.due c.known-known.result.numbers c.known-known.ensures r₁.result _ r₁.ensures n₁.action n₁.was in
    let r₂ = c.actions in
    let n₂ = c.in_ok-method in
    let b₂ = after2 a.text.now a.header a.past a.first a.fields.now a.directory.now c.requires.good_header.0 c.requires.due c.known-known.result.numbers c.known-known.ensures n₁.action _ b₁ r₂.result _ _ r₂.ensures.left r₂.ensures.placed n₂.method n₂.was in
    let r₃ = c.methods in
    let n₃ = c.in_ok-plan in
    let b₃ = after3 a.text.now a.header a.past a.first a.fields.now a.directory.now c.requires.good_header.0 c.requires.due c.known-known.result.numbers c.known-known.ensures n₂.method _ _ b₂ r₃.result _ _ r₃.ensures.left r₃.ensures.placed n₃.plan n₃.was in
    let r₄ = c.one_line-2 in
    let x = c.in_err-node in
    let p = err_from_is_err_and c.from_residual-in_err-node.result c.from_residual-in_err-node.ensures.1 in
    rw (p.1, p.2)
    (refused4 a.text.now a.header a.past a.first a.fields.now a.directory.now c.requires.good_header.0 c.requires.due c.known-known.result.numbers c.known-known.ensures n₃.plan _ _ b₃ r₄.result _ r₄.ensures x.field-0.0 x.was _ _)

pub lines_of-requires : goal.lines_of-requires
lines_of-requires c =
    let a = c.args in
    let r₁ = c.one_line in
    let n₁ = c.in_ok-action in
    let b₁ = after1 a.text.now a.header a.past a.first a.fields.now a.directory.now c.requires.good_header.0 c.requires.due c.known-known.result.numbers c.known-known.ensures r₁.result _ r₁.ensures n₁.action n₁.was in
    let r₂ = c.actions in
    let n₂ = c.in_ok-method in
    let b₂ = after2 a.text.now a.header a.past a.first a.fields.now a.directory.now c.requires.good_header.0 c.requires.due c.known-known.result.numbers c.known-known.ensures n₁.action _ b₁ r₂.result _ _ r₂.ensures.left r₂.ensures.placed n₂.method n₂.was in
    let r₃ = c.methods in
    let n₃ = c.in_ok-plan in
    let b₃ = after3 a.text.now a.header a.past a.first a.fields.now a.directory.now c.requires.good_header.0 c.requires.due c.known-known.result.numbers c.known-known.ensures n₂.method _ _ b₂ r₃.result _ _ r₃.ensures.left r₃.ensures.placed n₃.plan n₃.was in
    let r₄ = c.one_line-2 in
    let n₄ = c.in_ok-node in
    let b₄ = after4 a.text.now a.header a.past a.first a.fields.now a.directory.now c.requires.good_header.0 c.requires.due c.known-known.result.numbers c.known-known.ensures n₃.plan _ _ b₃ r₄.result _ r₄.ensures n₄.node n₄.was in
    record {
      due = b₄.next;
    }

pub returns-in_err-end : goal.returns-in_err-end
returns-in_err-end c =
    let a = c.args in
    let r₁ = c.one_line in
    let n₁ = c.in_ok-action in
    let b₁ = after1 a.text.now a.header a.past a.first a.fields.now a.directory.now c.requires.good_header.0 c.requires.due c.known-known.result.numbers c.known-known.ensures r₁.result _ r₁.ensures n₁.action n₁.was in
    let r₂ = c.actions in
    let n₂ = c.in_ok-method in
    let b₂ = after2 a.text.now a.header a.past a.first a.fields.now a.directory.now c.requires.good_header.0 c.requires.due c.known-known.result.numbers c.known-known.ensures n₁.action _ b₁ r₂.result _ _ r₂.ensures.left r₂.ensures.placed n₂.method n₂.was in
    let r₃ = c.methods in
    let n₃ = c.in_ok-plan in
    let b₃ = after3 a.text.now a.header a.past a.first a.fields.now a.directory.now c.requires.good_header.0 c.requires.due c.known-known.result.numbers c.known-known.ensures n₂.method _ _ b₂ r₃.result _ _ r₃.ensures.left r₃.ensures.placed n₃.plan n₃.was in
    let r₄ = c.one_line-2 in
    let n₄ = c.in_ok-node in
    let b₄ = after4 a.text.now a.header a.past a.first a.fields.now a.directory.now c.requires.good_header.0 c.requires.due c.known-known.result.numbers c.known-known.ensures n₃.plan _ _ b₃ r₄.result _ r₄.ensures n₄.node n₄.was in
    let r₅ = c.lines_of in
    let x = c.in_err-end in
    let p = err_from_is_err_and c.from_residual-in_err-end.result c.from_residual-in_err-end.ensures.1 in
    rw (p.1, p.2)
    (refused5 a.text.now a.header a.past a.first a.fields.now a.directory.now c.requires.good_header.0 c.requires.due c.known-known.result.numbers c.known-known.ensures n₃.plan n₄.node _ _ b₄ r₅.result _ r₅.ensures x.field-0.0 x.was _ _)

pub returns : goal.returns
returns c =
    let a = c.args in
    let r₁ = c.one_line in
    let n₁ = c.in_ok-action in
    let b₁ = after1 a.text.now a.header a.past a.first a.fields.now a.directory.now c.requires.good_header.0 c.requires.due c.known-known.result.numbers c.known-known.ensures r₁.result _ r₁.ensures n₁.action n₁.was in
    let r₂ = c.actions in
    let n₂ = c.in_ok-method in
    let b₂ = after2 a.text.now a.header a.past a.first a.fields.now a.directory.now c.requires.good_header.0 c.requires.due c.known-known.result.numbers c.known-known.ensures n₁.action _ b₁ r₂.result _ _ r₂.ensures.left r₂.ensures.placed n₂.method n₂.was in
    let r₃ = c.methods in
    let n₃ = c.in_ok-plan in
    let b₃ = after3 a.text.now a.header a.past a.first a.fields.now a.directory.now c.requires.good_header.0 c.requires.due c.known-known.result.numbers c.known-known.ensures n₂.method _ _ b₂ r₃.result _ _ r₃.ensures.left r₃.ensures.placed n₃.plan n₃.was in
    let r₄ = c.one_line-2 in
    let n₄ = c.in_ok-node in
    let b₄ = after4 a.text.now a.header a.past a.first a.fields.now a.directory.now c.requires.good_header.0 c.requires.due c.known-known.result.numbers c.known-known.ensures n₃.plan _ _ b₃ r₄.result _ r₄.ensures n₄.node n₄.was in
    let r₅ = c.lines_of in
    let n₅ = c.in_ok-end in
    body_left a.text.now a.header a.past a.first a.fields.now a.directory.now c.requires.good_header.0 c.requires.due c.known-known.result.numbers c.known-known.ensures n₃.plan n₄.node _ _ b₄ r₅.result _ r₅.ensures n₅.end n₅.was _ c.whole.ensures
