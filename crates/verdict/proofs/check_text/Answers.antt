-- The lists are as long as asked. Assumes nothing.
use Rattle.std.proofs.Common.{◌≡◌, ℕ, List, length, replicate, ap, subst, ◌∙◌}
use Rattle.std.proofs.Math.ListN.{length-replicate}
use Rattle.rules.specs.declared.Node.{Node}
use Rattle.rules.specs.State.{word_count}
use Rattle.rules.specs.Verdict.{Lent, state_need, node_need, work_need, reported, answer_of, check, check_lists}
use Rattle.rules.specs.Demands.{lent_by, borrowed, as_asked, Demand2, Demand3}
use Rattle.verdict.proofs.check_text.Goals as goal

-- lists of these lengths are the lists that are asked
enough : (x : Node) → lent_by (borrowed (replicate {A = ℕ} state_need 0) (replicate {A = Node} node_need x) (replicate {A = ℕ} work_need 0)) ≡ as_asked
unfolding lent_by as_asked
enough x =
    ap (λ (s : ℕ). check_lists s (length (replicate {A = Node} node_need x)) (length (replicate {A = ℕ} work_need 0))) (length-replicate state_need 0)
    ∙ (ap (λ (n : ℕ). check_lists state_need n (length (replicate {A = ℕ} work_need 0))) (length-replicate node_need x)
    ∙ ap (λ (w : ℕ). check_lists state_need node_need w) (length-replicate work_need 0))

abbrev zero_node : Node
zero_node = record { letter = 0; label = 0; place = 0; start = 0; end = 0 }

pub returns-clause-answer : goal.returns-clause-answer
unfolding state_need node_need work_need word_count
returns-clause-answer c =
    c.check.ensures.demand1.answer ∙ ap (λ (l : List Lent). reported (answer_of (check l c.args.text.now))) (enough zero_node)

pub returns-clause-demand2 : goal.returns-clause-demand2
unfolding state_need node_need work_need word_count
returns-clause-demand2 c = subst (λ (l : List Lent). Demand2 c.args.text.now l (reported c.check.result)) (enough zero_node) c.check.ensures.demand2

pub returns-clause-demand3 : goal.returns-clause-demand3
unfolding state_need node_need work_need word_count
returns-clause-demand3 c = subst (λ (l : List Lent). Demand3 c.args.text.now l (reported c.check.result)) (enough zero_node) c.check.ensures.demand3
