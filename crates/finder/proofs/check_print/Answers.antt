-- `check_print`: what is checked is the part of the output that the text was put into. Assumes nothing.
use mathlib.Core.List.{List}
use mathlib.Core.Path.{◌≡◌, sym, ap, ◌∙◌, subst}
use Prim.Native.Nat.{ℕ, ◌-◌}
use lib.ListN.{length, take, replicate}
use lib.Seq.{take_at}
use Rattle.rules.proofs.Judgement.Rows.{from_text, from_tree}
use Rattle.rules.specs.Print.{lines_text}
use Rattle.rules.specs.Verdict.{filled}
use Rattle.judge.specs.Phases.{Answers}
use Rattle.finder.proofs.check_print.Goals as goal

-- The text is what stands in so many places.
put_text_is : (size : ℕ) (text output : List ℕ) (n : ℕ) → output ≡ filled size 0 text → n ≡ length text → take n output ≡ text
unfolding filled
put_text_is size text output n e h =
    ap (take n) e ∙ take_at text (replicate (size - length text) 0) n (sym h)

pub returns : goal.returns
returns c = λ xs lines.
    let put = c.put_text-length in
    let clear = c.clear in
    let kept : length clear.new.list ≡ length c.args.states.now = clear.auto.list in
    let text = put_text_is (length c.args.output.now) (lines_text xs) put.new.out put.result (put.ensures xs lines).0 (put.ensures xs lines).1 in
    let j = c.judge_text in
    subst (λ (n : ℕ). Answers (from_text from_tree (lines_text xs)) n j.result j.new.states j.new.work) kept
    (subst (λ (l : List ℕ). Answers (from_text from_tree l) (length clear.new.list) j.result j.new.states j.new.work) text j.ensures.answers)
