-- `write_text`: a refusal of the check is the call's; of an accepted case the text is put out, or the output is too short. Assumes nothing.
use Prim.Native.Nat.{ℕ}
use lib.ListN.{length, replicate}
use mathlib.Core.Path.{◌≡◌, ap, ◌∙◌, subst}
use Rattle.rules.specs.Writing.{written}
use Rattle.std.specs.Prelude.{Result}
use Rattle.rules.specs.declared.Answer.{Answer}
use Rattle.writer.specs.Writes.{PutAs}
use Rattle.writer.proofs.Verdicts.{answer_refuses, answer_finds, refused_writes, put_writes, short_writes}
use Rattle.writer.proofs.write_text.Goals as goal

pub returns-in_default : goal.returns-in_default
returns-in_default c =
    let j = c.judge_text-answer in
    let w = c.refuse.ensures in
    refused_writes (length c.args.output.now) j.ensures.answers (answer_refuses _ _ j.ensures.answers.answer c.in_default.not-Accepted) w.0 w.1 w.2

pub put_tidy-requires : goal.put_tidy-requires
put_tidy-requires c =
    let j = c.judge_text-answer in
    let (k, t, _, read, same, stands) =
    answer_finds c.args.text.now _ _ _ j.new.fields j.ensures.answers.answer c.in-Accepted.is j.ensures.fields in
    (k, read, same, stands)

pub returns-in-Ok : goal.returns-in-Ok
returns-in-Ok c =
    let j = c.judge_text-answer in
    let (k, t, e, read, same, stands) =
    answer_finds c.args.text.now _ _ _ j.new.fields j.ensures.answers.answer c.in-Accepted.is j.ensures.fields in
    put_writes (length c.args.output.now) j.ensures.answers e c.in-Ok.length
    (subst (λ (o : Result ℕ Answer). PutAs (written k) (length c.args.output.now) o c.put_tidy.new.output) c.in-Ok.is (c.put_tidy.ensures k read same stands))

pub returns-in-Err : goal.returns-in-Err
returns-in-Err c =
    let j = c.judge_text-answer in
    let (k, t, e, read, same, stands) =
    answer_finds c.args.text.now _ _ _ j.new.fields j.ensures.answers.answer c.in-Accepted.is j.ensures.fields in
    let kept : length j.new.states ≡ length c.args.states.now = j.auto.states in
    short_writes (length c.args.output.now) j.ensures.answers e c.in-Err.short
    (subst (λ (o : Result ℕ Answer). PutAs (written k) (length c.args.output.now) o c.put_tidy.new.output) c.in-Err.is (c.put_tidy.ensures k read same stands))
    (c.clear.ensures ∙ ap (λ (n : ℕ). replicate n 0) kept)
