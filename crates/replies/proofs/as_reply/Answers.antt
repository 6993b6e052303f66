-- `replies::as_reply` meets its contract: in each arm the answer is the variant at the values that the pattern binds, and its row of the table is
-- what `refusal` makes. Assumes nothing.
use mathlib.Core.Path.{◌≡◌, sym, ◌∙◌, ap}
use Rattle.rules.specs.declared.Answer.{Answer}
use Rattle.rules.specs.Verdict.{reported}
use Rattle.replies.specs.declared.Reply.{Reply}
use Rattle.replies.specs.Replies.{report_of}
use Rattle.replies.proofs.as_reply.Goals as goal

-- a reply to what the answer is told to be is the reply to the answer
told : (r : Reply) (answer variant : Answer) → answer ≡ variant → report_of r ≡ reported variant → report_of r ≡ reported answer
told r answer variant e h = h ∙ sym (ap reported e)

pub returns-in-Accepted : goal.returns-in-Accepted
unfolding reported
returns-in-Accepted c = sym (ap reported c.in-Accepted.is)

pub returns-in-ShortList : goal.returns-in-ShortList
unfolding reported
returns-in-ShortList c = told _ _ _ c.in-ShortList.is c.refusal.ensures

pub returns-in-LongText : goal.returns-in-LongText
unfolding reported
returns-in-LongText c = told _ _ _ c.in-LongText.is c.refusal-in-LongText.ensures

pub returns-in-Unreadable : goal.returns-in-Unreadable
unfolding reported
returns-in-Unreadable c = told _ _ _ c.in-Unreadable.is c.refusal-in-Unreadable.ensures

pub returns-in-OutOfRange : goal.returns-in-OutOfRange
unfolding reported
returns-in-OutOfRange c = told _ _ _ c.in-OutOfRange.is c.refusal-in-OutOfRange.ensures

pub returns-in-Inapplicable : goal.returns-in-Inapplicable
unfolding reported
returns-in-Inapplicable c = told _ _ _ c.in-Inapplicable.is c.refusal-in-Inapplicable.ensures

pub returns-in-WrongTask : goal.returns-in-WrongTask
unfolding reported
returns-in-WrongTask c = told _ _ _ c.in-WrongTask.is c.refusal-in-WrongTask.ensures

pub returns-in-TooDeep : goal.returns-in-TooDeep
unfolding reported
returns-in-TooDeep c = told _ _ _ c.in-TooDeep.is c.refusal-in-TooDeep.ensures

pub returns-in-WrongClaim : goal.returns-in-WrongClaim
unfolding reported
returns-in-WrongClaim c = told _ _ _ c.in-WrongClaim.is c.refusal-in-WrongClaim.ensures

pub returns-in-Unclaimed : goal.returns-in-Unclaimed
unfolding reported
returns-in-Unclaimed c = told _ _ _ c.in-Unclaimed.is c.refusal-in-Unclaimed.ensures

pub returns-in-OrderBroken : goal.returns-in-OrderBroken
unfolding reported
returns-in-OrderBroken c = told _ _ _ c.in-OrderBroken.is c.refusal-in-OrderBroken.ensures

pub returns-in-BeforeBroken : goal.returns-in-BeforeBroken
unfolding reported
returns-in-BeforeBroken c = told _ _ _ c.in-BeforeBroken.is c.refusal-in-BeforeBroken.ensures

pub returns-in-AfterBroken : goal.returns-in-AfterBroken
unfolding reported
returns-in-AfterBroken c = told _ _ _ c.in-AfterBroken.is c.refusal-in-AfterBroken.ensures

pub returns-in-BetweenBroken : goal.returns-in-BetweenBroken
unfolding reported
returns-in-BetweenBroken c = told _ _ _ c.in-BetweenBroken.is c.refusal-in-BetweenBroken.ensures

pub returns-in-ShortOutput : goal.returns-in-ShortOutput
unfolding reported
returns-in-ShortOutput c = told _ _ _ c.in-ShortOutput.is c.refusal-in-ShortOutput.ensures

pub returns-in-TooManyChoices : goal.returns-in-TooManyChoices
unfolding reported
returns-in-TooManyChoices c = told _ _ _ c.in-TooManyChoices.is c.refusal-in-TooManyChoices.ensures

pub returns-in-NoChoice : goal.returns-in-NoChoice
unfolding reported
returns-in-NoChoice c = told _ _ _ c.in-NoChoice.is c.refusal-in-NoChoice.ensures

pub returns-in-WrongShape : goal.returns-in-WrongShape
unfolding reported
returns-in-WrongShape c = told _ _ _ c.in-WrongShape.is c.refusal-in-WrongShape.ensures

pub returns-in-WrongName : goal.returns-in-WrongName
unfolding reported
returns-in-WrongName c = told _ _ _ c.in-WrongName.is c.refusal-in-WrongName.ensures

pub returns-in-WrongId : goal.returns-in-WrongId
unfolding reported
returns-in-WrongId c = told _ _ _ c.in-WrongId.is c.refusal-in-WrongId.ensures

pub returns-in-WrongLetter : goal.returns-in-WrongLetter
unfolding reported
returns-in-WrongLetter c = told _ _ _ c.in-WrongLetter.is c.refusal-in-WrongLetter.ensures

pub returns-in-SurplusNode : goal.returns-in-SurplusNode
unfolding reported
returns-in-SurplusNode c = told _ _ _ c.in-SurplusNode.is c.refusal-in-SurplusNode.ensures

pub returns-in-MissingNode : goal.returns-in-MissingNode
unfolding reported
returns-in-MissingNode c = told _ _ _ c.in-MissingNode.is c.refusal-in-MissingNode.ensures
