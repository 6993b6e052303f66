-- The library's test is that of the definition. Assumes nothing.
use Rattle.rules.specs.Text.{is_digit}
use Rattle.text.proofs.is_digit.Goals as goal

pub returns : goal.returns
unfolding is_digit
returns c = c.is_ascii_digit.ensures.value
