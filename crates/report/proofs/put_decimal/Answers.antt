-- `put_decimal`: the digits passed are put (Digits). Assumes nothing.
use Rattle.report.proofs.Digits.{digit_put, digits_put}
use Rattle.std.proofs.Common.{rules}
use Rattle.report.proofs.put_decimal.Goals as goal

pub loop-rest-preserved : goal.loop-rest-preserved
loop-rest-preserved c =
    digit_put c.loop-rest.invariant (search rules) c.put-i.ensures c.put-i.auto.out

pub returns : goal.returns
returns c = digits_put c.loop-rest.invariant (search rules) c.put.ensures
