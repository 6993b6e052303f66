-- A digit is at least 48, so the difference is one. Assumes nothing.
use native.Mathlib.Omega.{arith}
use Rattle.text.proofs.Scan.{digit_range}
use Rattle.text.proofs.digit_value.Goals as goal

pub overflow_sub-b : goal.overflow_sub-b
overflow_sub-b c = omega (arith, digit_range c.args.b c.requires)
