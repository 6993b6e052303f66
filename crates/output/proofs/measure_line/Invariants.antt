-- `measure_line`: the numbers before i are measured (Texts). Assumes nothing.
use Prim.Native.Nat.{◌+◌}
use mathlib.Core.Path.{◌≡◌}
use lib.ListN.{length}
use lib.Seq.{slice}
use Rattle.rules.specs.Print.{numbers_text, line_text}
use Rattle.output.proofs.measure_line.Given as goal

abbrev pub invariant-loop-i : goal.invariant-loop-i
invariant-loop-i l = l.size + length (numbers_text (slice l.i l.end l.fields)) ≡ length (line_text (slice l.at l.end l.fields))
