-- There is room for the fields of a short case, or of any, and of any form. Assumes nothing.
use native.Mathlib.Omega.{arith}
use Rattle.rules.specs.Verdict.{text_most}
use Rattle.importer.proofs.texts.make_lent.Goals as goal

pub make_within-requires-2-clause-room : goal.make_within-requires-2-clause-room
unfolding text_most
make_within-requires-2-clause-room c =
    let short = c.requires.0 in
    (short, c.requires.1, omega arith)
