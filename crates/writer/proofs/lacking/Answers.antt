-- `lacking`: there is room for the most, or the text is measured. Assumes nothing.
use lib.ListN.{length}
use mathlib.Core.Path.{ap, ◌∙◌}
use Rattle.std.specs.Prelude.{Some}
use native.Mathlib.Omega.{arith}
use Rattle.rules.specs.Print.{lines_text}
use Rattle.writer.proofs.Fields.{lacks_none, lacks_all}
use Rattle.writer.proofs.lacking.Goals as goal

pub returns-then-most-room : goal.returns-then-most-room
returns-then-most-room c = λ xs h few. let long = c.if-most-room.true in lacks_none (length (lines_text xs)) c.args.room (omega arith)

pub returns-then-room-needed : goal.returns-then-room-needed
returns-then-room-needed c = λ xs h few.
    let count = c.measure-needed.ensures.value xs h in
    let short = c.if-room-needed.true in
    ap Some count ∙ lacks_all (length (lines_text xs)) c.args.room (omega arith)

pub returns-else-room-needed : goal.returns-else-room-needed
returns-else-room-needed c = λ xs h few.
    let count = c.measure-needed.ensures.value xs h in
    let long = c.if-room-needed.false in
    lacks_none (length (lines_text xs)) c.args.room (omega arith)
