-- `actions`: the A lines, with the places listed from the directory's start on (Progress). Assumes nothing.
use lib.ListN.{get_or}
use Rattle.rules.specs.Case.{header_in}
use Rattle.reading.proofs.Progress.{Listing}
use Rattle.reading.specs.Groups.{valued_line}
use Rattle.rules.specs.Fields.{line_fields}
use Rattle.rules.specs.Table as T
use Rattle.reading.proofs.actions.Given as goal

abbrev pub invariant-loop-i : goal.invariant-loop-i
invariant-loop-i l =
    Listing l.text l.past line_fields (valued_line l.text (header_in l.x.numbers) T.action (get_or l.x.numbers 7 0)) (get_or l.x.numbers 1 0) l.initial.at l.initial.fields 0 l.initial.directory l.at l.fields l.directory l.i
