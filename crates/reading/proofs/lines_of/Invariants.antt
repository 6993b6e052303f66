-- `lines_of`: what the lines from here on leave is what all leave (Progress). Assumes nothing.
use lib.ListN.{get_or}
use Rattle.rules.specs.Case.{header_in}
use Rattle.lines.specs.Reading.{role_of}
use Rattle.reading.proofs.Progress.{Progress}
use Rattle.reading.specs.Groups.{valued_line}
use Rattle.rules.specs.Fields.{line_fields}
use Rattle.reading.proofs.lines_of.Given as goal

abbrev pub invariant-loop-i : goal.invariant-loop-i
invariant-loop-i l =
    Progress l.text l.past line_fields (valued_line l.text (header_in l.x.numbers) (role_of l.due) (get_or l.x.numbers 7 0)) l.count l.initial.at l.initial.fields l.at l.fields l._i
