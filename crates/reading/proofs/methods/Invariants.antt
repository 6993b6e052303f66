-- `methods`: the methods, with the places listed after those of the A lines (Progress). Assumes nothing.
use lib.ListN.{get_or}
use Rattle.reading.proofs.Progress.{Listing}
use Rattle.reading.specs.Groups.{method_fields}
use Rattle.rules.specs.Case.{header_in, one_method}
use Rattle.fields.specs.Directory.{methods_from}
use Rattle.reading.proofs.methods.Given as goal

abbrev pub invariant-loop-i : goal.invariant-loop-i
invariant-loop-i l =
    Listing l.text l.past method_fields (one_method l.text (header_in l.x.numbers)) (get_or l.x.numbers 3 0) l.initial.at l.initial.fields methods_from l.initial.directory l.at l.fields l.directory l.i
