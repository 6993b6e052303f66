-- The report that is in what an exported call returns. Assumes nothing.
use Rattle.rules.specs.Verdict.{Report}
use Rattle.replies.specs.declared.Reply.{Reply}
use Rattle.replies.specs.declared.Written.{Written}
use Rattle.replies.specs.declared.Found.{Found}
use Rattle.replies.specs.declared.Imported.{Imported}

-- The report that a reply is: the same five numbers.
abbrev pub report_of : Reply → Report
report_of r = record { number = r.number; line = r.line; item = r.item; cues = r.cues; nodes = r.nodes }

-- The same of what the write call returns.
abbrev pub written_report : Written → Report
written_report r = record { number = r.number; line = r.line; item = r.item; cues = r.cues; nodes = r.nodes }

-- And of what the find-the-gaps call returns.
abbrev pub found_report : Found → Report
found_report r = record { number = r.number; line = r.line; item = r.item; cues = r.cues; nodes = r.nodes }

-- And of what the import call returns.
abbrev pub imported_report : Imported → Report
imported_report r = record { number = r.number; line = r.line; item = r.item; cues = r.cues; nodes = r.nodes }
