-- `next_line`: what the line reader leaves, and the line after it. Assumes nothing.
use lib.ListN.{get_or}
use Rattle.lines.specs.Reading.{role_of}
use Rattle.lines.proofs.Within.{line_within}
use Rattle.reading.proofs.Turns.{line_left, line_fits, left_told}
use Rattle.reading.specs.Groups.{after_line, valued_line}
use Rattle.rules.specs.Table.{read_line}
use Rattle.rules.specs.Case.{header_in, one_line}
use Rattle.rules.specs.Fields.{line_fields}
use mathlib.Core.Path.{sym}
use native.Mathlib.Omega.{arith}
use Rattle.reading.proofs.next_line.Goals as goal

pub after-requires : goal.after-requires
after-requires c =
    let a = c.args in
    let d = c.requires.due in
    let r = c.read_line-read in (
      let n = d.counted in let i = d.inside in let t = d.short in omega arith,
      line_fits a.text.now a.at.from a.at.start.at a.fields.now (read_line a.text.now (role_of a.due) (header_in a.x.now.numbers) (get_or a.x.now.numbers 7 0) a.at.start.at) r.result _ d.short
          (line_within a.text.now a.at.from (role_of a.due) (header_in a.x.now.numbers) (get_or a.x.now.numbers 7 0) a.at.start.at d.ahead) r.ensures,
    )

pub returns : goal.returns
unfolding one_line
returns c =
    let a = c.args in
    let r = c.read_line-read in
    let y = read_line a.text.now (role_of a.due) (header_in a.x.now.numbers) (get_or a.x.now.numbers 7 0) a.at.start.at in
    left_told line_fields a.at.from a.fields.now (valued_line a.text.now (header_in a.x.now.numbers) (role_of a.due) (get_or a.x.now.numbers 7 0) a.at.line a.at.start.at)
    (after_line a.at.line a.at.from r.result) c.after.result _ (sym c.after.ensures)
    (line_left a.at.line a.at.from a.fields.now y r.result _ r.ensures)
