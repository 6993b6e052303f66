-- `put_row`: the middle part that was lent is the row of state l. Assumes nothing.
use Rattle.index.specs.Spans.{state_of}
use Rattle.rows.proofs.Written.{part_put}
use Rattle.rows.specs.Rows.{put_row}
use Rattle.rules.specs.State.{word_count}
use Rattle.std.proofs.Common.{rules}
use Rattle.rows.proofs.put_row.Goals as goal

pub slice_bounds-copy_from_slice-end : goal.slice_bounds-copy_from_slice-end
unfolding word_count
slice_bounds-copy_from_slice-end c = search rules

pub returns : goal.returns
unfolding word_count put_row
returns c =
    let a = c.args in
    let from = c.row_start-from in
    part_put word_count a.states.now (state_of a.l) from.result from.ensures a.s.words c.copy_from_slice.new.self c.copy_from_slice.ensures.after
