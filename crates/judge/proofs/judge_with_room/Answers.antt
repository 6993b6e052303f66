-- `judge_with_room`: there is room for the fields of the text. Assumes nothing.
use Rattle.std.proofs.Common.{◌≡◌, ℕ, length, replicate, arith}
use Rattle.std.proofs.Math.ListN.{length-replicate}
use Rattle.judge.proofs.judge_with_room.Goals as goal

pub judge_text-requires : goal.judge_text-requires
judge_text-requires g c =
    let p = c.requires.room in
    let room : length (replicate {A = ℕ} g.row.N 0) ≡ g.row.N = length-replicate {A = ℕ} g.row.N 0 in
    (p.0, omega (arith, p.1))
