-- `write_with_room`: there is room for the fields of the text. Assumes nothing.
use Rattle.std.proofs.Common.{◌≡◌, ℕ, length, replicate, arith}
use Rattle.std.proofs.Math.ListN.{length-replicate}
use Rattle.writer.proofs.write_with_room.Goals as goal

pub write_text-requires : goal.write_text-requires
write_text-requires g c =
    let p = c.requires.room in
    let room : length (replicate {A = ℕ} g.row.N 0) ≡ g.row.N = length-replicate {A = ℕ} g.row.N 0 in
    (p.0, omega (arith, p.1))
