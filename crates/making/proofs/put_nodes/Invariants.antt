-- `put_nodes`: what is stored, with the nodes of the links of the frames, is the whole tree. Assumes nothing.
use mathlib.Core.Path.{◌≡◌}
use Prim.Native.Nat.{◌-◌}
use lib.ListN.{length}
use Rattle.making.specs.Nodes.{frames_links}
use Rattle.making.proofs.Leading.{nodes_from}
use Rattle.making.proofs.Walks.{Turning}
use Rattle.making.proofs.put_nodes.Given as goal

abbrev pub invariant-loop : goal.invariant-loop
invariant-loop l =
    (length l.fields ≡ length l.initial.fields) × (length l.next ≡ length l.initial.next) × (length l.last ≡ length l.initial.last)
    × Turning l.starts l.links l.labels l.cues l.count l.initial.fields l.initial.w (nodes_from l.starts l.links l.labels l.cues (l.count - 1) (frames_links l.links l.initial.next l.initial.last l.initial.w.depth)) (l.count - l.counter) l.fields l.next l.last l.w
