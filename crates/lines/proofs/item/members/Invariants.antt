-- `members`: what the members from here on leave, after those read so far, is what all of them leave. Assumes nothing.
use Rattle.lines.specs.Reading.{in_kind, Room, MembersLeft}
use Rattle.std.specs.Prelude.{Result}
use Rattle.lines.specs.declared.item.ItemRead.{ItemRead}
use Rattle.lines.specs.declared.line.LineError.{LineError}
use Rattle.rules.specs.Table.{read_members}
use Prim.Native.Nat.{ℕ, ◌+◌, ◌-◌}
use lib.Dec.{eqb}
use lib.ListN.{length}
use mathlib.Core.List.{List}
use mathlib.Core.Path.{◌≡◌}
use Rattle.lines.proofs.item.members.Given as goal

abbrev pub invariant-loop-i : goal.invariant-loop-i
invariant-loop-i l =
    (length l.fields ≡ length l.initial.fields)
    × Room l.text l.fields (l.from + l.i) l.at.at
    × ((r : Result ItemRead LineError) (u : List ℕ)
    → MembersLeft l.i (l.from + l.i) l.fields (read_members l.text (in_kind l.x.numbers l.before l.kind) (eqb l.kind 11) (l.count - l.i) l.low (l.field + l.i) l.at.at) r u
    → MembersLeft 0 l.from l.initial.fields (read_members l.text (in_kind l.x.numbers l.before l.kind) (eqb l.kind 11) l.count 0 l.field l.initial.at.at) r u)
