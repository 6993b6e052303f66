-- `links::link_line` meets its contract: of the line's ids some are done, and the others stand in the text from here on. Assumes nothing.
use mathlib.Core.List.{List}
use Prim.Native.Nat.{ℕ, ◌-◌}
use lib.ListN.{length}
use Rattle.tokens.specs.Pieces.{Spells}
use Rattle.links.specs.Steps.{link_in, Tallied}
use Rattle.links.proofs.Rows.{Going}
use Rattle.links.proofs.link_line.Given as goal

abbrev pub invariant-loop-at : goal.invariant-loop-at
invariant-loop-at l = record {
  tallied : Tallied l.table.count l.n l.links l.used;
  going : (vs : List ℕ) → Spells l.text l.from vs → Going l.text (link_in l.table.ids.now l.table.count) vs l.start l.initial.links l.at l.n l.missing l.links;
}

abbrev pub decreases-loop-at : goal.decreases-loop-at
decreases-loop-at l = length l.initial.links - l.n
