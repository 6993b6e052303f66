-- A state's number fits its 32 bits: what a caller knows of one that it is handed. Assumes nothing.
use mathlib.Core.List.{List}
use Prim.Native.Nat.{◌<◌}
use mir.Val.{Val}
use denote.Laws.{Is}
use denote.Struct.Laws as L
use Rattle.index.specs.declared.StateNumber.{StateNumber}
use Rattle.index.specs.Spans.{state_of}
use Rattle.index.specs.contracts.StateNumber as T
use Rattle.index.proofs.StateNumber.TheLaws as T'

pub number_fits : (l : StateNumber) (vs : List Val) → Is T.the_row l vs → state_of l < 4294967296
number_fits l vs p = (L.owed T.the_type T'.the_laws l vs p).0.1
