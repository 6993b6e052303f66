-- `links::follow` meets its contract. Assumes nothing.
use mathlib.Core.Path.{◌≡◌, sym, ◌∙◌}
use mathlib.Core.List.{List}
use Prim.Native.Nat.{ℕ, ◌+◌, ◌<◌}
use native.Mathlib.Omega.{arith}
use borrow.Author.Rules.{rules}
use lib.ListN.{length, get_or}
use Rattle.std.specs.Prelude.{Some}
use Rattle.probing.specs.Probing.{first}
use Rattle.ids.specs.Ids.{same_id}
use Rattle.links.specs.Steps.{Paired}
use Rattle.links.proofs.Pairs.{first_before, last_before, paired_known, paired_new}
use Rattle.links.proofs.follow.Goals as goal

-- The first line with this id, and the last one so far, are earlier lines.
inside : {ids twin last : List ℕ} {e : ℕ} (f : ℕ) → Paired ids e twin last → Some f ≡ first (same_id ids (get_or ids e 0)) e
    → (e < length twin) × (e < length last)
    → (f < length last) × (get_or last f 0 < length twin) × (f < e)
inside f p w h =
    let a = first_before p f w in
    let b = last_before p f w in
    (omega arith, omega arith, a)

pub offset_bounds-last-f : goal.offset_bounds-last-f
offset_bounds-last-f c =
    let i = inside c.in-Some.f c.requires.by_index.2 (sym c.in-Some.is ∙ c.requires.by_index.1) (c.requires.e_bound.1, c.requires.e_bound.2) in
    let h : c.in-Some.f < length c.args.last.now = i.0 in
    search rules

pub bounds-last-f : goal.bounds-last-f
bounds-last-f c = (inside c.in-Some.f c.requires.by_index.2 (sym c.in-Some.is ∙ c.requires.by_index.1) (c.requires.e_bound.1, c.requires.e_bound.2)).0

pub bounds-twin-g : goal.bounds-twin-g
bounds-twin-g c = (inside c.in-Some.f c.requires.by_index.2 (sym c.in-Some.is ∙ c.requires.by_index.1) (c.requires.e_bound.1, c.requires.e_bound.2)).1

pub offset_bounds-last-f-in-Some : goal.offset_bounds-last-f-in-Some
offset_bounds-last-f-in-Some c =
    let i = inside c.in-Some.f c.requires.by_index.2 (sym c.in-Some.is ∙ c.requires.by_index.1) (c.requires.e_bound.1, c.requires.e_bound.2) in
    let h : c.in-Some.f < length c.args.last.now = i.0 in
    search rules

pub bounds-last-f-in-Some : goal.bounds-last-f-in-Some
bounds-last-f-in-Some c = (inside c.in-Some.f c.requires.by_index.2 (sym c.in-Some.is ∙ c.requires.by_index.1) (c.requires.e_bound.1, c.requires.e_bound.2)).0

pub returns-in-Some : goal.returns-in-Some
returns-in-Some c =
    λ ids w paired. paired_known paired c.in-Some.f (sym c.in-Some.is ∙ w) (c.args.e + 1) (omega arith) c.requires.e_bound.1 c.requires.e_bound.2

pub returns-in-None : goal.returns-in-None
returns-in-None c = λ ids w paired. paired_new paired (sym c.in-None.is ∙ w) c.requires.e_bound.2
