-- `step_unheld`: the words that the sets are decoded into are those that the step goes by. Assumes nothing.
use Rattle.rules.specs.State.{word_count, step}
use Rattle.running.proofs.Front.{lent_none, lent_back}
use Rattle.running.specs.Sets.{set_count, action_in}
use Prim.Native.Nat.{ℕ, ◌*◌}
use lib.ListN.{length, replicate, length-replicate}
use mathlib.Core.List.{◌++◌}
use mathlib.Core.Path.{◌≡◌, ap, ◌∙◌}
use native.Mathlib.Omega.{arith}
use Rattle.std.proofs.Common.{rules}
use Rattle.running.proofs.step_unheld.Goals as goal

-- The array is long enough for the sets.
abbrev room : ℕ
room = set_count * word_count

pub slice_bounds-own-end : goal.slice_bounds-own-end
unfolding word_count
slice_bounds-own-end c = search rules

pub decode-requires-clause-zero : goal.decode-requires-clause-zero
unfolding word_count
decode-requires-clause-zero c =
    let few = c.requires.few in lent_none (set_count * length c.args.s.now) room (omega arith)

pub returns : goal.returns
unfolding word_count
returns c =
    let a = c.args in
    let m = length a.s.now in
    let few = c.requires.few in
    let decoded = c.decode in
    let size : length decoded.new.words ≡ set_count * m =
    decoded.auto.words ∙ ap length (lent_none (set_count * m) room (omega arith)) ∙ length-replicate {A = ℕ} (set_count * m) 0 in
    λ act good here.
    λ rest whole.
    c.step_with.ensures rest whole
    ∙ ap (step (a.s.now ++ rest))
    (ap (action_in m) (lent_back (set_count * m) (replicate room 0) decoded.new.words size) ∙ decoded.ensures act good here)
