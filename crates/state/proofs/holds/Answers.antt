-- Below the last word the shifted word's low digit is the bit; past it the word is 0 and has no bit. Assumes nothing.
use mathlib.Core.Path.{sym, ◌∙◌}
use Prim.Native.Nat.{◌/◌, ◌≤◌}
use lib.ListN.{length}
use borrow.Author.Tests.{le-ltb}
use native.Mathlib.Omega.{arith}
use Rattle.rules.specs.State.{bit, member}
use Rattle.rules.proofs.Members.{member_past}
use Rattle.std.proofs.Common.{rules}
use Rattle.state.proofs.holds.Goals as goal

pub returns-then-i-words : goal.returns-then-i-words
unfolding member bit
returns-then-i-words c = search rules

pub returns-else-i-words : goal.returns-else-i-words
returns-else-i-words c =
    let a = c.args in
    let past : length a.words.now ≤ a.p / 64 = omega arith in
    le-ltb (a.p / 64) (length a.words.now) past ∙ sym (member_past a.words.now a.p past)
