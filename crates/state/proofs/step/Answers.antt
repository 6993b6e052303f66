-- All words are lent, so that there is no rest. Assumes nothing.
use mathlib.Core.Path.{◌≡◌}
use lib.ListN.{length}
use Rattle.rules.specs.State.{word_count}
use Rattle.state.proofs.Words.{steps_full}
use Rattle.std.proofs.Common.{rules}
use Rattle.state.proofs.step.Goals as goal

pub returns : goal.returns
unfolding word_count
returns c =
    let a = c.args in
    let size : length a.s.words ≡ 8 = search rules in
    let needed_size : length a.needed.words ≡ 8 = search rules in
    let forbidden_size : length a.forbidden.words ≡ 8 = search rules in
    let added_size : length a.added.words ≡ 8 = search rules in
    let deleted_size : length a.deleted.words ≡ 8 = search rules in
    steps_full a.s.words a.needed.words a.forbidden.words a.added.words a.deleted.words c.step_words-ok.result c.step_words-ok.new.s size
    needed_size forbidden_size added_size deleted_size c.step_words-ok.ensures
