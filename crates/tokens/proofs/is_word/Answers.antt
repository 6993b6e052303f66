-- `tokens::is_word` meets its contract: the text goes on with the word's bytes or with others. Assumes nothing.
use Rattle.std.proofs.Common.{◌≡◌, Bool, List, ℕ, ◌+◌, ◌-◌, ◌≤◌, length, take, drop, arith, rules, sym, ap, ◌∙◌}
use Rattle.std.proofs.Math.Dec.{eqb}
use Rattle.std.proofs.Math.Seq.{take-length}
use Rattle.std.proofs.lemmas.List.{length-drop}
use Rattle.std.specs.List.{starts_with}
use lib.Pointwise.{pointwise}
use Rattle.text.proofs.Feeds.{feed_inside}
use Rattle.tokens.proofs.Pieces.{word_begins, word_differs}
use Rattle.tokens.proofs.is_word.Goals as goal

-- The text from a place on, as the code cuts it.
begins : (t word : List ℕ) (p : ℕ) {x : Bool} → x ≡ starts_with eqb (take (length t - p) (drop p t)) word → pointwise eqb word (take (length word) (drop p t)) ≡ x
begins t word p e =
    let all : drop p t ≡ take (length t - p) (drop p t) = sym (ap (λ (n : ℕ). take n (drop p t)) (sym (length-drop p t)) ∙ take-length (drop p t)) in
    ap (λ (l : List ℕ). pointwise eqb word (take (length word) l)) all ∙ sym e

pub slice_bounds-starts_with-count : goal.slice_bounds-starts_with-count
slice_bounds-starts_with-count c = let inside = feed_inside c.args.text.now c.args.from c.requires.1 in omega arith

pub slice_bounds-starts_with-start : goal.slice_bounds-starts_with-start
slice_bounds-starts_with-start c =
    let inside = feed_inside c.args.text.now c.args.from c.requires.1 in
    let within : c.args.from ≤ length c.args.text.now = omega arith in
    search rules

pub bounds-text-from : goal.bounds-text-from
bounds-text-from c =
    let a = c.args in
    feed_inside a.text.now (a.from + length a.word.now) (word_begins a.separator a.text.now a.word.now a.from c.requires.0 c.requires.1 (begins a.text.now a.word.now a.from c.if-starts_with.ensures.value)).0

pub returns-then-starts_with : goal.returns-then-starts_with
returns-then-starts_with c =
    let a = c.args in
    c.ends_piece.ensures ∙ sym (word_begins a.separator a.text.now a.word.now a.from c.requires.0 c.requires.1 (begins a.text.now a.word.now a.from c.if-starts_with.ensures.value)).1

pub returns-else-starts_with : goal.returns-else-starts_with
returns-else-starts_with c =
    let a = c.args in
    c.if-starts_with.false ∙ sym (word_differs a.separator a.text.now a.word.now a.from c.requires.0 c.requires.1 (begins a.text.now a.word.now a.from c.if-starts_with.ensures.value))
