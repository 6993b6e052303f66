-- `find_first`: the choices ahead of the one where a turn stands were passed over, and the text was opened again; a turn ends the search with a choice
-- that is accepted, or with none left. Fewer choices are left with each turn. Assumes nothing.
use mathlib.Core.Path.{◌≡◌, refl, sym, ap, ◌∙◌}
use mathlib.Core.Bool.{not}
use Prim.Native.Nat.{ℕ, ◌+◌, min}
use native.Mathlib.Omega.{arith}
use lib.ListN.{length, replicate}
use Rattle.rules.specs.Gaps.{power}
use Rattle.rules.specs.Verdict.{text_most}
use Rattle.rules.specs.declared.Header.{Header}
use Rattle.choices.specs.Searching.{place}
use Rattle.finder.proofs.Counts.{counted_all}
use Rattle.finder.proofs.Turned.{going_choice, going_head, going_few, next_within, power_few, place_few, over_fails, none_after, some_after, fewer_after}
use Rattle.finder.proofs.Turns.{goes_on_lem, turn_accepted, turn_failed, turn_over, opened_again, never_refused, search_finds, search_fails}
use Rattle.finder.proofs.Verdicts.{finds_as}
use Rattle.finder.specs.Finding.{passing}
use Rattle.finder.proofs.find_first.Goals as goal

pub take_turn-requires-clause-base_bound : goal.take_turn-requires-clause-base_bound
unfolding text_most
take_turn-requires-clause-base_bound c =
    let l = c.loop-answer in
    let s = c.requires.spacious in (
      omega (arith, s.1, s.2),
      omega (arith, l.invariant.1, s.3),
      l.invariant.2 ∙ s.4 ∙ sym l.invariant.1,
      λ n m short. omega (arith, s.0 n (omega (arith, s.2)) short, l.invariant.0),
    )

pub place_of-place-requires : goal.place_of-place-requires
place_of-place-requires c =
    let a = c.args in
    let l = c.loop-answer in
    let (k, x, b, h, few) = c.requires.passes in
    let g = l.invariant.5 k x b c.requires.spacious.5 h in
    let t = c.take_turn in
    let d = t.new.choice in
    let turn = t.ensures k g.passes.claimed b (going_choice g h) g.goes.known in
    let (goes, good, told) =
    turn_accepted k (length l.states) l.choice d t.new.why t.new.states t.new.work t.result turn c.in-Accepted.answer c.in-Accepted.is in
    (next_within g h d t.new.why goes, power_few g h d t.new.why goes few)

pub overflow_add-result : goal.overflow_add-result
overflow_add-result c =
    let a = c.args in
    let l = c.loop-answer in
    let (k, x, b, h, few) = c.requires.passes in
    let g = l.invariant.5 k x b c.requires.spacious.5 h in
    let t = c.take_turn in
    let d = t.new.choice in
    let turn = t.ensures k g.passes.claimed b (going_choice g h) g.goes.known in
    let (goes, good, told) =
    turn_accepted k (length l.states) l.choice d t.new.why t.new.states t.new.work t.result turn c.in-Accepted.answer c.in-Accepted.is in
    omega (arith, place_few g h d t.new.why goes few, c.place_of-place.ensures)

pub returns-in-Accepted : goal.returns-in-Accepted
returns-in-Accepted c = λ k x b h few.
    let a = c.args in
    let l = c.loop-answer in
    let g = l.invariant.5 k x b c.requires.spacious.5 h in
    let t = c.take_turn in
    let d = t.new.choice in
    let turn = t.ensures k g.passes.claimed b (going_choice g h) g.goes.known in
    let (goes, good, told) =
    turn_accepted k (length l.states) l.choice d t.new.why t.new.states t.new.work t.result turn c.in-Accepted.answer c.in-Accepted.is in
    let on = goes_on_lem (passing k) k.head.cues a.choice.now l.choice d l.why t.new.why g.goes goes in
    let tried : c.place_of-place.result + 1 ≡ place k.head.cues d + 1 =
    ap (λ (n : ℕ). n + 1) (c.place_of-place.ensures ∙ ap (λ (x : Header). place x.cues d) (going_head g h)) in
    finds_as (λ i. refl) (λ i w. w) l.invariant.3
    (search_finds k (length a.choice.now) (sym h.0) a.choice.now d t.new.why c.in-Accepted.answer (c.place_of-place.result + 1) c.requires.spacious.5 on good
    told tried)

pub none_passes-requires : goal.none_passes-requires
none_passes-requires c =
    let l = c.loop-answer in
    let (k, x, b, h, few) = c.requires.passes in
    let g = l.invariant.5 k x b c.requires.spacious.5 h in
    going_few g h

pub returns-in-Over : goal.returns-in-Over
returns-in-Over c = λ k x b h few.
    let a = c.args in
    let l = c.loop-answer in
    let g = l.invariant.5 k x b c.requires.spacious.5 h in
    let t = c.take_turn in
    let d = t.new.choice in
    let turn = t.ensures k g.passes.claimed b (going_choice g h) g.goes.known in
    let same : length d ≡ length l.choice = t.auto.choice in
    let count = counted_all k l.at.header.cues (length d) (ap (λ (x : Header). x.cues) (going_head g h)) (sym (same ∙ (going_choice g h).0)) few in
    let over = turn_over k (length l.states) l.choice d t.new.why t.new.states t.new.work t.result turn c.in-Over.is in
    let all = over_fails g h (length l.states) d t.new.why t.new.states t.new.work over in
    let told = c.none_passes.ensures in
    let kept : length t.new.states ≡ length a.states.now = t.auto.states ∙ l.invariant.3 in
    search_fails k (length a.choice.now) (sym h.0) a.choice.now (min (power l.at.header.cues (length d)) 1000001) c.requires.spacious.5 all count told.0 told.1
    (told.2 ∙ ap (λ (n : ℕ). replicate n 0) kept)

pub skip-requires : goal.skip-requires
skip-requires c =
    let l = c.loop-answer in
    let (k, x, b, h, few) = c.requires.passes in
    let g = l.invariant.5 k x b c.requires.spacious.5 h in
    let t = c.take_turn in
    let s = c.requires.spacious in
    let same : length t.new.choice ≡ length l.choice = t.auto.choice in
    (going_few g h, t.auto.why ∙ l.invariant.2 ∙ s.4 ∙ sym (same ∙ l.invariant.1), omega (arith, l.invariant.1, s.3))

pub none_passes-requires-then-is_none : goal.none_passes-requires-then-is_none
none_passes-requires-then-is_none c =
    let l = c.loop-answer in
    let (k, x, b, h, few) = c.requires.passes in
    let g = l.invariant.5 k x b c.requires.spacious.5 h in
    going_few g h

pub returns-then-is_none : goal.returns-then-is_none
returns-then-is_none c = λ k x b h few.
    let a = c.args in
    let l = c.loop-answer in
    let g = l.invariant.5 k x b c.requires.spacious.5 h in
    let t = c.take_turn in
    let d = t.new.choice in
    let turn = t.ensures k g.passes.claimed b (going_choice g h) g.goes.known in
    let same : length d ≡ length l.choice = t.auto.choice in
    let failed = turn_failed k (length l.states) l.choice d t.new.why t.new.states t.new.work t.result turn c.in-Failed.is in
    let m = c.all-all in
    let q = c.skip in
    let still : length q.new.choice ≡ length d = q.auto.choice in
    let count =
    counted_all k l.at.header.cues (length q.new.choice) (ap (λ (x : Header). x.cues) (going_head g h))
    (sym ((still ∙ same) ∙ (going_choice g h).0)) few in
    let all =
    none_after g h (length l.states) d t.new.why t.new.states t.new.work failed m.result m.ensures q.result q.new.choice q.new.why q.ensures.skips
    (c.is_none.ensures ∙ ap not c.if-is_none.true) in
    let told = c.none_passes-then-is_none.ensures in
    let kept : length t.new.states ≡ length a.states.now = t.auto.states ∙ l.invariant.3 in
    search_fails k (length a.choice.now) (sym h.0) a.choice.now (min (power l.at.header.cues (length q.new.choice)) 1000001) c.requires.spacious.5 all count
    told.0 told.1 (told.2 ∙ ap (λ (n : ℕ). replicate n 0) kept)

pub loop-answer-smaller : goal.loop-answer-smaller
loop-answer-smaller c =
    let a = c.args in
    let l = c.loop-answer in
    let (k, x, b, h, few) = c.requires.passes in
    let g = l.invariant.5 k x b c.requires.spacious.5 h in
    let t = c.take_turn in
    let d = t.new.choice in
    let turn = t.ensures k g.passes.claimed b (going_choice g h) g.goes.known in
    let failed = turn_failed k (length l.states) l.choice d t.new.why t.new.states t.new.work t.result turn c.in-Failed.is in
    let m = c.all-all in
    let q = c.skip in
    fewer_after g h (length l.states) d t.new.why t.new.states t.new.work failed m.result m.ensures q.result q.new.choice q.new.why q.ensures.skips
    (c.is_none.ensures ∙ ap not c.if-is_none.false) q.ensures.nearer a.o.header x.claimed.walked.opens.head

pub loop-answer-preserved : goal.loop-answer-preserved
loop-answer-preserved c =
    let l = c.loop-answer in
    let t = c.take_turn in
    let d = t.new.choice in
    let m = c.all-all in
    let q = c.skip in
    let o = c.open_text in (
      o.auto.fields ∙ t.auto.fields ∙ l.invariant.0,
      q.auto.choice ∙ t.auto.choice ∙ l.invariant.1,
      q.auto.why ∙ t.auto.why ∙ l.invariant.2,
      o.auto.states ∙ t.auto.states ∙ l.invariant.3,
      o.auto.work ∙ t.auto.work ∙ l.invariant.4,
      λ k x b z h.
          let g = l.invariant.5 k x b z h in
          let turn = t.ensures k g.passes.claimed b (going_choice g h) g.goes.known in
          let failed = turn_failed k (length l.states) l.choice d t.new.why t.new.states t.new.work t.result turn c.in-Failed.is in
          record {
            passes = opened_again x o.new.fields (length t.new.states) o.new.states o.new.work o.result o.ensures c.in-Ok.opened c.in-Ok.is;
            goes = some_after g h (length l.states) d t.new.why t.new.states t.new.work failed m.result m.ensures q.result q.new.choice q.new.why
                q.ensures.skips (c.is_none.ensures ∙ ap not c.if-is_none.false);
          },
    )

pub returns-in-Err : goal.returns-in-Err
returns-in-Err c = λ k x b h few.
    let o = c.open_text in
    absurd (never_refused x o.new.fields _ o.new.states o.new.work o.result o.ensures c.in-Err.answer c.in-Err.is)
