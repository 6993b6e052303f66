-- What parts tell of a span whatever the gaps: of two parts together, of a set of subtasks, of one subtask. Assumes nothing.
use mathlib.Core.Path.{◌≡◌, refl, sym, ap, subst, ◌∙◌, fun_ext}
use mathlib.Core.Logic.{◌≢◌, ◌⊎◌, inl, inr, ⊎_elim}
use mathlib.Core.Bool.{Bool, true, false, ◌||◌}
use mathlib.Core.List.{List, [], ◌∷◌, map, head_d, tail}
use mathlib.Core.List.Memᴰ.{head as here}
use Prim.Native.Nat.{ℕ, zero, suc, ◌^◌, ◌<◌}
use native.Mathlib.Nat.{lt_of_lt_of_le}
use native.Mathlib.Omega.{arith}
use lib.Bits.{bit_or}
use lib.ListN.{get_or}
use lib.Pow.{pow_mono}
use Rattle.rules.specs.State.{bit}
use Rattle.rules.specs.Index.{Span, hull, part_of, only, span_of_part}
use Rattle.rules.proofs.Bits.{bit_or_lem}
use Rattle.rules.proofs.Spans.{hull_one, hull_two, hull_join}
use Rattle.rules.proofs.Judgement.Each.{Each, each_tail}
use Rattle.subsets.specs.Members.{members_of}
use Rattle.subsets.proofs.Members.{pick_members, members_cons, members_below}
use Rattle.parts.proofs.Letters.{only_span}
use Rattle.entering.specs.declared.sums.Part.{Part}
use Rattle.entering.specs.Entering.{Tells}
use Rattle.entering.specs.Parts.{joined, part_in, joined_with, part_of_set, no_span, PartsTell}

-- ---- Two parts

or_cases : (a b : Bool) → (a || b) ≡ true → (a ≡ true) ⊎ (b ≡ true)
or_cases true b e = inl refl
or_cases false b e = inr e

or_left : (a b : Bool) → a ≡ true → (a || b) ≡ true
or_left a b e = ap (λ (x : Bool). x || b) e

or_right : (a b : Bool) → b ≡ true → (a || b) ≡ true
or_right true b e = refl
or_right false b e = e

in_either : (x y s : ℕ) → bit (bit_or x y) s ≡ true → (bit x s ≡ true) ⊎ (bit y s ≡ true)
in_either x y s e = or_cases (bit x s) (bit y s) (sym (bit_or_lem x y s) ∙ e)

module _ {k e : ℕ} where
  tells_as : {f g : List ℕ → Span} {p : Part} → ((gs : List ℕ) → f gs ≡ g gs) → Tells k e f p → Tells k e g p
  tells_as {p = p} same t = subst (λ (at : List ℕ → Span). Tells k e at p) (fun_ext same) t

  pub join_tells : {f g : List ℕ → Span} {p q : Part} → Tells k e f p → Tells k e g q → Tells k e (λ gs. hull (f gs ∷ g gs ∷ [])) (joined p q)
  unfolding joined
  join_tells {f} {g} {p} {q} t u = record {
    starts = λ gs c z.
        let two = ap (λ (s : Span). s.start) (hull_two (f gs) (g gs)) in (
          λ h.
              let a = (t.starts gs c z).0 (omega arith) in
              let b = (u.starts gs c z).0 (omega arith) in
              (omega (arith, a.0, b.0), λ s m. ⊎_elim (λ y. a.1 s y) (λ y. b.1 s y) (in_either p.set q.set s m)),
          λ (l, m).
              let a = (t.starts gs c z).1 (omega arith, λ s y. m s (bit_or_lem p.set q.set s ∙ or_left (bit p.set s) (bit q.set s) y)) in
              let b = (u.starts gs c z).1 (omega arith, λ s y. m s (bit_or_lem p.set q.set s ∙ or_right (bit p.set s) (bit q.set s) y)) in
              omega arith,
        );
    ends = λ gs c z.
        let two = ap (λ (s : Span). s.end) (hull_two (f gs) (g gs)) in (
          λ h.
              let a = (t.ends gs c z).0 (omega arith) in
              let b = (u.ends gs c z).0 (omega arith) in
              (omega (arith, a.0, b.0), λ s m. ⊎_elim (λ y. a.1 s y) (λ y. b.1 s y) (in_either p.set q.set s m)),
          λ (l, m).
              let a = (t.ends gs c z).1 (omega arith, λ s y. m s (bit_or_lem p.set q.set s ∙ or_left (bit p.set s) (bit q.set s) y)) in
              let b = (u.ends gs c z).1 (omega arith, λ s y. m s (bit_or_lem p.set q.set s ∙ or_right (bit p.set s) (bit q.set s) y)) in
              omega arith,
        );
  }

-- ---- Parts of a task

module _ {k e : ℕ} {owns : List ℕ → Span} {subs : List ℕ → List Span} {count : ℕ} {own : Part} {sums : List Part}
    (w : PartsTell k e owns subs count own sums) where
  abbrev sub : ℕ → List ℕ → Span
  sub j gs = get_or (subs gs) j no_span

  members_tell : (f : List ℕ → Span) (p : Part) (ms : List ℕ) → Tells k e f p → Each (λ j. j < count) ms
      → Tells k e (λ gs. hull (f gs ∷ map (λ j. sub j gs) ms)) (joined_with sums p ms)
  members_tell f p [] t b = tells_as (λ gs. sym (hull_one (f gs))) t
  members_tell f p (m ∷ ms) t b =
      tells_as (λ gs. sym (hull_join (f gs) (sub m gs) (map (λ j. sub j gs) ms)))
      (members_tell (λ gs. hull (f gs ∷ sub m gs ∷ [])) (joined p (part_in sums m)) ms (join_tells t (w.each m (b m (here refl)))) (each_tail (λ j. j < count) m ms b))

  pub set_tells : (u : ℕ) → u < 2 ^ count → Tells k e (λ gs. span_of_part (owns gs) (subs gs) (part_of u)) (part_of_set sums own u)
  unfolding part_of span_of_part part_of_set
  set_tells zero h = w.whole
  set_tells (suc u) h =
      let few = w.few in
      let first : ℕ = head_d (members_of (suc u)) 32 in
      let others : List ℕ = tail (members_of (suc u)) in
      let some : suc u ≢ 0 = λ z. omega arith in
      let cut : members_of (suc u) ≡ first ∷ others = members_cons (suc u) some (lt_of_lt_of_le h (pow_mono few)) in
      let all : Each (λ j. j < count) (first ∷ others) =
      subst (λ (ms : List ℕ). Each (λ j. j < count) ms) cut (λ j m. members_below (suc u) count j h m) in
      tells_as (λ gs.
      let long = w.counted gs in
      sym (ap hull (pick_members (suc u) (subs gs) no_span (subst (λ (n : ℕ). suc u < 2 ^ n) (sym long) h) (omega arith)
      ∙ ap (map (λ (j : ℕ). sub j gs)) cut)))
      (members_tell (sub first) (part_in sums first) others (w.each first (all first (here refl))) (each_tail (λ j. j < count) first others all))

  pub only_tells : (i : ℕ) → i < count → Tells k e (λ gs. span_of_part (owns gs) (subs gs) (only i)) (part_in sums i)
  only_tells i h =
      tells_as (λ gs. let long = w.counted gs in sym (only_span (owns gs) (subs gs) i no_span (omega arith))) (w.each i h)
