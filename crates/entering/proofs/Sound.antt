-- The entry of a constraint says what the constraint does with every choice, so where it is broken the choice fails. Assumes nothing.
use mathlib.Core.Path.{◌≡◌, refl, sym, ap, subst, ◌∙◌}
use mathlib.Core.Logic.{◌≢◌}
use mathlib.Core.Bool.{Bool, true, false, true≢false}
use mathlib.Core.List.{List}
use Prim.Native.Nat.{ℕ, ◌-◌, ◌^◌, ◌≤◌, ◌<◌}
use native.Mathlib.Nat.{lt_of_lt_of_le}
use native.Mathlib.Omega.{arith}
use lib.Dec.{eqb}
use lib.Pow.{pow_mono}
use Rattle.rules.specs.declared.Header.{Header}
use Rattle.rules.specs.declared.Sign.{Sign}
use Rattle.rules.specs.Index.{Span, Part as Named, span_of_part, c, f}
use Rattle.rules.specs.Case.{Constraint, O, B, F, W, sign_of, is_either, constraint_of}
use Rattle.rules.specs.Constraint.{Holds, holds_from, keeps}
use Rattle.rules.specs.Ranges.{GoodConstraint}
use Rattle.rules.specs.Gaps.{Choice, Within as GapsWithin}
use Rattle.rules.proofs.Tables.{every_same}
use Rattle.parts.proofs.Letters.{numbered_W, numbered_F, numbered_B, numbered_O}
use Rattle.constraints.specs.declared.method.Line.{Line}
use Rattle.constraints.specs.Methods.{meant}
use Rattle.constraints.proofs.Within.{Within, start_few, end_few}
use Rattle.blames.specs.declared.entry.Entry.{Entry}
use Rattle.blames.specs.Entries.{edges, StartsAt, EndsAt, Names, entry_keeps, EntryFits}
use Rattle.blames.proofs.Edges.{edges_start, edges_end, edges_fit}
use Rattle.blames.proofs.Letters.{silent_keeps, keeps_edges}
use Rattle.entering.specs.declared.sums.Part.{Part}
use Rattle.entering.specs.Entering.{Tells}
use Rattle.entering.specs.Parts.{part_in, part_of_set, PartsTell}
use Rattle.entering.specs.Lines.{entry_from, no_part, between_entry, after_entry, before_entry, order_entry, entry_of}
use Rattle.entering.proofs.Told.{set_tells, only_tells}
use Rattle.entering.proofs.Letters.{entry_W, entry_F, entry_B, entry_O}

-- ---- States

-- At a span among the cues only the states of the case are asked.
spans_same : (g h : Holds) (k : ℕ) (s : Span) → Within k s → ((z : Sign) (p l : ℕ) → l ≤ k → g z p l ≡ h z p l) → (d : Constraint)
    → keeps g (λ part. s) d ≡ keeps h (λ part. s) d
unfolding keeps holds_from
spans_same g h k s w agree (O i j) = refl
spans_same g h k s w agree (B z p u) = let e = start_few k s w in agree z p (c s - 1) (omega arith)
spans_same g h k s w agree (F z p u) = agree z p (f s) (end_few k s w)
spans_same g h k s w agree (W z u p v) =
    let e = start_few k s w in
    every_same (c s - f s) (f s) (λ l. g z p l) (λ l. h z p l) (λ l a b. agree z p l (omega arith))

states_same : (g h : Holds) (k e : ℕ) (x : Entry) (gs : List ℕ) → ((z : Sign) (p l : ℕ) → l ≤ k → g z p l ≡ h z p l) → GapsWithin k gs → EntryFits k e x
    → entry_keeps g x gs ≡ entry_keeps h x gs
unfolding entry_keeps
states_same g h k e x gs agree within t =
    let w = edges_fit k e x gs within t in
    let inside : Within k (edges x gs) = record { least = w.start_least; start_most = w.start_most; end_most = w.end_most } in
    ap (λ (b : Bool). elim (eqb x.letter 0) [ true ↦ true | false ↦ b ])
    (spans_same g h k (edges x gs) inside agree (constraint_of x.letter x.p x.p x.p))

-- ---- The test of an entry is its constraint's

module _ {k e : ℕ} {owns : List ℕ → Span} {subs : List ℕ → List Span} {count : ℕ} {own : Part} {sums : List Part}
    (w : PartsTell k e owns subs count own sums) (few : e ≤ 32) (h : Header) (gs : List ℕ) (choice : Choice k e gs) where
  abbrev at : Named → Span
  at part = span_of_part (owns gs) (subs gs) part

  below : {n : ℕ} → n < 2 ^ e → n < 2 ^ 32
  below b = lt_of_lt_of_le b (pow_mono few)

  -- The entry has the constraint's proposition, starts where its start part does and ends where its end part does.
  abbrev Fitting : Constraint → Entry → Type 0
  Fitting d x = Names d x.p × StartsAt at d (edges x gs).start × EndsAt at d (edges x gs).end

  starts_as : (d : Line) (p : ℕ) (ends starts : Part) {z : List ℕ → Span} → Tells k e z starts → EntryFits k e (entry_from d p ends starts)
      → (edges (entry_from d p ends starts) gs).start ≡ (z gs).start
  starts_as d p ends starts {z} t y = edges_start (entry_from d p ends starts) gs (z gs).start (below y.starts_below) (t.starts gs choice)

  ends_as : (d : Line) (p : ℕ) (ends starts : Part) {z : List ℕ → Span} → Tells k e z ends → EntryFits k e (entry_from d p ends starts)
      → (edges (entry_from d p ends starts) gs).end ≡ (z gs).end
  ends_as d p ends starts {z} t y = edges_end (entry_from d p ends starts) gs (z gs).end (below y.ends_below) (t.ends gs choice)

  -- Kind by kind.
  module _ (d : Line) (s : Sign) where
    abbrev set : ℕ → Part
    set u = part_of_set sums own u

    fit_W : GoodConstraint h count (W s d.first d.second d.third) → EntryFits k e (between_entry d own sums)
        → Fitting (W s d.first d.second d.third) (between_entry d own sums)
    fit_W g t = (
      refl,
      starts_as d d.second (set d.first) (set d.third) (set_tells w d.third g.2) t,
      ends_as d d.second (set d.first) (set d.third) (set_tells w d.first g.0) t,
    )

    fit_F : GoodConstraint h count (F s d.first d.second) → EntryFits k e (after_entry d own sums)
        → Fitting (F s d.first d.second) (after_entry d own sums)
    fit_F g t = (refl, tt, ends_as d d.first (set d.second) no_part (set_tells w d.second g.1) t)

    fit_B : GoodConstraint h count (B s d.first d.second) → EntryFits k e (before_entry d own sums)
        → Fitting (B s d.first d.second) (before_entry d own sums)
    fit_B g t = (refl, starts_as d d.first no_part (set d.second) (set_tells w d.second g.1) t, tt)

    fit_O : GoodConstraint h count (O d.first d.second) → EntryFits k e (order_entry d sums) → Fitting (O d.first d.second) (order_entry d sums)
    fit_O g t = (
      tt,
      starts_as d 0 (part_in sums d.first) (part_in sums d.second) (only_tells w d.second g.1) t,
      ends_as d 0 (part_in sums d.first) (part_in sums d.second) (only_tells w d.first g.0) t,
    )

  module _ (holds : Holds) (d : Line) (good : GoodConstraint h count (meant d)) (fits : EntryFits k e (entry_of d own sums))
      (lettered : (entry_of d own sums).letter ≢ 0) where
    of_kind : (x : Entry) → entry_of d own sums ≡ x → x.letter ≡ d.letter → {m : Constraint} → meant d ≡ m
        → (GoodConstraint h count m → EntryFits k e x → Fitting m x) → entry_keeps holds (entry_of d own sums) gs ≡ keeps holds at (meant d)
    of_kind x e l m fit =
        let same : constraint_of x.letter d.first d.second d.third ≡ meant d =
        ap (λ (n : ℕ). constraint_of n d.first d.second d.third) l in
        let t : Fitting (constraint_of x.letter d.first d.second d.third) x =
        subst (λ (z : Constraint). Fitting z x) (sym (same ∙ m)) (fit (subst (GoodConstraint h count) m good) (subst (EntryFits k _) e fits)) in
        ap (λ (y : Entry). entry_keeps holds y gs) e
        ∙ keeps_edges holds at d.first d.second d.third x gs (λ z. lettered (ap (λ (y : Entry). y.letter) e ∙ z)) t.0 t.1 t.2
        ∙ ap (keeps holds at) same

    entry_keeps_lem : entry_keeps holds (entry_of d own sums) gs ≡ keeps holds at (meant d)
    entry_keeps_lem = go (is_either d.letter 87 119) (is_either d.letter 70 102) (is_either d.letter 66 98) refl refl refl
      where
        s : Sign
        s = sign_of d.letter

        go : (x y z : Bool) → is_either d.letter 87 119 ≡ x → is_either d.letter 70 102 ≡ y → is_either d.letter 66 98 ≡ z
            → entry_keeps holds (entry_of d own sums) gs ≡ keeps holds at (meant d)
        go true y z x' y' z' =
            of_kind (between_entry d own sums) (entry_W d own sums x') refl (numbered_W d.letter d.first d.second d.third x') (fit_W d s)
        go false true z x' y' z' =
            of_kind (after_entry d own sums) (entry_F d own sums x' y') refl (numbered_F d.letter d.first d.second d.third x' y') (fit_F d s)
        go false false true x' y' z' =
            of_kind (before_entry d own sums) (entry_B d own sums x' y' z') refl (numbered_B d.letter d.first d.second d.third x' y' z') (fit_B d s)
        go false false false x' y' z' =
            of_kind (order_entry d sums) (entry_O d own sums x' y' z') refl (numbered_O d.letter d.first d.second d.third x' y' z') (fit_O d s)

  -- Broken over the lists, the constraint is broken as it is defined.
  pub entry_breaks : (rows holds : Holds) → ((z : Sign) (p l : ℕ) → l ≤ k → rows z p l ≡ holds z p l) → (d : Line) → GoodConstraint h count (meant d)
      → EntryFits k e (entry_of d own sums) → entry_keeps rows (entry_of d own sums) gs ≡ false → keeps holds at (meant d) ≡ false
  entry_breaks rows holds agree d good fits broken =
      sym (entry_keeps_lem holds d good fits (λ z. true≢false (sym (silent_keeps rows (entry_of d own sums) gs z) ∙ broken)))
      ∙ sym (states_same rows holds k e (entry_of d own sums) gs agree choice.1 fits) ∙ broken
