-- The links of all lines, one line more at a time: what is kept, and what it says at the end. Assumes nothing.
use mathlib.Core.Path.{◌≡◌, refl, sym, ap, subst, ◌∙◌}
use mathlib.Core.Bool.{Bool}
use mathlib.Core.List.{List, [], ◌∷◌, ◌++◌, map, map-append}
use mathlib.Core.Logic.{⊎_elim}
use Prim.Native.Nat.{ℕ, suc, ◌+◌, ◌*◌, ◌≤◌, ◌<◌}
use native.Mathlib.Numerals.{add-one}
use native.Mathlib.Omega.{arith}
use lib.ListN.{length, get_or, set, take, drop, length-append, length-map}
use lib.Seq.{slice, get_or-set_same, get_or-set_other, take-take, take_at, drop_at}
use Rattle.rules.specs.Form.{FormLine, uses, times, all_defined, all_used, any_missing}
use Rattle.probing.proofs.First.{below}
use Rattle.links.specs.Links.{line_at, link, Resolved}
use Rattle.links.specs.Steps.{link_in, any_none, Tallied, Stored, FirstOf}
use Rattle.links.proofs.Lookups.{link_in_lem}
use Rattle.links.proofs.Written.{Written}
use Rattle.links.proofs.Uses.{used_by, used_next, used_split, used_all, used_none, used_few, none_missing}

-- Line e uses an id that no line defines.
abbrev pub lacks : List FormLine → ℕ → Bool
lacks es e = any_missing (all_defined es) (uses (line_at es e))

-- The lines before line e are done, with n links: where each line's start, the links themselves, and the first line that lacks a definition.
pub record Resolving (es : List FormLine) (cues e n wrong : ℕ) (starts links used : List ℕ) : Type 0 where
  pub past : cues ≤ e
  pub upto : e ≤ length es
  pub number : n ≡ length (used_by es e)
  pub started : (d : ℕ) → d < e → get_or starts d 0 ≡ length (used_by es d)
  pub taken : take n links ≡ map (link es) (used_by es e)
  pub tallied : Tallied (length es) n links used
  pub first : FirstOf (lacks es) (length es) e wrong

module _ {es : List FormLine} {text places ids : List ℕ} {cues count : ℕ} (written : Written es text places ids cues count) where
  -- ---- The action lines

  cues_none : (d : ℕ) → d ≤ cues → used_by es d ≡ []
  cues_none d h =
      used_none es d (omega (arith, written.size, written.few)) (λ c k. written.idle c (omega arith))

  pub resolving_begins : (starts links used : List ℕ) → ((d : ℕ) → d < cues → get_or starts d 0 ≡ 0)
      → ((u : ℕ) → get_or links u 0 ≡ 0) → ((d : ℕ) → get_or used d 0 ≡ 0) → Resolving es cues cues 0 count starts links used
  resolving_begins starts links used zeros unlinked unused =
      record {
        past = omega arith;
        upto = omega (arith, written.size, written.few);
        number = sym (ap length (cues_none cues (omega arith)));
        started = λ d h. zeros d h ∙ sym (ap length (cues_none d (omega arith)));
        taken = sym (ap (map (link es)) (cues_none cues (omega arith)));
        tallied = record { within = omega arith; low = λ u. omega (arith, unlinked u); tally = unused };
        first =
            record {
              most = omega (arith, written.size);
              passed = λ d h l. ap (any_missing (all_defined es)) (written.idle d h);
              failed = λ l. absurd (omega (arith, written.size));
            };
      }

  pub resolving_few : {e n wrong : ℕ} {starts links used : List ℕ} → Resolving es cues e n wrong starts links used → (e ≤ count) × (n ≤ 96000)
  resolving_few {e} so_far =
      let few = used_few es written.short e so_far.upto in
      (omega (arith, so_far.upto, written.size), omega (arith, so_far.number, so_far.upto, written.size, written.most))

  -- ---- One compound line

  module _ {e n wrong : ℕ} {starts links used : List ℕ} (so_far : Resolving es cues e n wrong starts links used) (h : e < count) where
    inside : e < length es
    inside = omega (arith, written.size)

    -- Its links have room.
    pub resolving_room : n + length (uses (line_at es e)) ≤ 32 * (e + 1)
    resolving_room =
        omega (arith, so_far.number, used_few es written.short e so_far.upto, written.short e inside)

    link_same : (vs : List ℕ) → map (link_in ids count) vs ≡ map (link es) vs
    link_same [] = refl
    link_same (v ∷ vs) =
        ap (λ (l : ℕ). l ∷ map (link_in ids count) vs) (sym (link_in_lem es ids written.defined v count written.size))
        ∙ ap (λ (l : List ℕ). link es v ∷ l) (link_same vs)

    module _ {end : ℕ} {missing : Bool} {after : List ℕ} (stored : Stored (link_in ids count) (uses (line_at es e)) n links end missing after) where
      told : lacks es e ≡ missing
      told = sym (stored.none ∙ ap any_none (link_same (uses (line_at es e))) ∙ none_missing es (uses (line_at es e)))

      used_here : used_by es (e + 1) ≡ used_by es e ++ uses (line_at es e)
      used_here = ap (used_by es) (add-one e) ∙ used_next es e inside

      pub resolving_next : {wrong' : ℕ} {counts : List ℕ} → e < length starts → Tallied count end after counts
          → ((fails : ℕ → Bool) → FirstOf fails count e wrong → fails e ≡ missing → FirstOf fails count (suc e) wrong')
          → Resolving es cues (e + 1) end wrong' (set starts e n) after counts
      resolving_next {wrong'} {counts} room tallied next =
          record {
            past = omega (arith, so_far.past);
            upto = omega (arith, inside);
            number =
                omega (arith, stored.ends, so_far.number, ap length used_here, length-append (used_by es e) (uses (line_at es e)));
            started = started;
            taken =
                stored.taken
                ∙ ap (λ (l : List ℕ). l ++ map (link_in ids count) (uses (line_at es e))) so_far.taken
                ∙ ap (λ (l : List ℕ). map (link es) (used_by es e) ++ l) (link_same (uses (line_at es e)))
                ∙ sym (map-append (link es) (used_by es e) (uses (line_at es e)))
                ∙ sym (ap (map (link es)) used_here);
            tallied = subst (λ (m : ℕ). Tallied m end after counts) (sym written.size) tallied;
            first =
                subst (λ (m : ℕ). FirstOf (lacks es) m (e + 1) wrong') (sym written.size)
                (subst (λ (m : ℕ). FirstOf (lacks es) count m wrong') (sym (add-one e))
                (next (lacks es) (subst (λ (m : ℕ). FirstOf (lacks es) m e wrong) written.size so_far.first) told));
          }
        where
          started : (d : ℕ) → d < e + 1 → get_or (set starts e n) d 0 ≡ length (used_by es d)
          started d k =
              ⊎_elim
              (λ l. get_or-set_other starts e d n 0 (λ s. omega arith) ∙ so_far.started d l)
              (λ l. let s : d ≡ e = omega arith in
              ap (λ (x : ℕ). get_or (set starts e n) x 0) s ∙ get_or-set_same starts e n 0 room ∙ so_far.number ∙ ap (λ (x : ℕ). length (used_by es x)) (sym s))
              (below d e)

  -- ---- All lines

  module _ {e n wrong : ℕ} {starts links used : List ℕ} (done : Resolving es cues e n wrong starts links used) (h : count ≤ e) (room : count < length starts) where
    all : e ≡ length es
    all = omega (arith, done.upto, written.size)

    abbrev starts' : List ℕ
    starts' = set starts count n

    started : (d : ℕ) → d ≤ length es → get_or starts' d 0 ≡ length (used_by es d)
    started d k =
        ⊎_elim
        (λ l. get_or-set_other starts count d n 0 (λ s. omega arith) ∙ done.started d (omega (arith, all, written.size)))
        (λ l. let s : d ≡ count = omega (arith, written.size) in
        let t : e ≡ d = omega (arith, all) in
        ap (λ (x : ℕ). get_or starts' x 0) s ∙ get_or-set_same starts count n 0 room ∙ done.number ∙ ap (λ (x : ℕ). length (used_by es x)) t)
        (below d count)

    longer : (d m : ℕ) → d ≤ m → length (used_by es d) ≤ length (used_by es m)
    longer d m k = omega (arith, ap length (used_split es d m k), length-append (used_by es d) (all_used (drop d (take m es))))

    most : (d : ℕ) → d ≤ length es → length (used_by es d) ≤ n
    most d k = let l = longer d e (omega (arith, all)) in omega (arith, done.number)

    -- The links of the first lines stand first.
    front : (d : ℕ) → d ≤ length es → take (length (used_by es d)) links ≡ map (link es) (used_by es d)
    front d k =
        let rest = all_used (drop d (take e es)) in
        sym (take-take (length (used_by es d)) n links (most d k))
        ∙ ap (take (length (used_by es d)))
        (done.taken ∙ ap (map (link es)) (used_split es d e (omega (arith, all))) ∙ map-append (link es) (used_by es d) rest)
        ∙ take_at (map (link es) (used_by es d)) (map (link es) rest) (length (used_by es d)) (length-map (used_by es d) (link es))

    here : (d : ℕ) → d < length es → slice (get_or starts' d 0) (get_or starts' (d + 1) 0) links ≡ map (link es) (uses (line_at es d))
    here d k =
        let next : used_by es (d + 1) ≡ used_by es d ++ uses (line_at es d) = ap (used_by es) (add-one d) ∙ used_next es d k in
        ap (λ (x : ℕ). slice x (get_or starts' (d + 1) 0) links) (started d (omega arith))
        ∙ ap (λ (x : ℕ). slice (length (used_by es d)) x links) (started (d + 1) (omega arith))
        ∙ ap (drop (length (used_by es d)))
        (front (d + 1) (omega arith) ∙ ap (map (link es)) next ∙ map-append (link es) (used_by es d) (uses (line_at es d)))
        ∙ drop_at (map (link es) (used_by es d)) (map (link es) (uses (line_at es d))) (length (used_by es d)) (length-map (used_by es d) (link es))

    pub resolved : Resolved es wrong (set starts count n) links used
    resolved =
        record {
          linked =
              record {
                ordered = λ d k. omega (arith, started d (omega arith), started (d + 1) (omega arith), longer d (d + 1) (omega arith));
                inside = λ d k. omega (arith, started d k, most d k, done.tallied.within);
                here = here;
              };
          counted = λ d k. done.tallied.tally d ∙ ap (times (suc d)) (done.taken ∙ ap (λ (x : ℕ). map (link es) (used_by es x)) all ∙ ap (map (link es)) (used_all es));
          low = done.tallied.low;
          most = done.first.most;
          whole = λ d k. let m = done.first.most in done.first.passed d (omega (arith, all)) k;
          wrong = λ k. (done.first.failed k).1;
        }
