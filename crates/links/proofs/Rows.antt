-- The links of one line's ids, read from the text one after another. Assumes nothing.
use mathlib.Core.Path.{◌≡◌, refl, sym, ap, subst, ◌∙◌}
use mathlib.Core.Bool.{Bool, true, false, ◌||◌}
use mathlib.Core.List.{List, [], ◌∷◌, ◌++◌, map, map-append, append-nil, append_assoc}
use Prim.Native.Nat.{ℕ, suc, ◌+◌, ◌<◌}
use native.Mathlib.Omega.{arith}
use lib.Dec.{eqb}
use lib.ListN.{length, get_or, take, length-append}
use Rattle.std.specs.Prelude.{None, Some}
use Rattle.rules.specs.Text.{number, number_in, feed_follows}
use Rattle.text.proofs.Feeds.{feed_inside, feed_past}
use Rattle.tokens.specs.declared.Plain.{Plain}
use Rattle.tokens.specs.Pieces.{piece_from, as_plain, Spells}
use Rattle.links.specs.Steps.{any_none, Stored}

apart : {A : Type 0} → ◌≡◌ {A = ℕ} 0 1 → A
apart z = absurd (omega arith)

abbrev plain_of : ℕ → ℕ → Plain
plain_of value next = record { value = value; next = next }

-- ---- The text from here on

spells_feed : (text : List ℕ) (at : ℕ) (vs : List ℕ) → Spells text at vs → feed_follows text at ≡ true
spells_feed text at [] s = s.0
spells_feed text at (v ∷ vs) s = s.0

-- A number is ahead.
record Ahead (text : List ℕ) (at : ℕ) (vs : List ℕ) : Type 0 where
  value : ℕ
  next : ℕ
  more : List ℕ
  first : vs ≡ value ∷ more
  reads : number_in (at + 1) (piece_from 32 text (at + 1)) ≡ number value next
  goes : Spells text next more

ahead : (text : List ℕ) (at : ℕ) (vs : List ℕ) → Spells text at vs → get_or text at 0 ≡ 32 → Ahead text at vs
ahead text at [] s q = let z : ◌≡◌ {A = ℕ} 10 32 = sym s.1 ∙ q in absurd (omega arith)
ahead text at (v ∷ vs) s q = record { value = v; next = s.2.0; more = vs; first = refl; reads = s.2.1; goes = s.2.2 }

over : (text : List ℕ) (at : ℕ) (vs : List ℕ) → Spells text at vs → (get_or text at 0 ≡ 32 → ⊥) → vs ≡ []
over text at [] s n = refl
over text at (v ∷ vs) s n = absurd (n s.1)

-- ---- Some ids done, the others ahead

pub record Going (text : List ℕ) (link_of : ℕ → ℕ) (vs : List ℕ) (start : ℕ) (before : List ℕ) (at n : ℕ) (missing : Bool) (links : List ℕ) : Type 0 where
  pub done : List ℕ
  pub rest : List ℕ
  pub both : vs ≡ done ++ rest
  pub spelled : Spells text at rest
  pub stored : Stored link_of done start before n missing links

pub going_starts : (text : List ℕ) (link_of : ℕ → ℕ) (vs : List ℕ) (start : ℕ) (links : List ℕ) (at : ℕ) → Spells text at vs
    → Going text link_of vs start links at start false links
going_starts text link_of vs start links at s =
    record {
      done = [];
      rest = vs;
      both = refl;
      spelled = s;
      stored = record { ends = omega arith; taken = sym (append-nil (take start links)); none = refl };
    }

none_snoc : (link_of : ℕ → ℕ) (xs : List ℕ) (y : ℕ) → any_none (map link_of (xs ++ (y ∷ []))) ≡ (any_none (map link_of xs) || any_none (map link_of (y ∷ [])))
none_snoc link_of [] y = refl
none_snoc link_of (x ∷ xs) y = go (eqb (link_of x) 0) (none_snoc link_of xs y)
  where
    go : (b : Bool) → any_none (map link_of (xs ++ (y ∷ []))) ≡ (any_none (map link_of xs) || any_none (map link_of (y ∷ [])))
        → (b || any_none (map link_of (xs ++ (y ∷ [])))) ≡ ((b || any_none (map link_of xs)) || any_none (map link_of (y ∷ [])))
    go true q = refl
    go false q = q

module _ {text : List ℕ} {link_of : ℕ → ℕ} {vs : List ℕ} {start : ℕ} {before : List ℕ} {at n : ℕ} {missing : Bool} {links : List ℕ}
    (going : Going text link_of vs start before at n missing links) where
  pub going_inside : at < length text
  going_inside = feed_inside text at (spells_feed text at going.rest going.spelled)

  pub going_feeds : get_or text at 0 ≡ 32 → feed_follows text (at + 1) ≡ true
  going_feeds q = feed_past text at (spells_feed text at going.rest going.spelled) (λ z. omega arith)

  -- One link more has room, wherever all of them have.
  pub going_room : get_or text at 0 ≡ 32 → n < start + length vs
  going_room q =
      let a = ahead text at going.rest going.spelled q in
      let e : length vs ≡ length going.done + suc (length a.more) =
      ap length going.both ∙ length-append going.done going.rest ∙ ap (λ (l : List ℕ). length going.done + length l) a.first in
      omega (arith, going.stored.ends)

  pub going_plain : get_or text at 0 ≡ 32 → None ≡ as_plain (number_in (at + 1) (piece_from 32 text (at + 1))) → ⊥
  going_plain q e =
      let a = ahead text at going.rest going.spelled q in
      let z : None ≡ Some (plain_of a.value a.next) = e ∙ ap as_plain a.reads in
      apart (cc)

  pub going_next : {number : Plain} {r found : Bool} {after : List ℕ} → get_or text at 0 ≡ 32
      → Some number ≡ as_plain (number_in (at + 1) (piece_from 32 text (at + 1)))
      → Stored link_of (number.value ∷ []) n links (n + 1) r after → found ≡ (missing || r)
      → Going text link_of vs start before number.next (n + 1) found after
  going_next {number} {r} {found} {after} q e s m =
      record {
        done = g.done ++ (number.value ∷ []);
        rest = a.more;
        both = g.both ∙ ap (λ (l : List ℕ). g.done ++ l) (a.first ∙ ap (λ (x : ℕ). x ∷ a.more) (sym value)) ∙ sym (append_assoc g.done (number.value ∷ []) a.more);
        spelled = subst (λ (p : ℕ). Spells text p a.more) (sym place) a.goes;
        stored =
            record {
              ends = omega (arith, g.stored.ends, length-append g.done (number.value ∷ []));
              taken =
                  s.taken ∙ ap (λ (l : List ℕ). l ++ (link_of number.value ∷ [])) g.stored.taken
                  ∙ append_assoc (take start before) (map link_of g.done) (link_of number.value ∷ [])
                  ∙ ap (λ (l : List ℕ). take start before ++ l) (sym (map-append link_of g.done (number.value ∷ [])));
              none =
                  m ∙ ap (λ (b : Bool). b || r) g.stored.none
                  ∙ ap (λ (b : Bool). any_none (map link_of g.done) || b) s.none
                  ∙ sym (none_snoc link_of g.done number.value);
            };
      }
    where
      g : Going text link_of vs start before at n missing links
      g = going

      a : Ahead text at g.rest
      a = ahead text at g.rest g.spelled q

      told : number ≡ plain_of a.value a.next
      told = let z : Some number ≡ Some (plain_of a.value a.next) = e ∙ ap as_plain a.reads in cc

      value : number.value ≡ a.value
      value = ap (λ (p : Plain). p.value) told

      place : number.next ≡ a.next
      place = ap (λ (p : Plain). p.next) told

  pub going_over : (get_or text at 0 ≡ 32 → ⊥) → Stored link_of vs start before n missing links
  going_over q =
      let e : vs ≡ going.done =
      going.both ∙ ap (λ (l : List ℕ). going.done ++ l) (over text at going.rest going.spelled q) ∙ append-nil going.done in
      subst (λ (l : List ℕ). Stored link_of l start before n missing links) (sym e) going.stored
