-- Members of a list that all have a property, or the first that hasn't, and tests that are joined. By recursion on the list, or on the test.
use mathlib.Core.Path.{◌≡◌, refl, sym, ap, subst}
use mathlib.Core.Bool.{Bool, true, false, ◌&&◌, false≢true}
use mathlib.Core.List.{List, [], ◌∷◌, map}
use mathlib.Core.List.Memᴰ.{append_right as in_right}
use mathlib.Core.List.Memᴰ.{head as here}
use mathlib.Core.List.Memᴰ.{not-nil}
use mathlib.Core.List.Memᴰ.{tail as there}
use mathlib.Core.List.{Memᴰ as Mem}
use Prim.Native.Nat.{ℕ, zero, suc, ◌<◌}
use native.Mathlib.Omega.{arith}
use lib.ListN.{length, get_or}
pub use Rattle.rules.specs.Refusals.{Each, First}

module _ {A : Type 0} (P : A → Type 0) where
  pub each_nil : Each P []
  each_nil x m = absurd (not-nil m)

  pub each_cons : (y : A) (l : List A) → P y → Each P l → Each P (y ∷ l)
  each_cons y l p f x (here e) = subst P (sym e) p
  each_cons y l p f x (there m) = f x m

  pub each_tail : (y : A) (l : List A) → Each P (y ∷ l) → Each P l
  each_tail y l f x m = f x (there m)

  pub each_at : (l : List A) (i : ℕ) (d : A) → Each P l → i < length l → P (get_or l i d)
  each_at [] i d f h = absurd (omega arith)
  each_at (y ∷ l) zero d f h = f y (here refl)
  each_at (y ∷ l) (suc i) d f h = each_at l i d (each_tail y l f) (omega arith)

pub each_map : {A B : Type 0} (P : B → Type 0) (f : A → B) (l : List A) → Each (λ x. P (f x)) l → Each P (map f l)
each_map P f [] h = each_nil P
each_map P f (x ∷ l) h = each_cons P (f x) (map f l) (h x (here refl)) (each_map P f l (each_tail (λ y. P (f y)) x l h))

pub each_weaken : {A : Type 0} (P Q : A → Type 0) (l : List A) → ((x : A) → P x → Q x) → Each P l → Each Q l
each_weaken P Q l g f x m = g x (f x m)

pub both_true : (a b : Bool) → (a && b) ≡ true → (a ≡ true) × (b ≡ true)
both_true true b e = (refl, e)
both_true false b e = absurd (false≢true e)

abbrev pub first_here : {A : Type 0} {Good Bad : A → Type 0} (x : A) (l : List A) → Bad x → First Good Bad (x ∷ l)
first_here {Good = Good} x l b = record { before = []; it = x; after = l; split = refl; good = each_nil Good; bad = b }

abbrev pub first_later : {A : Type 0} {Good Bad : A → Type 0} (x : A) (l : List A) → Good x → First Good Bad l → First Good Bad (x ∷ l)
first_later {A} {Good} x l g w =
    record {
      before = x ∷ w.before;
      it = w.it;
      after = w.after;
      split = ap (λ (m : List A). x ∷ m) w.split;
      good = each_cons Good x w.before g w.good;
      bad = w.bad;
    }

pub first_in : {A : Type 0} {Good Bad : A → Type 0} (l : List A) (w : First Good Bad l) → Mem w.it l
first_in {A} l w = subst (λ (m : List A). Mem w.it m) (sym w.split) (in_right w.before (here refl))
