-- The lines that are visited from the root's line are those whose ids are reached from the root. Assumes nothing.
use mathlib.Core.Path.{◌≡◌, refl, sym, ap, ◌∙◌, subst}
use mathlib.Core.Bool.{Bool, true, false, not, false≢true}
use mathlib.Core.List.{List, [], ◌∷◌}
use mathlib.Core.List.Memᴰ.{head as here}
use mathlib.Core.List.Memᴰ.{map as in_map}
use mathlib.Core.List.Memᴰ.{of_map}
use mathlib.Core.List.Memᴰ.{tail as there}
use mathlib.Core.List.{Memᴰ as Mem}
use mathlib.Core.Logic.{⊎_elim}
use Prim.Native.Nat.{ℕ, zero, suc, ◌+◌, ◌-◌, ◌≤◌, ◌<◌}
use native.Mathlib.Omega.{arith}
use lib.Dec.{eqb}
use lib.ListN.{length, get_or, take}
use lib.Seq.{slice, length-slice, get_or-take, get_or-drop}
use borrow.Author.Tests.{eq-eqb, ne_eqb}
use Rattle.rules.specs.Form.{FormLine, defines, uses, is_reached, Reached, at_root, onward}
use Rattle.rules.proofs.Import.{is_reached_lem}
use Rattle.links.specs.Links.{no_line, line_at, link, Linked, Twins}
use Rattle.reaching.specs.Visited.{Visited, begin, linked, twinned, Marked}
use Rattle.wrongs.proofs.Firsts.{same_or_not, link_first, link_none}

-- ---- Places in a list

in_at : {A : Type 0} {x : A} {l : List A} (z : A) → Mem x l → (i : ℕ) × (i < length l) × (get_or l i z ≡ x)
in_at z (here s) = (0, omega arith, sym s)
in_at z (there m) = let (i, h, s) = in_at z m in (suc i, omega arith, s)

at_in : {A : Type 0} (z : A) (l : List A) (i : ℕ) → i < length l → Mem (get_or l i z) l
at_in z [] i h = absurd (omega arith)
at_in z (x ∷ l) zero h = here refl
at_in z (x ∷ l) (suc i) h = there (at_in z l i (omega arith))

slice_at : (l : List ℕ) (from to i : ℕ) → from + i < to → get_or (slice from to l) i 0 ≡ get_or l (from + i) 0
slice_at l from to i h = get_or-drop from (take to l) i 0 ∙ get_or-take to l (from + i) 0 h

line_of : {es : List FormLine} {e : FormLine} → Mem e es → (j : ℕ) × (j < length es) × (line_at es j ≡ e)
unfolding line_at
line_of m = in_at no_line m

line_in : (es : List FormLine) (j : ℕ) → j < length es → Mem (line_at es j) es
unfolding line_at
line_in es j h = at_in no_line es j h

-- ---- A line's links

module _ {es : List FormLine} {starts links : List ℕ} (n : Linked es starts links) (e : ℕ) (h : e < length es) where
  room : get_or starts (e + 1) 0 ≤ length links
  room = n.inside (e + 1) (omega arith)

  -- Each subtask's link is among them.
  use_link : (s : ℕ) → Mem s (uses (line_at es e))
      → (u : ℕ) × (get_or starts e 0 ≤ u) × (u < get_or starts (e + 1) 0) × (get_or links u 0 ≡ link es s)
  use_link s m =
      let from = get_or starts e 0 in
      let to = get_or starts (e + 1) 0 in
      let (i, k, q) = in_at 0 (subst (Mem (link es s)) (sym (n.here e h)) (in_map (link es) m)) in
      let low : from + i < to = omega (arith, length-slice from to links room) in
      (from + i, omega arith, low, sym (slice_at links from to i low) ∙ q)

  -- Each of them is a subtask's.
  link_use : (u : ℕ) → get_or starts e 0 ≤ u → u < get_or starts (e + 1) 0 → (s : ℕ) × Mem s (uses (line_at es e)) × (link es s ≡ get_or links u 0)
  link_use u f t =
      let from = get_or starts e 0 in
      let to = get_or starts (e + 1) 0 in
      let i = u - from in
      let q : get_or (slice from to links) i 0 ≡ get_or links u 0 =
      slice_at links from to i (omega arith) ∙ ap (λ (x : ℕ). get_or links x 0) (omega arith) in
      let m = at_in 0 (slice from to links) i (omega (arith, length-slice from to links room)) in
      let (s, k, p) = of_map (link es) (uses (line_at es e)) (subst (Mem (get_or (slice from to links) i 0)) (n.here e h) m) in
      (s, k, p ∙ q)

-- ---- The root's link is 0

-- No line's id is reached.
none_reached : {es : List FormLine} {id x : ℕ} → link es id ≡ 0 → Reached es id x → x ≡ id
none_reached z at_root = refl
none_reached {es} {id} z (onward e s m v u) =
    let (j, h, p) = line_of m in
    absurd (link_none es id z j h (ap defines p ∙ none_reached z v))

-- ---- The root has a line

module _ {es : List FormLine} {starts links twin : List ℕ} (n : Linked es starts links) (t : Twins es twin) (id r : ℕ) (root : link es id ≡ suc r) where
  -- With the first line that defines an id each other that does is visited.
  all_visited : (bound d : ℕ) → d < bound → (x k : ℕ) → link es x ≡ suc k → Visited starts links twin r k → d < length es
      → defines (line_at es d) ≡ x → Visited starts links twin r d
  all_visited zero d b x k l v h s = absurd (omega arith)
  all_visited (suc bound) d b x k l v h s =
      ⊎_elim
      (λ f. let same : k ≡ d = omega (arith, ap (link es) s) in subst (Visited starts links twin r) same v)
      (λ (e, g, w). twinned e d (all_visited bound e (omega arith) x k l v (omega arith) (sym (t.later e d (omega arith) w).2 ∙ s)) w)
      (t.chained d h)

  -- A visited line's subtasks: the first line that defines one.
  use_visited : (j : ℕ) → j < length es → Visited starts links twin r j → (x : ℕ) → Mem x (uses (line_at es j)) → (i : ℕ) → link es x ≡ suc i
      → Visited starts links twin r i
  use_visited j h v x m i l =
      let (u, from, to, q) = use_link n j h x m in
      linked j i u v from to (q ∙ l)

  -- Each line that defines a reached id is visited.
  reached_visited : {x : ℕ} → Reached es id x → (d : ℕ) → d < length es → defines (line_at es d) ≡ x → Visited starts links twin r d
  reached_visited at_root d h s = all_visited (suc d) d (omega arith) id r root begin h s
  reached_visited (onward e x m v u) d h s =
      let (j, k, p) = line_of m in
      go (link es x) refl (use_visited j k (reached_visited v j k (ap defines p)) x (subst (λ (z : FormLine). Mem x (uses z)) (sym p) u))
    where
      go : (l : ℕ) → link es x ≡ l → ((i : ℕ) → link es x ≡ suc i → Visited starts links twin r i) → Visited starts links twin r d
      go zero q f = absurd (link_none es x q d h s)
      go (suc i) q f = all_visited (suc d) d (omega arith) x i q (f i q) h s

  -- The id of each visited line is reached.
  visited_reached : {d : ℕ} → Visited starts links twin r d → (d < length es) × Reached es id (defines (line_at es d))
  visited_reached begin =
      let f = link_first es id r root in
      (f.low, subst (Reached es id) (sym f.same) at_root)
  visited_reached (linked e d u v from to l) =
      let (h, k) = visited_reached v in
      let (s, m, p) = link_use n e h u from to in
      let f = link_first es s d (p ∙ l) in
      (f.low, subst (Reached es id) (sym f.same) (onward (line_at es e) s (line_in es e h) k m))
  visited_reached (twinned e d v l) =
      let (h, k) = visited_reached v in
      let (g, low, s) = t.later e d h l in
      (low, subst (Reached es id) (sym s) k)

-- ---- The marks

-- A line is marked if its id is reached.
pub marked_reached : (es : List FormLine) (starts links twin marks : List ℕ) (root id : ℕ) → Linked es starts links → Twins es twin → root ≡ link es id
    → (root ≡ 0 → (d : ℕ) → get_or marks d 0 ≡ 0) → ((r : ℕ) → root ≡ suc r → Marked starts links twin r marks) → (e : ℕ) → e < length es
    → eqb (get_or marks e 0) 0 ≡ not (is_reached es id (defines (line_at es e)))
marked_reached es starts links twin marks root id n t s z m e h =
    go root refl (is_reached es id (defines (line_at es e))) refl
  where
    reached : Reached es id (defines (line_at es e)) → is_reached es id (defines (line_at es e)) ≡ true
    reached v = (is_reached_lem es id (defines (line_at es e))).1 v

    go : (l : ℕ) → root ≡ l → (b : Bool) → is_reached es id (defines (line_at es e)) ≡ b → eqb (get_or marks e 0) 0 ≡ not b
    go zero q true p =
        let v = (is_reached_lem es id (defines (line_at es e))).0 p in
        absurd (link_none es id (sym s ∙ q) e h (none_reached (sym s ∙ q) v))
    go zero q false p = eq-eqb (get_or marks e 0) 0 (z q e)
    go (suc r) q true p =
        let v = reached_visited n t id r (sym s ∙ q) ((is_reached_lem es id (defines (line_at es e))).0 p) e h refl in
        ne_eqb (get_or marks e 0) 0 (λ o. omega (arith, (m r q).all e v))
    go (suc r) q false p =
        ⊎_elim
        (λ o. eq-eqb (get_or marks e 0) 0 o)
        (λ o. absurd (false≢true (sym p ∙ reached (visited_reached n t id r (sym s ∙ q) ((m r q).only e o)).1)))
        (same_or_not (get_or marks e 0) 0)
