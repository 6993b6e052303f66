-- The shapes of a form's lines as statements (02, Card 6, number 17): the words of a line give one just where it has that shape, as each shape has
-- its number of words, and its tests are those of the statement. Assumes nothing.
use mathlib.Core.Path.{◌≡◌, refl, sym, ap, ◌∙◌}
use mathlib.Core.Bool.{Bool, true, false, ◌&&◌, false≢true}
use mathlib.Core.List.Memᴰ.{head as here}
use mathlib.Core.List.{List, [], ◌∷◌, map}
use mathlib.Core.Logic.{◌↔◌}
use mathlib.Core.Option.{Option, none, some}
use Prim.Native.Nat.{ℕ, ◌<◌}
use native.Mathlib.Omega.{arith}
use lib.ListN.{length}
use Rattle.rules.specs.Text.{is_plain}
use Rattle.rules.specs.Faults.{Ended, text_line}
use Rattle.rules.specs.Tokens.{words_of, is_name, same_bytes, all_plain, id_of}
use Rattle.rules.specs.Form.{opening_word, root_word, arrow_word, closing_word, opening_of, Front, an_action, the_root, front_of, Back, a_compound, the_end, back_of}
use Rattle.rules.specs.FormFaults.{HasWords, ActionAt, RootAt, CompoundAt}
use Rattle.rules.proofs.Tables.{and_both}
use Rattle.rules.proofs.Judgement.Each.{Each, each_nil, each_cons, each_tail, both_true}
use Rattle.rules.proofs.Import.Says.{same_bytes_lem}

-- P of what is there; where nothing is, P of nothing.
abbrev pub JustWhere : {A : Type 0} → (A → Type 0) → Option A → Type 0
JustWhere {A} P none = (a : A) → P a → ⊥
JustWhere P (some a) = P a

abbrev pub Opens : List ℕ → ℕ → Unit {0} → Type 0
Opens text l u = HasWords text l (opening_word ∷ [])

abbrev pub FrontAt : List ℕ → ℕ → Front → Type 0
FrontAt text l (an_action id name) = ActionAt text l id name
FrontAt text l (the_root id) = RootAt text l id

abbrev pub BackAt : List ℕ → ℕ → Back → Type 0
BackAt text l (a_compound id name method subtasks) = CompoundAt text l id name method subtasks
BackAt text l the_end = HasWords text l (closing_word ∷ [])

-- What a test lets through; or else what comes then.
tested_else : {A : Type 0} (P : A → Type 0) (b : Bool) (a : A) (o : Option A) → (b ≡ true → P a) → (b ≡ false → JustWhere P o)
    → JustWhere {A = A} P (elim b [ true ↦ some a | false ↦ o ])
tested_else P true a o f g = f refl
tested_else P false a o f g = g refl

tested : {A : Type 0} (P : A → Type 0) (b : Bool) (a : A) → (b ≡ true → P a) → ((x : A) → P x → b ≡ true)
    → JustWhere {A = A} P (elim b [ true ↦ some a | false ↦ none ])
tested P b a f g = tested_else P b a none f (λ q x p. false≢true (sym q ∙ g x p))

all_plain_lem : (ws : List (List ℕ)) → (all_plain ws ≡ true) ↔ Each (λ w. is_plain w ≡ true) ws
all_plain_lem [] = (λ e. each_nil (λ w. is_plain w ≡ true), λ f. refl)
all_plain_lem (w ∷ ws) =
    let (to, from) = all_plain_lem ws in (
      λ e. let (p, q) = both_true (is_plain w) (all_plain ws) e in each_cons (λ w. is_plain w ≡ true) w ws p (to q),
      λ f. and_both (f w (here refl)) (from (each_tail (λ w. is_plain w ≡ true) w ws f)),
    )

module _ (text : List ℕ) (l : ℕ) (ended : Ended text l) where
  abbrev Words : List (List ℕ) → Type 0
  Words ws = words_of (text_line text l) ≡ ws

  pub opening_shape : (ws : List (List ℕ)) → Words ws → JustWhere (Opens text l) (opening_of ws)
  opening_shape [] e = λ u h. omega (arith, ap length (sym e ∙ h.are))
  opening_shape (w ∷ []) e =
      tested (Opens text l) (same_bytes w opening_word) tt
      (λ q. record { ended = ended; are = e ∙ ap (λ (x : List ℕ). x ∷ []) ((same_bytes_lem w opening_word).0 q) })
      (λ u h. (same_bytes_lem w opening_word).1 (let p = h.are in cc))
  opening_shape (w ∷ v ∷ ws) e = λ u h. omega (arith, ap length (sym e ∙ h.are))

  -- ---- An action line or the root line

  not_front : (ws : List (List ℕ)) → Words ws → (length ws ≡ 2 → ⊥) → (x : Front) → FrontAt text l x → ⊥
  not_front ws e n (an_action id name) h = n (ap length (sym e ∙ h.words.are))
  not_front ws e n (the_root id) h = n (ap length (sym e ∙ h.words.are))

  pub front_shape : (ws : List (List ℕ)) → Words ws → JustWhere (FrontAt text l) (front_of ws)
  front_shape [] e = not_front [] e (λ q. omega arith)
  front_shape (w ∷ []) e = not_front (w ∷ []) e (λ q. omega arith)
  front_shape (w ∷ v ∷ []) e =
      tested_else (FrontAt text l) (same_bytes w root_word && is_plain v) (the_root (id_of v)) _ root
      (λ q. tested (FrontAt text l) (is_plain w && is_name v) (an_action (id_of w) v) action (passes q))
    where
      root : (same_bytes w root_word && is_plain v) ≡ true → RootAt text l (id_of v)
      root q =
          let (p, r) = both_true (same_bytes w root_word) (is_plain v) q in
          record {
            word = v;
            words = record { ended = ended; are = e ∙ ap (λ (x : List ℕ). x ∷ v ∷ []) ((same_bytes_lem w root_word).0 p) };
            is = record { plain = r; value = refl };
          }

      action : (is_plain w && is_name v) ≡ true → ActionAt text l (id_of w) v
      action q =
          let (p, r) = both_true (is_plain w) (is_name v) q in
          record { word = w; words = record { ended = ended; are = e }; is = record { plain = p; value = refl }; named = r }

      passes : (same_bytes w root_word && is_plain v) ≡ false → (x : Front) → FrontAt text l x → (is_plain w && is_name v) ≡ true
      passes q (an_action id name) h =
          let a = h.words.are in
          let b = h.is.plain in
          let c = h.named in
          let p : is_plain w ≡ true = cc in
          let r : is_name v ≡ true = cc in
          and_both p r
      passes q (the_root id) h =
          let a = h.words.are in
          let b = h.is.plain in
          let s : w ≡ root_word = cc in
          let p : is_plain v ≡ true = cc in
          absurd (false≢true (sym q ∙ and_both ((same_bytes_lem w root_word).1 s) p))
  front_shape (w ∷ v ∷ u ∷ ws) e = not_front (w ∷ v ∷ u ∷ ws) e (λ q. omega arith)

  -- ---- A compound line or the last line

  not_back : (ws : List (List ℕ)) → Words ws → (length ws ≡ 1 → ⊥) → length ws < 4 → (x : Back) → BackAt text l x → ⊥
  not_back ws e n c (a_compound id name method subtasks) h = omega (arith, ap length (sym e ∙ h.words.are))
  not_back ws e n c the_end h = n (ap length (sym e ∙ h.are))

  pub back_shape : (ws : List (List ℕ)) → Words ws → JustWhere (BackAt text l) (back_of ws)
  back_shape [] e = not_back [] e (λ q. omega arith) (omega arith)
  back_shape (w ∷ []) e =
      tested (BackAt text l) (same_bytes w closing_word) the_end
      (λ q. record { ended = ended; are = e ∙ ap (λ (x : List ℕ). x ∷ []) ((same_bytes_lem w closing_word).0 q) }) passes
    where
      passes : (x : Back) → BackAt text l x → same_bytes w closing_word ≡ true
      passes (a_compound id name method subtasks) h = absurd (omega (arith, ap length (sym e ∙ h.words.are)))
      passes the_end h = (same_bytes_lem w closing_word).1 (let p = h.are in cc)
  back_shape (w ∷ t ∷ []) e = not_back (w ∷ t ∷ []) e (λ q. omega arith) (omega arith)
  back_shape (w ∷ t ∷ v ∷ []) e = not_back (w ∷ t ∷ v ∷ []) e (λ q. omega arith) (omega arith)
  back_shape (w ∷ t ∷ v ∷ m ∷ ids) e =
      tested (BackAt text l) (is_plain w && (is_name t && (same_bytes v arrow_word && (is_name m && all_plain ids)))) (a_compound (id_of w) t m (map id_of ids))
      compound passes
    where
      compound : (is_plain w && (is_name t && (same_bytes v arrow_word && (is_name m && all_plain ids)))) ≡ true → CompoundAt text l (id_of w) t m (map id_of ids)
      compound q =
          let (a, q₁) = both_true (is_plain w) (is_name t && (same_bytes v arrow_word && (is_name m && all_plain ids))) q in
          let (b, q₂) = both_true (is_name t) (same_bytes v arrow_word && (is_name m && all_plain ids)) q₁ in
          let (c, q₃) = both_true (same_bytes v arrow_word) (is_name m && all_plain ids) q₂ in
          let (d, f) = both_true (is_name m) (all_plain ids) q₃ in
          record {
            word = w;
            more = ids;
            words = record { ended = ended; are = e ∙ ap (λ (x : List ℕ). w ∷ t ∷ x ∷ m ∷ ids) ((same_bytes_lem v arrow_word).0 c) };
            is = record { plain = a; value = refl };
            named = b;
            method_named = d;
            plain = (all_plain_lem ids).0 f;
            values = refl;
          }

      passes : (x : Back) → BackAt text l x → (is_plain w && (is_name t && (same_bytes v arrow_word && (is_name m && all_plain ids)))) ≡ true
      passes (a_compound id name method subtasks) h =
          let are = h.words.are in
          let a' = h.is.plain in
          let b' = h.named in
          let d' = h.method_named in
          let f' = (all_plain_lem h.more).1 h.plain in
          let a : is_plain w ≡ true = cc in
          let b : is_name t ≡ true = cc in
          let c : v ≡ arrow_word = cc in
          let d : is_name m ≡ true = cc in
          let f : all_plain ids ≡ true = cc in
          and_both a (and_both b (and_both ((same_bytes_lem v arrow_word).1 c) (and_both d f)))
      passes the_end h = absurd (omega (arith, ap length (sym e ∙ h.are)))
