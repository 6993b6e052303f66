-- The line that starts at a place, from its line feed to its end. Assumes nothing.
use mathlib.Core.Path.{◌≡◌, refl, sym, ap, ◌∙◌, subst}
use mathlib.Core.Bool.{Bool, true, false, false≢true}
use mathlib.Core.Logic.{◌≢◌, ◌⊎◌, inl, inr}
use mathlib.Core.List.{List, [], ◌∷◌, ◌++◌}
use mathlib.Core.Option.{Option, none, some}
use Prim.Native.Nat.{ℕ, ◌+◌, ◌-◌, ◌<◌}
use native.Mathlib.Omega.{arith}
use lib.Dec.{eqb}
use lib.ListN.{length, drop, get_or, length-append, length-drop}
use lib.Seq.{append_snoc, get_or_at, drop-drop}
use borrow.Author.Tests.{eqb-true, eqb-false}
use Rattle.rules.specs.declared.Header.{Header}
use Rattle.rules.specs.Text.{is_feed, is_comma, field_of, letter_of, letter_at, has_feed, feed_follows}
use Rattle.rules.specs.Table.{Role, header, initial, action, method, constraint, plan, node, Row, row_of, role_number, Value, LineRead, read_items, read_row, read_letter, read_line}
use Rattle.rules.specs.Faults.{onto, pieces, Ended, text_line, fields_at, LetterOf, NumbersRight, Awaited, due_after, Comes, Unread, Outside}
use Rattle.rules.proofs.Faults.Fields.{Left, LineIn, line_in}
use Rattle.rules.proofs.Outcomes.{LineSays}
use Rattle.rules.proofs.Faults.Items.{items_say}
use Rattle.rules.proofs.Faults.Rows.{Meant, row_means}

-- ---- The lines of the text

-- Line l starts at a place.
pub record Starts (text : List ℕ) (l place : ℕ) : Type 0 where
  pub past : List (List ℕ)
  pub lines : pieces is_feed text ≡ past ++ pieces is_feed (drop place text)
  pub counted : l ≡ length past + 1

pub starts_first : (text : List ℕ) → Starts text 1 0
starts_first text = record { past = []; lines = refl; counted = refl }

-- Without a line feed all is one part.
split_none : (bs : List ℕ) → has_feed bs ≡ false → pieces is_feed bs ≡ bs ∷ []
split_none [] e = refl
split_none (b ∷ bs) e = go (is_feed b) e (split_none bs)
  where
    go : (t : Bool) → elim t as (λ x. Bool) [ true ↦ true | false ↦ has_feed bs ] ≡ false → (has_feed bs ≡ false → pieces is_feed bs ≡ bs ∷ [])
        → elim t as (λ x. List (List ℕ)) [ true ↦ [] ∷ pieces is_feed bs | false ↦ onto b (pieces is_feed bs) ] ≡ (b ∷ bs) ∷ []
    go true e ih = absurd (false≢true (sym e))
    go false e ih = ap (onto b) (ih e)

split_some : (parts : ℕ → Bool) (bs : List ℕ) → 0 < length (pieces parts bs)
split_some parts [] = omega arith
split_some parts (b ∷ bs) = go (parts b)
  where
    on : (ps : List (List ℕ)) → 0 < length (onto b ps)
    on [] = omega arith
    on (p ∷ ps) = omega arith

    go : (t : Bool) → 0 < length {A = List ℕ} (elim t as (λ x. List (List ℕ)) [ true ↦ [] ∷ pieces parts bs | false ↦ onto b (pieces parts bs) ])
    go true = omega arith
    go false = on (pieces parts bs)

module _ (text : List ℕ) (l place : ℕ) (s : Starts text l place) where
  pub line_is : {x : List ℕ} {xs : List (List ℕ)} → pieces is_feed (drop place text) ≡ x ∷ xs → text_line text l ≡ x
  unfolding text_line
  line_is {x} {xs} e =
      ap (λ (t : List (List ℕ)). get_or t (l - 1) []) (s.lines ∙ ap (λ (t : List (List ℕ)). s.past ++ t) e)
      ∙ get_or_at s.past x xs [] (l - 1) (omega (arith, s.counted))

  pub next_starts : (line : List ℕ) (next : ℕ) → pieces is_feed (drop place text) ≡ line ∷ pieces is_feed (drop next text) → Starts text (l + 1) next
  next_starts line next e =
      record {
        past = s.past ++ line ∷ [];
        lines = s.lines ∙ ap (λ (t : List (List ℕ)). s.past ++ t) e ∙ sym (append_snoc s.past line (pieces is_feed (drop next text)));
        counted = simp length-append (omega (arith, s.counted));
      }

  pub unended : has_feed (drop place text) ≡ false → Ended text l → ⊥
  unfolding Ended
  unended e h =
      let one : pieces is_feed (drop place text) ≡ drop place text ∷ [] = split_none (drop place text) e in
      omega (arith, s.counted, h, simp length-append at (ap length s.lines), ap length one)

  module _ (w : LineIn (drop place text)) where
    pub ended_here : Ended text l
    unfolding Ended
    ended_here =
        omega (arith, s.counted, simp length-append at (ap length s.lines), ap length w.lines, split_some is_feed w.after)

    fields_are : fields_at text l ≡ field_of (drop place text) ∷ w.fields
    unfolding fields_at
    fields_are = ap (pieces is_comma) (line_is w.lines) ∙ w.parted

    first_is : get_or (fields_at text l) 0 [] ≡ field_of (drop place text)
    first_is = ap (λ (t : List (List ℕ)). get_or t 0 []) fields_are

    starts_next : (next : ℕ) → drop next text ≡ w.after → Starts text (l + 1) next
    starts_next next e = next_starts w.line next (w.lines ∙ ap (λ (bs : List ℕ). w.line ∷ pieces is_feed bs) (sym e))

-- What stands past the last line that is due is a line, ended or not.
pub surplus_line : (text : List ℕ) (l place : ℕ) → Starts text l place → place < length text → Ended text l ⊎ (text_line text l ≢ [])
surplus_line text l place s h = go (has_feed (drop place text)) refl
  where
    go : (t : Bool) → has_feed (drop place text) ≡ t → Ended text l ⊎ (text_line text l ≢ [])
    go true e = inl (ended_here text l place s (line_in (drop place text) e))
    go false e =
        inr (λ empty.
        let none : drop place text ≡ [] = sym (line_is text l place s (split_none (drop place text) e)) ∙ empty in
        omega (arith, h, length-drop place text, ap length none))

-- ---- Roles

roles : List Role
roles = header ∷ header ∷ initial ∷ action ∷ method ∷ constraint ∷ plan ∷ node ∷ []

role_at : (r : Role) → get_or roles (role_number r) header ≡ r
unfolding roles role_number
role_at header = refl
role_at initial = refl
role_at action = refl
role_at method = refl
role_at constraint = refl
role_at plan = refl
role_at node = refl

same_role : (r s : Role) → role_number r ≡ role_number s → r ≡ s
same_role r s e = sym (role_at r) ∙ ap (λ (i : ℕ). get_or roles i header) e ∙ role_at s

-- ---- Reading

-- A line has been read: what it means for the lines to come, and where the next one starts.
pub record Reads (text : List ℕ) (l : ℕ) (h : Header) (role : Role) (later : List Awaited) (vs : List Value) (place : ℕ) : Type 0 where
  pub numbers : List ℕ
  pub meant : Meant role vs numbers
  pub comes : Comes text (l + 1) (due_after role numbers h later)
  pub starts : Starts text (l + 1) place

module _ (text : List ℕ) (l place : ℕ) (h : Header) (role : Role) (n : ℕ) (later : List Awaited) (comes : Comes text l (h, (role, n) ∷ later))
    (s : Starts text l place) where
  abbrev Says : LineRead → Type 0
  Says = LineSays (Unread text l) (Outside text l) (λ b vs next. Reads text l h role later vs next)

  module _ (w : LineIn (drop place text)) where
    no_letter_lem : {f : List ℕ} → field_of (drop place text) ≡ f → ((b : ℕ) (r : Row) → f ≡ b ∷ [] → row_of b ≡ some r → r.role ≡ role → ⊥)
        → Unread text l 1
    no_letter_lem {f} e wrong =
        Unread.letter comes (ended_here text l place s w)
        (λ r x. wrong x.letter r (sym e ∙ sym (first_is text l place s w) ∙ x.alone) x.row x.right)

    row_says : (b : ℕ) → field_of (drop place text) ≡ b ∷ [] → (o : Option Row) → row_of b ≡ o → Says (read_row text role h n b (place + 1) o)
    row_says b e none p = no_letter_lem e (λ b' r q q' q''. let z : ◌≡◌ {A = ℕ} 0 1 = cc in omega arith)
    row_says b e (some r) p = go (eqb (role_number role) (role_number r.role)) refl
      where
        read : r.role ≡ role → Says (read_items text h n b r.items [] 2 (place + 1))
        read same =
            let ended : Ended text l = ended_here text l place s w in
            let letter : LetterOf role (fields_at text l) r = record { letter = b; alone = first_is text l place s w ∙ e; row = p; right = same } in
            items_say text l h role n later r w.after comes ended letter
            (λ b vs next. Reads text l h role later vs next) b r.items [] 2 (place + 1) []
            (record {
              right = NumbersRight.start;
              then = λ xs. refl;
              counted = refl;
              past = (b ∷ []) ∷ [];
              fs = w.fields;
              parted = fields_are text l place s w ∙ ap (λ (f : List ℕ). f ∷ w.fields) e;
              past_length = refl;
              left =
                  subst (λ (bs : List ℕ). Left bs w.fields w.after)
                  (ap (λ (f : List ℕ). drop (length f) (drop place text)) e ∙ drop-drop 1 place text) w.left;
            })
            (λ vs numbers next holds all.
            record {
              numbers = numbers;
              meant = subst (λ (x : Role). Meant x vs numbers) same (row_means b p vs numbers holds);
              comes = Comes.next comes (record { ended = ended; letter = letter; right = all.right }) all.none_due all.counted;
              starts = starts_next text l place s w next all.rest;
            })

        go : (t : Bool) → eqb (role_number role) (role_number r.role) ≡ t
            → Says (elim t [ true ↦ read_items text h n b r.items [] 2 (place + 1) | false ↦ LineRead.unreadable 1 ])
        go true t = read (same_role r.role role (sym (eqb-true (role_number role) (role_number r.role) t)))
        go false t =
            no_letter_lem e (λ b' r' q q' q''.
            let same : r' ≡ r = cc in
            eqb-false (role_number role) (role_number r.role) t (ap role_number (sym q'' ∙ ap (λ (x : Row). x.role) same)))

    letter_says : (f : List ℕ) → field_of (drop place text) ≡ f → Says (read_letter text role h n (letter_of place f))
    letter_says [] e = no_letter_lem e (λ b r q q' q''. let z : ◌≡◌ {A = ℕ} 0 1 = cc in omega arith)
    letter_says (b ∷ []) e = row_says b e (row_of b) refl
    letter_says (b ∷ c ∷ bs) e = no_letter_lem e (λ b r q q' q''. let z : ◌≡◌ {A = ℕ} 0 1 = cc in omega arith)

  pub line_says : Says (read_line text role h n place)
  unfolding read_line feed_follows letter_at
  line_says = go (has_feed (drop place text)) refl
    where
      go : (t : Bool) → has_feed (drop place text) ≡ t
          → Says (elim t [ true ↦ read_letter text role h n (letter_of place (field_of (drop place text))) | false ↦ LineRead.unreadable 0 ])
      go true e = letter_says (line_in (drop place text) e) (field_of (drop place text)) refl
      go false e = Unread.unended comes (unended text l place s e)
