-- What the three texts of the import call show, whether they make a case or not (02, Card 6): each row is tried only after those before it have
-- passed, so a refusal is read off row by row: 1 to 4 on the case, 17 and 18 on the name list and on the form, 19. Assumes nothing.
use mathlib.Core.Path.{◌≡◌, refl, sym, subst}
use mathlib.Core.List.{List}
use Prim.Native.Nat.{ℕ}
use native.Mathlib.Omega.{arith}
use Rattle.rules.specs.declared.Answer.{Answer}
use Rattle.rules.specs.declared.Answer.TheVariants.{WrongId}
use Rattle.rules.specs.Result.{Result, found, refused}
use Rattle.rules.specs.Case.{Case, read_case}
use Rattle.rules.specs.Verdict.{Lent, reported, lists_long, text_short}
use Rattle.rules.specs.Refusals.{Each, LongEnough, Admits, short, long}
use Rattle.rules.specs.Naming.{Names, read_names}
use Rattle.rules.specs.Form.{Form, read_form, ids_right}
use Rattle.rules.specs.FormFaults.{NamesFault, NamesAre, FormFault, FormIs, WrongAt, FirstWrong}
use Rattle.rules.specs.Import.{made_from, Stops, on_case, on_names, on_form, on_ids, Passes, MadeShows}
use Rattle.rules.proofs.Faults.{CaseSays, reading_shows}
use Rattle.rules.proofs.Judgement.Refusals.{ListsSay, lists_say, TextSays, short_says, unread_shows}
use Rattle.rules.proofs.Import.Says.{Says, says_bind, says_then, says_weaken}
use Rattle.rules.proofs.Import.NamesShow.{names_say, distinct_names}
use Rattle.rules.proofs.Import.LinesShow.{lines_say}
use Rattle.rules.proofs.Import.IdsShow.{ids_say}

module _ (lists : List Lent) (text names form : List ℕ) where
  -- What refuses these.
  abbrev Stop : Answer → Type 0
  Stop = Stops lists text names form

  -- ---- Rows 1 to 4

  lists_stop : Says (λ u. Each LongEnough lists) Stop (lists_long lists)
  unfolding reported
  lists_stop = go (lists_long lists) (lists_say lists)
    where
      go : (o : Result (Unit {0})) → ListsSay lists o → Says (λ u. Each LongEnough lists) Stop o
      go (found u) l = l
      go (refused r) (l, e) = subst Stop (sym e) (on_case (omega arith) (short l))

  text_stops : Each LongEnough lists → Says (λ u. Admits lists text) Stop (text_short text)
  unfolding reported
  text_stops l = go (text_short text) (short_says text)
    where
      go : (o : Result (Unit {0})) → TextSays text o → Says (λ u. Admits lists text) Stop o
      go (found u) h = record { long_lists = l; short_text = h }
      go (refused r) (h, e) = subst Stop (sym e) (on_case (omega arith) (long l h))

  case_stops : Admits lists text → Says (λ k. read_case text ≡ found k) Stop (read_case text)
  case_stops a = go (read_case text) refl (reading_shows text)
    where
      go : (o : Result Case) → read_case text ≡ o → CaseSays text o → Says (λ k. read_case text ≡ found k) Stop o
      go (found k) e s = e
      go (refused r) e s = let (h, w) = unread_shows lists text a r s in on_case h w

  -- ---- 17, 18 and 19

  stops : {A : Type 0} (P : A → Type 0) (R : Answer → Type 0) (o : Result A) → ((r : Answer) → R r → Stop r) → Says P R o → Says P Stop o
  stops P R o f = says_weaken P P R Stop o (λ a p. p) f

  module _ (k : Case) (a : Admits lists text) (e : read_case text ≡ found k) where
    names_stop : Says (NamesAre k.head names) Stop (read_names k.head names)
    names_stop = stops _ (NamesFault k.head names) (read_names k.head names) (λ r w. on_names a e w) (names_say k.head names)

    form_stops : (ns : Names) → NamesAre k.head names ns → Says (FormIs k ns form) Stop (read_form k ns form)
    form_stops ns n =
        stops _ (FormFault k ns form) (read_form k ns form) (λ r w. on_form a e n w)
        (lines_say k ns form (distinct_names n.tasks) (distinct_names n.methods))

    ids_stop : (ns : Names) → NamesAre k.head names ns → (f : Form) → FormIs k ns form f → Says (λ u. (l : ℕ) → WrongAt f l → ⊥) Stop (ids_right f)
    ids_stop ns n f i =
        stops _ (λ r. (l : ℕ) × (r ≡ WrongId l) × FirstWrong f l) (ids_right f) (λ r (l, q, w). subst Stop (sym q) (on_ids a e n i w))
        (ids_say k ns form f i)

  -- ---- All rows

  made_says : Says (Passes lists text names form) Stop (made_from lists text names form)
  unfolding made_from
  made_says =
      let Q = Passes lists text names form in
      says_then _ Q Stop (lists_long lists) _ lists_stop (λ u l. says_then _ Q Stop (text_short text) _ (text_stops l) (λ v a.
      says_bind _ Q Stop (read_case text) _ (case_stops a) (λ k e. says_bind _ Q Stop (read_names k.head names) _ (names_stop k a e) (λ ns n.
      says_bind _ Q Stop (read_form k ns form) _ (form_stops k a e ns n) (λ f i. says_then _ Q Stop (ids_right f) _ (ids_stop k a e ns n f i) (λ x w.
      record { model = k; listed = ns; lines = f; admits = a; reads = e; names_are = n; form_is = i; right = w; is = refl }))))))

  pub made_shows : MadeShows lists text names form (made_from lists text names form)
  made_shows = go (made_from lists text names form) made_says
    where
      go : (o : Result Case) → Says (Passes lists text names form) Stop o → MadeShows lists text names form o
      go (found k) p = p
      go (refused r) s = s
