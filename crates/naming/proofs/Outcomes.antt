-- The whole list: the names of the tasks, those of the methods and nothing more. What a caller knows by each answer, and how many names there
-- are. Assumes nothing.
use mathlib.Core.Path.{◌≡◌, refl, sym, ap, subst, ◌∙◌}
use mathlib.Core.Bool.{Bool, true, false}
use mathlib.Core.List.{List, []}
use Prim.Native.Nat.{ℕ, ◌+◌, ◌≤◌}
use native.Mathlib.Omega.{arith}
use lib.Dec.{ltb}
use lib.ListN.{length}
use Rattle.std.specs.Prelude.{Ok, Err}
use Rattle.std.specs.Prelude as code
use Rattle.rules.specs.declared.Answer.{Answer}
use Rattle.rules.specs.declared.Answer.TheVariants.{WrongShape}
use Rattle.rules.specs.declared.Header.{Header}
use Rattle.rules.specs.Result.{Result, found, refused, ◌>>=◌, ◌>>◌}
use Rattle.rules.specs.Case.{Read}
use Rattle.rules.specs.Tokens.{no_more}
use Rattle.rules.specs.Naming.{Names, name_lines, read_names}
use Rattle.naming.specs.declared.Spot.{Spot}
use Rattle.naming.specs.Lines.{Left, whole_if, whole_list}
use Rattle.naming.specs.Listing.{Listed, NamesLeft}
use Rattle.naming.proofs.Turns.{went, halted, Counts, lines_count}

apart : {A : Type 0} → ◌≡◌ {A = ℕ} 0 1 → A
apart z = absurd (omega arith)

-- ---- The two uses, one after the other

module _ (text : List ℕ) (h : Header) where
  abbrev task_lines : Read (List (List ℕ))
  task_lines = name_lines text (h.actions + h.compounds) 0 [] 1 0

  abbrev method_lines : ℕ → ℕ → Read (List (List ℕ))
  method_lines n place = name_lines text h.methods 0 [] n place

  -- The list from the methods on, and from its end on.
  abbrev after_tasks : Read (List (List ℕ)) → Result Names
  after_tasks r = r >>= λ (tasks, n, place). method_lines n place
      >>= λ (methods, n', place'). no_more text 1 n' place' >> found (record { tasks = tasks; methods = methods })

  abbrev after_methods : List (List ℕ) → Read (List (List ℕ)) → Result Names
  after_methods tasks r = r >>= λ (methods, n, place). no_more text 1 n place >> found (record { tasks = tasks; methods = methods })

  names_are : read_names h text ≡ after_tasks task_lines
  unfolding read_names
  names_are = refl

  module _ (g : code.Result Spot Answer) (ts te tl : List ℕ) (left : Left (Listed text ts te tl) (name_lines text (h.actions + h.compounds) 0 [] 1 0) g) where
    pub tasks_refused : (a : Answer) → g ≡ Err a → (r : code.Result (Unit {0}) Answer) → r ≡ Err a → (s e l ms me ml : List ℕ)
        → NamesLeft text (read_names h text) r s e l ms me ml
    tasks_refused a e r z s t l ms me ml =
        subst (λ (y : Result Names). NamesLeft text y r s t l ms me ml) (sym (names_are ∙ ap after_tasks (halted (Listed text ts te tl) task_lines g left a e))) z

    module _ (next : Spot) (e : g ≡ Ok next) where
      w : (tasks : List (List ℕ)) × (task_lines ≡ found (tasks, next.line, next.at)) × Listed text ts te tl tasks
      w = went (Listed text ts te tl) task_lines g left next e

      -- The number of the methods' first line.
      pub next_few : h.actions + h.compounds ≤ 2048 → next.line ≤ 2049
      next_few few =
          let c = subst (Counts (h.actions + h.compounds) 1) w.1 (lines_count text (h.actions + h.compounds) 0 [] 1 0) in
          omega (arith, c.1)

      names_then : read_names h text ≡ after_methods w.0 (method_lines next.line next.at)
      names_then = names_are ∙ ap after_tasks w.1

      module _ (g' : code.Result Spot Answer) (ms me ml : List ℕ) (left' : Left (Listed text ms me ml) (name_lines text h.methods 0 [] next.line next.at) g') where
        pub methods_refused : (a : Answer) → g' ≡ Err a → (r : code.Result (Unit {0}) Answer) → r ≡ Err a → (s t l s' t' l' : List ℕ)
            → NamesLeft text (read_names h text) r s t l s' t' l'
        methods_refused a q r z s t l s' t' l' =
            subst (λ (y : Result Names). NamesLeft text y r s t l s' t' l')
            (sym (names_then ∙ ap (after_methods w.0) (halted (Listed text ms me ml) (method_lines next.line next.at) g' left' a q))) z

        pub names_left : (end : Spot) → g' ≡ Ok end → (r : code.Result (Unit {0}) Answer) → r ≡ whole_list text end → NamesLeft text (read_names h text) r ts te tl ms me ml
        unfolding no_more
        names_left end q r whole =
            subst (λ (y : Result Names). NamesLeft text y r ts te tl ms me ml) (sym (names_then ∙ ap (after_methods w.0) v.1)) (go (ltb end.at (length text)) whole)
          where
            v : (methods : List (List ℕ)) × (method_lines next.line next.at ≡ found (methods, end.line, end.at)) × Listed text ms me ml methods
            v = went (Listed text ms me ml) (method_lines next.line next.at) g' left' end q

            unless : Bool → Result (Unit {0})
            unless x = elim x [ true ↦ refused (WrongShape end.line 1) | false ↦ found tt ]

            go : (x : Bool) → r ≡ whole_if x (WrongShape end.line 1)
                → NamesLeft text (unless x >> found (record { tasks = w.0; methods = v.0 })) r ts te tl ms me ml
            go true z = z
            go false z = (z, w.2, v.2)

-- ---- What a caller knows

module _ (text : List ℕ) (r : Result Names) (ts te tl ms me ml : List ℕ) where
  -- The names are read.
  pub names_read : NamesLeft text r (Ok tt) ts te tl ms me ml
      → (ns : Names) × (r ≡ found ns) × Listed text ts te tl ns.tasks × Listed text ms me ml ns.methods
  names_read left = go r refl left
    where
      go : (y : Result Names) → r ≡ y → NamesLeft text y (Ok tt) ts te tl ms me ml
          → (ns : Names) × (r ≡ found ns) × Listed text ts te tl ns.tasks × Listed text ms me ml ns.methods
      go (found ns) e h = (ns, e, h.1, h.2)
      go (refused a) e h = apart (cc)

  -- They are refused.
  pub names_refused : (a : Answer) → NamesLeft text r (Err a) ts te tl ms me ml → r ≡ refused a
  names_refused a left = go r refl left
    where
      go : (y : Result Names) → r ≡ y → NamesLeft text y (Err a) ts te tl ms me ml → r ≡ refused a
      go (found ns) e h = let z = h.0 in apart (cc)
      go (refused b) e h = let q : b ≡ a = cc in e ∙ ap refused q

-- A name for each task and for each method.
abbrev CountsAll : Header → Result Names → Type 0
CountsAll h (found ns) = (length ns.tasks ≡ h.actions + h.compounds) × (length ns.methods ≡ h.methods)
CountsAll h (refused a) = Unit {0}

counts_all : (h : Header) (text : List ℕ) → CountsAll h (read_names h text)
counts_all h text =
    subst (CountsAll h) (sym (names_are text h))
    (by_tasks (task_lines text h) (lines_count text (h.actions + h.compounds) 0 [] 1 0))
  where
    by_end : (tasks methods : List (List ℕ)) (y : Result (Unit {0})) → length tasks ≡ h.actions + h.compounds → length methods ≡ h.methods
        → CountsAll h (y >> found (record { tasks = tasks; methods = methods }))
    by_end tasks methods (found tt) a b = (a, b)
    by_end tasks methods (refused x) a b = tt

    by_methods : (tasks : List (List ℕ)) (n : ℕ) (y : Read (List (List ℕ))) → length tasks ≡ h.actions + h.compounds → Counts h.methods n y
        → CountsAll h (after_methods text h tasks y)
    by_methods tasks n (found (methods, n', place')) a b = by_end tasks methods (no_more text 1 n' place') a b.0
    by_methods tasks n (refused x) a b = tt

    by_tasks : (y : Read (List (List ℕ))) → Counts (h.actions + h.compounds) 1 y → CountsAll h (after_tasks text h y)
    by_tasks (found (tasks, n, place)) a = by_methods tasks n (method_lines text h n place) a.0 (lines_count text h.methods 0 [] n place)
    by_tasks (refused x) a = tt

pub names_counted : (h : Header) (text : List ℕ) (ns : Names) → read_names h text ≡ found ns
    → (length ns.tasks ≡ h.actions + h.compounds) × (length ns.methods ≡ h.methods)
names_counted h text ns e = subst (CountsAll h) e (counts_all h text)
