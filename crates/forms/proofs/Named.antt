-- A name among those listed, as the definitions use it; and a method's task and subtasks among the fields. Assumes nothing.
use mathlib.Core.Path.{◌≡◌, refl, sym, ap, ◌∙◌}
use mathlib.Core.Bool.{Bool, true, false, ◌&&◌}
use mathlib.Core.List.{List, ◌∷◌, ◌++◌, map}
use mathlib.Core.Option.{Option, none, some}
use Prim.Native.Nat.{ℕ, ◌+◌, ◌≤◌, ◌<◌}
use native.Mathlib.Omega.{arith}
use lib.Dec.{eqb, leb, ltb}
use lib.ListN.{length, get_or}
use Rattle.std.specs.Prelude.{Some, None, Option as Found}
use borrow.Author.Tests.{eq-eqb, ne_eqb, lt-ltb, le-ltb, le-leb, lt-leb}
use Rattle.rules.specs.declared.Header.{Header}
use Rattle.rules.specs.declared.Answer.TheVariants.{WrongName}
use Rattle.rules.specs.Result.{Result, found, refused, ◌>>=◌}
use Rattle.rules.specs.Case.{Case, method_at}
use Rattle.rules.specs.Fields.{lines_fields, constraint_line}
use Rattle.rules.specs.Naming.{Names, listed_at}
use Rattle.rules.specs.Form.{used_as, action_named, compound_named, suits, method_named, both_named}
use Rattle.fields.specs.Standing.{Stands}
use Rattle.fields.specs.Directory.{methods_from, directory_size}
use Rattle.fields.proofs.Standing.{stands_inside, stands_at, stands_as}
use Rattle.fields.proofs.Lines.{method_fields_lem}
use Rattle.probing.specs.Probing.{first}
use Rattle.probing.proofs.First.{first_at}
use Rattle.names.specs.Names.{same_name}
use Rattle.naming.specs.Listing.{as_found}
use Rattle.naming.proofs.Lookup.{find_listed}
use Rattle.forms.specs.Held.{MethodsHere, Tasks, Methods}

pub apart : {A : Type 0} → ◌≡◌ {A = ℕ} 0 1 → A
apart z = absurd (omega arith)

-- What is found is the one thing that it is.
pub at_low : (t i most : ℕ) → t < most → Some t ≡ Some i → i < most
at_low t i most h e = let same : t ≡ i = cc in omega arith

pub nothing_low : (i most : ℕ) → None ≡ Some i → i < most
nothing_low i most e = apart (cc)

-- ---- A method's line

module _ (k : Case) (fields directory : List ℕ) (h : MethodsHere k fields directory) (m : ℕ) (i : m < k.head.methods) where
  abbrev place : ℕ
  place = get_or directory (methods_from + m) 0

  stands : Stands fields place
      (77 ∷ (method_at k.methods m).task ∷ length (method_at k.methods m).subtasks
      ∷ ((method_at k.methods m).subtasks ++ (length (method_at k.methods m).constraints ∷ lines_fields (map constraint_line (method_at k.methods m).constraints))))
  stands = stands_as fields place _ _ (method_fields_lem (method_at k.methods m)) (h.here m i)

  pub directory_inside : 1024 + m < length directory
  unfolding directory_size
  directory_inside = let r = h.room in let n = h.most in omega arith

  pub head_inside : place + 3 ≤ length fields
  head_inside = let n = stands_inside fields place _ stands (omega arith) in omega arith

  pub task_here_lem : get_or fields (place + 1) 0 ≡ (method_at k.methods m).task
  task_here_lem = stands_at fields place _ 1 stands (omega arith)

  pub count_here : get_or fields (place + 2) 0 ≡ length (method_at k.methods m).subtasks
  count_here = stands_at fields place _ 2 stands (omega arith)

  module _ (t count : ℕ) where
    pub suits_not : (get_or fields (place + 1) 0 ≡ t → ⊥) → ◌≡◌ {A = Bool} false (suits (method_at k.methods m) t count)
    unfolding suits
    suits_not n =
        sym
        (ap (λ (x : Bool). x && eqb (length (method_at k.methods m).subtasks) count)
        (ne_eqb (method_at k.methods m).task t (λ q. n (task_here_lem ∙ q))))

    pub suits_by : get_or fields (place + 1) 0 ≡ t → eqb (get_or fields (place + 2) 0) count ≡ suits (method_at k.methods m) t count
    unfolding suits
    suits_by e =
        ap (λ (x : ℕ). eqb x count) count_here
        ∙ sym
        (ap (λ (x : Bool). x && eqb (length (method_at k.methods m).subtasks) count)
        (eq-eqb (method_at k.methods m).task t (sym task_here_lem ∙ e)))

-- ---- A name

listed_some : (o : Option ℕ) {e : ℕ} → Some e ≡ as_found o → o ≡ some e
listed_some (some d) q = cc
listed_some none q = apart (cc)

listed_none : (o : Option ℕ) → None ≡ as_found o → o ≡ none
listed_none (some d) q = apart (cc)
listed_none none q = refl

serves_is : (serves : ℕ → Bool) (n e : ℕ) (x : Bool) → serves e ≡ x → used_as serves n (some e) ≡ elim x [ true ↦ found e | false ↦ refused (WrongName n 0) ]
serves_is serves n e x q = ap (λ (y : Bool). elim y as (λ z. Result ℕ) [ true ↦ found e | false ↦ refused (WrongName n 0) ]) q

-- The tasks' names.
module _ (k : Case) (ns : Names) (hd : Header) (text starts ends slots : List ℕ) (s : Tasks k ns hd text starts ends slots) (name : List ℕ) where
  abbrev among : Found ℕ
  among = first (same_name text starts ends name) (hd.actions + hd.compounds)

  told : (r : Found ℕ) → r ≡ among → r ≡ as_found (listed_at ns.tasks name)
  told r e = find_listed text starts ends slots ns.tasks s.listed (hd.actions + hd.compounds) (sym s.count) name r e

  pub task_low : {t : ℕ} → Some t ≡ among → t < hd.actions + hd.compounds
  task_low {t} e = (first_at (same_name text starts ends name) (hd.actions + hd.compounds) t (sym e)).0

  module _ (n : ℕ) where
    pub no_task : None ≡ among → (action_named k ns n name ≡ refused (WrongName n 0)) × (compound_named k ns n name ≡ refused (WrongName n 0))
    unfolding action_named compound_named
    no_task e =
        let o = listed_none (listed_at ns.tasks name) (told None e) in
        (ap (used_as (λ t. ltb t k.head.actions) n) o, ap (used_as (λ t. leb k.head.actions t) n) o)

    module _ (t : ℕ) (e : Some t ≡ among) where
      o : listed_at ns.tasks name ≡ some t
      o = listed_some (listed_at ns.tasks name) (told (Some t) e)

      pub an_action_lem : t < hd.actions → (action_named k ns n name ≡ found t) × (compound_named k ns n name ≡ refused (WrongName n 0))
      unfolding action_named compound_named
      an_action_lem h =
          let same = ap (λ (x : Header). x.actions) s.head in (
            ap (used_as (λ x. ltb x k.head.actions) n) o
                ∙ serves_is (λ x. ltb x k.head.actions) n t true (lt-ltb t k.head.actions (omega arith)),
            ap (used_as (λ x. leb k.head.actions x) n) o
                ∙ serves_is (λ x. leb k.head.actions x) n t false (lt-leb k.head.actions t (omega arith)),
          )

      pub a_compound_lem : hd.actions ≤ t → (action_named k ns n name ≡ refused (WrongName n 0)) × (compound_named k ns n name ≡ found t)
      unfolding action_named compound_named
      a_compound_lem h =
          let same = ap (λ (x : Header). x.actions) s.head in (
            ap (used_as (λ x. ltb x k.head.actions) n) o
                ∙ serves_is (λ x. ltb x k.head.actions) n t false (le-ltb t k.head.actions (omega arith)),
            ap (used_as (λ x. leb k.head.actions x) n) o
                ∙ serves_is (λ x. leb k.head.actions x) n t true (le-leb k.head.actions t (omega arith)),
          )

-- The methods'.
module _ (k : Case) (ns : Names) (hd : Header) (text starts ends slots : List ℕ) (s : Methods k ns hd text starts ends slots) (name : List ℕ) where
  abbrev among_methods : Found ℕ
  among_methods = first (same_name text starts ends name) hd.methods

  told_method : (r : Found ℕ) → r ≡ among_methods → r ≡ as_found (listed_at ns.methods name)
  told_method r e = find_listed text starts ends slots ns.methods s.listed hd.methods (sym s.count) name r e

  pub method_low : {m : ℕ} → Some m ≡ among_methods → m < hd.methods
  method_low {m} e = (first_at (same_name text starts ends name) hd.methods m (sym e)).0

  pub model_low : {m : ℕ} → Some m ≡ among_methods → m < k.head.methods
  model_low {m} e = let low = method_low e in let same = ap (λ (x : Header). x.methods) s.head in omega arith

  module _ (n t : ℕ) (ids : List ℕ) where
    pub no_method_lem : None ≡ among_methods → method_named k ns n t name ids ≡ refused (WrongName n 0)
    unfolding method_named
    no_method_lem e =
        ap (used_as (λ m. suits (method_at k.methods m) t (length ids)) n) (listed_none (listed_at ns.methods name) (told_method None e))

    pub a_method : (m : ℕ) → Some m ≡ among_methods → (x : Bool) → suits (method_at k.methods m) t (length ids) ≡ x
        → method_named k ns n t name ids ≡ elim x [ true ↦ found m | false ↦ refused (WrongName n 0) ]
    unfolding method_named
    a_method m e x q =
        ap (used_as (λ i. suits (method_at k.methods i) t (length ids)) n) (listed_some (listed_at ns.methods name) (told_method (Some m) e))
        ∙ serves_is (λ i. suits (method_at k.methods i) t (length ids)) n m x q

-- Both names of a compound line: the task's, and then the method's.
pub both_refused : (k : Case) (ns : Names) (n : ℕ) (name method ids : List ℕ) → compound_named k ns n name ≡ refused (WrongName n 0)
    → both_named k ns n name method ids ≡ refused (WrongName n 0)
unfolding both_named
both_refused k ns n name method ids e = ap (λ (r : Result ℕ). r >>= λ t. method_named k ns n t method ids) e

pub both_found : (k : Case) (ns : Names) (n t : ℕ) (name method ids : List ℕ) → compound_named k ns n name ≡ found t
    → both_named k ns n name method ids ≡ method_named k ns n t method ids
unfolding both_named
both_found k ns n t name method ids e = ap (λ (r : Result ℕ). r >>= λ t'. method_named k ns n t' method ids) e
