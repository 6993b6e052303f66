-- What reading the name list that comes beside a case answers and leaves (02, Card 6). Assumes nothing.
use Rattle.std.specs.Prelude.{◌≡◌, List, [], ℕ, ◌≤◌, ◌<◌, length, get_or, Option, None, Some, Result, Ok, Err}
use Rattle.std.proofs.Math.Option.{none, some}
use Rattle.std.proofs.Math.Option as maybe
use Rattle.rules.specs.declared.Answer.{Answer}
use Rattle.rules.specs.Result.{found, refused}
use Rattle.rules.specs.Result as read
use Rattle.rules.specs.Naming.{Names}
use Rattle.probing.specs.Probing.{Kept}
use Rattle.names.specs.Names.{name_at, same_name, Placed, hash_name}

-- Lists that hold no names yet. The slots may hold anything.
pub record Blank (starts ends slots : List ℕ) : Type 0 where
  pub starts_length : length starts ≡ 2048
  pub ends_length : length ends ≡ 2048
  pub slots_length : length slots ≡ 4096
  pub starts_zero : (e : ℕ) → get_or starts e 0 ≡ 0
  pub ends_zero : (e : ℕ) → get_or ends e 0 ≡ 0

-- The names of one use: the entry e is the name with number e, and the table finds the first entry that has a name.
pub record Listed (text starts ends slots : List ℕ) (names : List (List ℕ)) : Type 0 where
  pub each : (e : ℕ) → e < length names → name_at text starts ends e ≡ get_or names e []
  pub placed : Placed text starts ends
  pub kept : Kept (same_name text starts ends) hash_name slots (length names)
  pub most : length names ≤ 2048
  pub starts_length : length starts ≡ 2048
  pub slots_length : length slots ≡ 4096

-- The answer, and the names of the tasks and of the methods. Nothing is said of the lists that a refusal leaves.
abbrev pub NamesLeft : List ℕ → read.Result Names → Result (Unit {0}) Answer → List ℕ → List ℕ → List ℕ → List ℕ → List ℕ → List ℕ → Type 0
NamesLeft text (found ns) r taskStarts taskEnds taskSlots methodStarts methodEnds methodSlots =
    (r ≡ Ok tt) × Listed text taskStarts taskEnds taskSlots ns.tasks × Listed text methodStarts methodEnds methodSlots ns.methods
NamesLeft text (refused a) r taskStarts taskEnds taskSlots methodStarts methodEnds methodSlots = r ≡ Err a

-- The place of a name in a list, as what a table answers.
abbrev pub as_found : maybe.Option ℕ → Option ℕ
as_found (some e) = Some e
as_found none = None
