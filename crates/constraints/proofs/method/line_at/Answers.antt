-- `line_at`: what stands here is a constraint's line, by its letter (Finding). Assumes nothing.
use Rattle.constraints.proofs.Finding.{LineHere, line_here}
use Rattle.fields.specs.Standing.{Stands}
use Rattle.rules.specs.Case.{Constraint}
use Rattle.rules.specs.Fields.{lines_fields, constraint_line}
use Rattle.std.proofs.Common.{ℕ, rules}
use mathlib.Core.List.{List, ◌∷◌, map}
use mathlib.Core.Path.{sym, ◌∙◌}
use Rattle.constraints.proofs.method.line_at.Goals as goal

-- The line is that of any constraint that stands here; the caller names one.
abbrev Some : List ℕ → ℕ → Type 0
Some fields at = (d : Constraint) × (ds : List Constraint) × Stands fields at (lines_fields (map constraint_line (d ∷ ds)))

some_line : (fields : List ℕ) (at : ℕ) (r : Some fields at) → LineHere fields at r.0 r.1
some_line fields at r = line_here fields at r.1 r.0 r.2

pub offset_bounds-fields-at : goal.offset_bounds-fields-at
offset_bounds-fields-at c = let i = (some_line c.args.fields.now c.args.at c.requires).inside in search rules

pub bounds-fields-at : goal.bounds-fields-at
bounds-fields-at c = let i = (some_line c.args.fields.now c.args.at c.requires).inside in search rules

pub overflow_cast-letter : goal.overflow_cast-letter
overflow_cast-letter c = record { fits = (some_line c.args.fields.now c.args.at c.requires).byte }

pub overflow_add-first : goal.overflow_add-first
overflow_add-first c = let i = (some_line c.args.fields.now c.args.at c.requires).inside in search rules

pub offset_bounds-fields-at-2 : goal.offset_bounds-fields-at-2
offset_bounds-fields-at-2 c = let i = (some_line c.args.fields.now c.args.at c.requires).inside in search rules

pub bounds-fields-at-2 : goal.bounds-fields-at-2
bounds-fields-at-2 c = let i = (some_line c.args.fields.now c.args.at c.requires).inside in search rules

pub overflow_add-second : goal.overflow_add-second
overflow_add-second c = let i = (some_line c.args.fields.now c.args.at c.requires).inside in search rules

pub offset_bounds-fields-at-3 : goal.offset_bounds-fields-at-3
offset_bounds-fields-at-3 c = let i = (some_line c.args.fields.now c.args.at c.requires).inside in search rules

pub bounds-fields-at-3 : goal.bounds-fields-at-3
bounds-fields-at-3 c = let i = (some_line c.args.fields.now c.args.at c.requires).inside in search rules

pub bounds-fields-at-then-is_either : goal.bounds-fields-at-then-is_either
bounds-fields-at-then-is_either c =
    let i = ((some_line c.args.fields.now c.args.at c.requires).between (sym c.is_either.ensures ∙ c.if-is_either.true)).0 in
    search rules

pub returns-then-is_either : goal.returns-then-is_either
returns-then-is_either c = λ d ds s.
    let a = c.args in
    ((line_here a.fields.now a.at ds d s).between (sym c.is_either.ensures ∙ c.if-is_either.true)).1

pub overflow_add-result-2 : goal.overflow_add-result-2
overflow_add-result-2 c = let i = (some_line c.args.fields.now c.args.at c.requires).inside in search rules

pub returns : goal.returns
returns c = λ d ds s.
    let a = c.args in
    (line_here a.fields.now a.at ds d s).others (sym c.is_either.ensures ∙ c.if-is_either.false)
