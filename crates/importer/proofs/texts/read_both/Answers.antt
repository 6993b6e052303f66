-- `read_both`: the form is read by the names of a list that is read, and by the model (Reading). Assumes nothing.
use mathlib.Core.Path.{refl}
use Rattle.importer.proofs.Reading.{zeros_blank, header_few, names_held, both_read}
use Rattle.importer.proofs.texts.read_both.Goals as goal

pub read_names-requires-clause-compounds_bound : goal.read_names-requires-clause-compounds_bound
read_names-requires-clause-compounds_bound c = let (k, m) = c.requires.model_here in header_few m

pub read_names-requires-clause-blank : goal.read_names-requires-clause-blank
read_names-requires-clause-blank c = zeros_blank 2048 4096 refl refl

pub read_names-requires-clause-blank_2 : goal.read_names-requires-clause-blank_2
read_names-requires-clause-blank_2 c = zeros_blank 2048 4096 refl refl

pub read_form-requires-clause-modelled : goal.read_form-requires-clause-modelled
read_form-requires-clause-modelled c =
    let (k, m) = c.requires.model_here in
    let n = c.read_names in
    let w = names_held m c.args.names.now n.new.task_starts n.new.task_ends n.new.task_slots n.new.method_starts n.new.method_ends n.new.method_slots c.in_ok-read_names.ensures.left in
    (k, w.0, record { tasks = w.2; methods = w.3; here = m.methods })

pub returns : goal.returns
returns c = λ k m.
    let n = c.read_names in
    let f = c.read_form in
    both_read m c.args.names.now n.new.task_starts n.new.task_ends n.new.task_slots n.new.method_starts n.new.method_ends n.new.method_slots c.args.form.now _ _ _ f.result c.in_ok-read_names.ensures.left
    (λ k ns t ms h. f.ensures k ns (record { tasks = t; methods = ms; here = h }))
