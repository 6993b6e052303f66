-- `put_line`: the fields before i are put (Texts). Assumes nothing.
use Rattle.output.proofs.Texts.{letter_room, letter_put, comma_room, number_put, line_put}
use native.Mathlib.Omega.{arith}
use Rattle.output.proofs.put_line.Goals as goal

pub bounds-out-to : goal.bounds-out-to
bounds-out-to c =
    let a = c.args in
    let r = letter_room a.fields.now a.at a.end a.to a.out.now c.requires.at_lt_end.1 c.requires.at_lt_end.0 c.requires.fields_in_bounds in
    omega arith

pub loop-i-init : goal.loop-i-init
loop-i-init c =
    let a = c.args in
    letter_put a.fields.now a.at a.end a.to a.out.now c.requires.at_lt_end.1 c.requires.at_lt_end.0 c.requires.fields_in_bounds

pub put_number-past-requires : goal.put_number-past-requires
put_number-past-requires c = let r = comma_room c.loop-i.invariant c.loop-i-test.true in omega arith

pub loop-i-preserved : goal.loop-i-preserved
loop-i-preserved c =
    number_put c.loop-i.invariant c.loop-i-test.true _ _ c.put_number-past.ensures

pub returns : goal.returns
returns c =
    line_put c.args.out.now c.loop-i.invariant c.requires.at_lt_end.0 c.loop-i-test.false
