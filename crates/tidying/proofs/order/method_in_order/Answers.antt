-- `method_in_order`: the size of the M line says where c stands and where the constraints start. Assumes nothing.
use Prim.Native.Nat.{◌-◌}
use native.Mathlib.Omega.{arith}
use Rattle.tidying.proofs.Methods.{head_asked, head_size, method_inside, constraints_here, method_orders}
use Rattle.tidying.proofs.order.method_in_order.Goals as goal

pub line_size-last-requires : goal.line_size-last-requires
line_size-last-requires c =
    let a = c.args in
    head_asked a.fields.now a.from c.requires.0 c.requires.1 a.cues

pub overflow_sub-last : goal.overflow_sub-last
overflow_sub-last c =
    let a = c.args in
    let z = head_size a.fields.now a.from c.requires.0 c.requires.1 a.cues c.line_size-last.result c.line_size-last.ensures in
    omega arith

pub overflow_add-count : goal.overflow_add-count
overflow_add-count c =
    let a = c.args in
    let z = head_size a.fields.now a.from c.requires.0 c.requires.1 a.cues c.line_size-last.result c.line_size-last.ensures in
    let w = method_inside a.fields.now a.from c.requires.0 c.requires.1 in
    omega arith

pub offset_bounds-fields-from : goal.offset_bounds-fields-from
offset_bounds-fields-from c =
    let a = c.args in
    let z = head_size a.fields.now a.from c.requires.0 c.requires.1 a.cues c.line_size-last.result c.line_size-last.ensures in
    let w = method_inside a.fields.now a.from c.requires.0 c.requires.1 in
    omega arith

pub bounds-fields-from : goal.bounds-fields-from
bounds-fields-from c =
    let r = c.line_size-last in
    let a = c.args in
    let z = head_size a.fields.now a.from c.requires.0 c.requires.1 a.cues r.result r.ensures in
    let w = method_inside a.fields.now a.from c.requires.0 c.requires.1 in
    omega arith

pub overflow_add-from : goal.overflow_add-from
overflow_add-from c =
    let r = c.line_size-last in
    let a = c.args in
    let z = head_size a.fields.now a.from c.requires.0 c.requires.1 a.cues r.result r.ensures in
    let w = method_inside a.fields.now a.from c.requires.0 c.requires.1 in
    omega arith

pub overflow_add-from-2 : goal.overflow_add-from-2
overflow_add-from-2 c =
    let r = c.line_size-last in
    let a = c.args in
    let z = head_size a.fields.now a.from c.requires.0 c.requires.1 a.cues r.result r.ensures in
    let w = method_inside a.fields.now a.from c.requires.0 c.requires.1 in
    omega arith

pub in_order-requires : goal.in_order-requires
in_order-requires c =
    let r = c.line_size-last in
    let a = c.args in
    let m = c.requires.0 in
    let z = head_size a.fields.now a.from m c.requires.1 a.cues r.result r.ensures in
    (m.constraints, constraints_here a.fields.now a.from m c.requires.1 (r.result - 1) (omega arith))

pub returns : goal.returns
returns c = λ m h.
    let r = c.line_size-last in
    let a = c.args in
    let z = head_size a.fields.now a.from m h a.cues r.result r.ensures in
    method_orders a.fields.now a.from m h (r.result - 1) (omega arith) _
    (c.in_order.ensures m.constraints (constraints_here a.fields.now a.from m h (r.result - 1) (omega arith)))
