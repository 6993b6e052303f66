-- `put_number`: one digit, two, three, or any number of them (Decimals). Assumes nothing.
use lib.ListN.{length-set}
use Rattle.output.proofs.Decimals.{put_one, put_two, put_three}
use native.Mathlib.Omega.{arith}
use Rattle.output.proofs.put_number.Goals as goal

pub bounds-out-at : goal.bounds-out-at
bounds-out-at c =
    let a = c.args in
    let p = put_one a.n a.at a.out.now c.if-n-lt10.true in
    omega arith

pub returns-then-n-lt10 : goal.returns-then-n-lt10
returns-then-n-lt10 c = let a = c.args in put_one a.n a.at a.out.now c.if-n-lt10.true

pub bounds-out-at-then-n-lt100 : goal.bounds-out-at-then-n-lt100
bounds-out-at-then-n-lt100 c =
    let a = c.args in
    let p = put_two a.n a.at a.out.now c.if-n-lt10.false c.if-n-lt100.true in
    omega arith

pub bounds-out-at-then-n-lt100-2 : goal.bounds-out-at-then-n-lt100-2
bounds-out-at-then-n-lt100-2 c =
    let a = c.args in
    let p = put_two a.n a.at a.out.now c.if-n-lt10.false c.if-n-lt100.true in
    simp length-set (omega arith)

pub returns-then-n-lt100 : goal.returns-then-n-lt100
returns-then-n-lt100 c = let a = c.args in put_two a.n a.at a.out.now c.if-n-lt10.false c.if-n-lt100.true

pub bounds-out-at-then-n-lt1000 : goal.bounds-out-at-then-n-lt1000
bounds-out-at-then-n-lt1000 c =
    let a = c.args in
    let p = put_three a.n a.at a.out.now c.if-n-lt100.false c.if-n-lt1000.true in
    omega arith

pub bounds-out-at-then-n-lt1000-2 : goal.bounds-out-at-then-n-lt1000-2
bounds-out-at-then-n-lt1000-2 c =
    let a = c.args in
    let p = put_three a.n a.at a.out.now c.if-n-lt100.false c.if-n-lt1000.true in
    simp length-set (omega arith)

pub bounds-out-at-then-n-lt1000-3 : goal.bounds-out-at-then-n-lt1000-3
bounds-out-at-then-n-lt1000-3 c =
    let a = c.args in
    let p = put_three a.n a.at a.out.now c.if-n-lt100.false c.if-n-lt1000.true in
    simp length-set (omega arith)

pub returns-then-n-lt1000 : goal.returns-then-n-lt1000
returns-then-n-lt1000 c = let a = c.args in put_three a.n a.at a.out.now c.if-n-lt100.false c.if-n-lt1000.true
