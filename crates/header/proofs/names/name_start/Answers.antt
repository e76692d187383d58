-- `name_start` meets its contract: the names that are left fit, and the name begins behind them. Assumes nothing.
use Prim.Native.Nat.{◌+◌, ◌-◌, ◌<◌}
use native.Mathlib.Omega.{arith}
use borrow.Author.Rules.{rules}
use Rattle.header.proofs.NameLaws.{fit_ends, start_begin, start_fits, start_more, start_end}
use Rattle.header.proofs.names.name_start.Goals as goal
use Rattle.header.proofs.names.name_start.Goals.{After-name_length}

pub loop-init : goal.loop-init
loop-init c = start_begin c.args.t.now c.args.end c.args.n c.args.start c.requires.1

pub name_length-requires : goal.name_length-requires
name_length-requires c =
    let v = c.args in
    (c.requires.0, start_fits v.t.now v.end v.n v.start c.loop.counter c.loop.at c.loop.invariant)

-- the name ends before the header does
ends : (c : After-name_length) → c.loop.at + c.name_length.result
    < c.args.end
ends c =
    let v = c.args in
    let f = fit_ends v.t.now v.end (v.n - c.loop.counter) c.loop.at c.loop.invariant.fit in
    omega (arith, c.name_length.ensures, f.1)

pub overflow_add-at : goal.overflow_add-at
overflow_add-at c = omega (arith, ends c)

pub overflow_add-at-in-loop : goal.overflow_add-at-in-loop
overflow_add-at-in-loop c = omega (arith, ends c)

pub loop-preserved : goal.loop-preserved
loop-preserved c =
    let v = c.args in
    start_more v.t.now v.end v.n v.start c.loop.counter c.loop.at c.loop.invariant (search rules) c.name_length.result
    c.name_length.ensures

pub returns : goal.returns
returns c =
    let v = c.args in
    start_end v.t.now v.end v.n v.start c.loop.counter c.loop.at c.loop.invariant (search rules)
