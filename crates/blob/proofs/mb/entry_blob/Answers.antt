-- `entry_blob` meets its contract: what the five bytes state, in 32 bits. Assumes nothing.
use native.Mathlib.Omega.{arith}
use Prim.Native.Nat.{◌+◌, ◌≤◌, ◌<◌}
use Rattle.blob.specs.Mb.{entry_units, entry_last}
use Rattle.blob.proofs.MbLaws.{used_gives, entry_used_lem, entry_unused}
use Rattle.blob.proofs.mb.entry_blob.Goals as goal
use Rattle.blob.proofs.mb.entry_blob.Goals.{Then-units-last}

pub overflow_cast-begin : goal.overflow_cast-begin
overflow_cast-begin c = omega (arith, c.type_inv.mb c.args.e)

pub overflow_mul-begin : goal.overflow_mul-begin
overflow_mul-begin c = omega (arith, c.type_inv.mb c.args.e)

pub overflow_cast-units : goal.overflow_cast-units
overflow_cast-units c = omega (arith, c.type_inv.mb (c.args.e + 1))

pub overflow_cast-last : goal.overflow_cast-last
overflow_cast-last c = omega (arith, c.type_inv.mb (c.args.e + 4))

used : (c : Then-units-last) → let v = c.args in
    (1 ≤ entry_units v.mb.now v.e) × (entry_units v.mb.now v.e < 256)
    × (entry_last v.mb.now v.e < 256)
used c =
    let v = c.args in
    let k = c.type_inv.mb in
    ((used_gives v.mb.now v.e c.if-units-last.true).0, omega (arith, k (v.e + 1)), omega (arith, k (v.e + 4)))

pub overflow_sub-result : goal.overflow_sub-result
overflow_sub-result c = (used c).0

pub overflow_mul-result : goal.overflow_mul-result
overflow_mul-result c = omega (arith, (used c).1)

pub overflow_add-result : goal.overflow_add-result
overflow_add-result c = omega (arith, (used c).1, (used c).2)

pub returns-then-units-last : goal.returns-then-units-last
returns-then-units-last c = let v = c.args in entry_used_lem v.mb.now v.e c.if-units-last.true

pub returns : goal.returns
returns c = let v = c.args in entry_unused v.mb.now v.e c.if-units-last.false
