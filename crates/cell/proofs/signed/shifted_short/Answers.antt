-- `shifted_short` meets its contract: the casts lose nothing, and the sum is at least 0. Assumes nothing.
use mathlib.Core.Path.{refl}
use lib.Dec.{lit≤}
use mir.Syntax.{w16}
use Rattle.cell.proofs.SignedCasts.{wide_fits, sum_fits, total, total_fits}
use Rattle.cell.proofs.signed.shifted_short.Goals as goal

pub overflow_cast-result : goal.overflow_cast-result
overflow_cast-result c = wide_fits w16 c.args.z 32768 c.ranges.z refl (lit≤ tt)

pub overflow_add-result : goal.overflow_add-result
overflow_add-result c = sum_fits w16 c.args.z 32768 c.ranges.z refl (lit≤ tt)

pub overflow_cast-result-2 : goal.overflow_cast-result-2
overflow_cast-result-2 c =
    rw (total w16 c.args.z 32768 c.ranges.z refl (lit≤ tt))
    (tt, total_fits w16 c.args.z 32768 c.ranges.z refl (lit≤ tt))

pub returns : goal.returns
returns c = rw (total w16 c.args.z 32768 c.ranges.z refl (lit≤ tt))
