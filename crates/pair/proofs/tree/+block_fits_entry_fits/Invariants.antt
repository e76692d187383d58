-- What holds on the way in `block_fits`, and what falls at each descent.
use Prim.Native.Nat.{◌+◌, ◌-◌}
use mathlib.Core.Path.{◌≡◌}
use Rattle.std.specs.Prelude.{Some}
use Rattle.pair.specs.Steps.{shapes_in}
use Rattle.pair.proofs.FollowLaws.{up_to}
use Rattle.pair.proofs.LookedLaws.{CountedSoFar}
use Rattle.pair.proofs.tree.+block_fits_entry_fits.Given as goal

abbrev pub decreases-block_fits : goal.decreases-block_fits
decreases-block_fits l = l.level + l.level

abbrev pub decreases-entry_fits : goal.decreases-entry_fits
decreases-entry_fits l = l.level + l.level + 1

abbrev pub invariant-block_fits-loop-i : goal.invariant-block_fits-loop-i
invariant-block_fits-loop-i l =
    let p = l.pair in
    (up_to p.table.bytes.now p.index.bytes.now (shapes_in p) (l.level - 1) l.block l.i l.from ≡ Some l.reached)
    × CountedSoFar p.table.bytes.now p.index.bytes.now (shapes_in p) l.level l.block l.from l.count l.i
    l.reached l.entries
