-- What holds on the way in `find_in_block`.
use mathlib.Core.Path.{◌≡◌}
use Prim.Native.Nat.{◌-◌}
use Rattle.table.specs.Records.{places_from}
use Rattle.lookup.specs.Sought.{first_with}
use Rattle.lookup.proofs.block.find_in_block.Given as goal

abbrev pub invariant-loop-place : goal.invariant-loop-place
invariant-loop-place l =
    first_with l.table l.shape l.key (places_from l.block 0 l.count)
    ≡ first_with l.table l.shape l.key (places_from l.block l.place (l.count - l.place))
