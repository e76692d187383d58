-- What holds on the way in `ascend`.
use mathlib.Core.Path.{◌≡◌}
use Prim.Native.Nat.{◌+◌, ◌-◌, ◌≤◌}
use lib.ListN.{length}
use Rattle.table.specs.Steps.{keys_after}
use Rattle.table.specs.declared.keys.Keys.TheVariants.{Last}
use Rattle.table.proofs.keys.ascend.Given as goal

abbrev pub invariant-loop-place : goal.invariant-loop-place
invariant-loop-place l =
    (l.place ≤ l.count)
    × (l.last + l.key ≤ length l.file.bytes.now)
    × (keys_after l.file.bytes.now l.file.shape l.key l.block l.from (l.count - l.from) (Last l.before)
    ≡ keys_after l.file.bytes.now l.file.shape l.key l.block l.place (l.count - l.place) (Last l.last))
