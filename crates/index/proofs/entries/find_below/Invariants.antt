-- What holds on the way in `find_below`.
use mathlib.Core.Path.{◌≡◌}
use Prim.Native.Nat.{◌≤◌}
use Rattle.index.specs.Entries.{below}
use Rattle.index.proofs.entries.find_below.Given as goal

abbrev pub invariant-loop-i : goal.invariant-loop-i
invariant-loop-i l =
    let f = l.file in
    (l.i ≤ l.count)
    × (below f.bytes.now f.shape l.key l.block l.count ≡ below f.bytes.now f.shape l.key l.block l.i)
