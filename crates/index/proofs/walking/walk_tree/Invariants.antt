-- What holds on the way in `walk_tree`.
use mathlib.Core.Path.{◌≡◌}
use Prim.Native.Nat.{◌-◌}
use Rattle.index.specs.Walk.{walk_from}
use Rattle.index.specs.Steps.{from_block}
use Rattle.index.proofs.walking.walk_tree.Given as goal

abbrev pub invariant-loop-reads : goal.invariant-loop-reads
invariant-loop-reads l =
    let t = l.table in
    let x = l.index in
    from_block t x l.key l.levels l.root
    ≡ walk_from t.bytes.now t.shape x.bytes.now x.shape l.key (l.levels - l.reads) l.block l.reads
