-- What holds on the way in `compare`.
use Prim.Native.Nat.{◌*◌}
use mathlib.Core.Path.{◌≡◌}
use Rattle.words.specs.Order.{order, range}
use Rattle.words.proofs.Ranges.{rest}
use Rattle.words.proofs.compare.Given as goal

abbrev pub invariant-loop-i : goal.invariant-loop-i
invariant-loop-i l =
    order (range l.a l.p l.n) (range l.b l.q l.n)
    ≡ order (rest l.a l.p l.n (8 * l.i)) (rest l.b l.q l.n (8 * l.i))
