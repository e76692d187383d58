-- What holds on the way in `number`.
use mathlib.Core.Path.{◌≡◌}
use Rattle.words.specs.Numbers.{big}
use Rattle.words.proofs.number.Given as goal

abbrev pub invariant-loop-byte : goal.invariant-loop-byte
invariant-loop-byte l = l.n ≡ big l.s l.at l.byte-index
