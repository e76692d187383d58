-- What holds on the way in `all_zero`.
use mathlib.Core.Path.{◌≡◌}
use mathlib.Core.Bool.{true}
use Rattle.words.specs.Zeros.{all_zero}
use Rattle.words.proofs.zeros.all_zero.Given as goal

abbrev pub invariant-loop-byte : goal.invariant-loop-byte
invariant-loop-byte l = all_zero l.s l.at l.byte-index ≡ true
