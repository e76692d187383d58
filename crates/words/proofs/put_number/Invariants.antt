-- What holds on the way in `put_number`.
use mathlib.Core.Path.{◌≡◌}
use mathlib.Core.List.{◌++◌}
use lib.ListN.{drop}
use Rattle.words.specs.Numbers.{digits}
use Rattle.words.proofs.put_number.Given as goal

abbrev pub invariant-loop-i : goal.invariant-loop-i
invariant-loop-i l = digits l.i l.m ++ drop l.i l.buffer ≡ digits l.width l.n ++ drop l.width l.initial.buffer
