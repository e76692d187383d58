-- What holds on the way in `name_end`.
use Rattle.words.proofs.ZeroLaws.{Nonzero}
use Rattle.header.proofs.names.name_end.Given as goal

abbrev pub invariant-loop-i : goal.invariant-loop-i
invariant-loop-i l = Nonzero l.t l.at l.i
