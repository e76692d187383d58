-- What holds on the way in `name_start`.
use Rattle.header.proofs.NameLaws.{StartLeft}
use Rattle.header.proofs.names.name_start.Given as goal

abbrev pub invariant-loop : goal.invariant-loop
invariant-loop l = StartLeft l.t l.end l.n l.start l.counter l.at
