-- What holds on the way in `names_fit`.
use Rattle.header.proofs.NameLaws.{NamesLeft}
use Rattle.header.proofs.names.names_fit.Given as goal

abbrev pub invariant-loop : goal.invariant-loop
invariant-loop l = NamesLeft l.t l.end l.n l.start l.counter l.at
