-- `pack` meets its contract, case by case. Assumes nothing.
use borrow.Author.Rules.{rules}
use Rattle.paradox.proofs.PackingLaws.{found_packs, absent_packs, refused_packs}
use Rattle.paradox.proofs.pack.Goals as goal

pub returns-in-Ok-Some : goal.returns-in-Ok-Some
returns-in-Ok-Some c =
    let b = c.in-Ok-Some in
    let both_clauses = found_packs _ _ (search rules) b.field-0 b.found b.is (rw b.is at b.field-0-is) (search rules)
    (search rules) in
    record { value = both_clauses.0; unpacked = both_clauses.1 }

pub returns-in-Ok-None : goal.returns-in-Ok-None
returns-in-Ok-None c =
    let b = c.in-Ok-None in
    let both_clauses = absent_packs _ _ (search rules) b.field-0 b.is (rw b.is at b.field-0-is) in
    record { value = both_clauses.0; unpacked = both_clauses.1 }

pub returns-in-Err : goal.returns-in-Err
returns-in-Err c =
    let both_clauses = refused_packs _ _ (search rules) _ _ c.in-Err.is c.from.ensures in
    record { value = both_clauses.0; unpacked = both_clauses.1 }
