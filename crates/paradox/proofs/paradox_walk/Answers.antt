-- `paradox_walk` meets its contract: what the walk answers, packed. Assumes nothing.
use Rattle.std.specs.Prelude.{Ok, Err}
use Rattle.index.specs.Walk.{found_of, reads_of}
use Rattle.paradox.proofs.PackingLaws.{walk_packs}
use Rattle.paradox.proofs.paradox_walk.Goals as goal

pub returns-in-Ok : goal.returns-in-Ok
unfolding found_of reads_of
returns-in-Ok c =
    let p = c.pack.ensures in
    let q = walk_packs _ (Ok c.in-Ok.walked) _ c.in-Ok.ensures.result_value (p.value, p.unpacked) in
    record { value = q.0; walk_unpacked = q.1 }

pub returns-in-Err : goal.returns-in-Err
unfolding found_of reads_of
returns-in-Err c =
    let p = c.pack-in-Err.ensures in
    let q = walk_packs _ (Err c.in-Err.refusal) _ c.in-Err.ensures.result_value (p.value, p.unpacked) in
    record { value = q.0; walk_unpacked = q.1 }
