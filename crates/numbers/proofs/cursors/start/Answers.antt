-- `start` meets its contract: what starting gives, and for a refusal every number 0. Assumes nothing.
use Rattle.std.proofs.Common.{length}
use Rattle.cursor.specs.Cursor.{start_of}
use Rattle.numbers.specs.Cursor.{refusal_only, start_given, start_lent}
use Rattle.numbers.proofs.LentLaws.{room_back}
use Rattle.numbers.proofs.cursors.start.Goals as goal

pub put-requires : goal.put-requires
put-requires c =
    let t = c.args.table.now in
    (room_back t (length c.args.cursor.now) 1 (refusal_only (start_of t)) c.in-Ok.ensures).1

pub returns-in-Ok : goal.returns-in-Ok
unfolding start_lent start_given
returns-in-Ok c = rw (← c.in-Ok.ensures) c.put.ensures

pub returns-in-Err : goal.returns-in-Err
unfolding start_lent start_given
returns-in-Err c = rw (← c.in-Err.ensures, c.from.ensures) c.refuse.ensures
