-- `step` meets its contract: what stepping gives, and for a refusal its number and no change. Assumes nothing.
use Rattle.std.proofs.Common.{length, get_or}
use Rattle.cursor.specs.Cursor.{step_of}
use Rattle.numbers.specs.Cursor.{cursor_in, refusal_only, step_given, step_lent}
use Rattle.numbers.proofs.LentLaws.{room_back}
use Rattle.numbers.proofs.cursors.step.Goals as goal

pub put-requires : goal.put-requires
put-requires c =
    let t = c.args.table.now in
    let lent = c.args.cursor.now in
    (room_back t (length lent) 1 (refusal_only (step_of t (cursor_in (get_or lent 0 0)))) c.in-Ok.ensures).1

pub returns-in-Ok : goal.returns-in-Ok
unfolding step_lent step_given
returns-in-Ok c = rw (← c.in-Ok.ensures) c.put.ensures

pub returns-in-Err : goal.returns-in-Err
unfolding step_lent step_given
returns-in-Err c = rw (← c.in-Err.ensures, c.from-in-Err.ensures, c.from.ensures)
