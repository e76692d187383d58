-- `give` meets its contract: the numbers in front, the others as they were; or refused. Assumes nothing.
use Rattle.numbers.specs.Lent.{given}
use Rattle.numbers.proofs.LentLaws.{put_in_front}
use Rattle.numbers.proofs.lent.give.Goals as goal

pub returns-in-Ok : goal.returns-in-Ok
unfolding given
returns-in-Ok t c =
    rw c.in-Ok.is (put_in_front c.args.lent.now _ c.in-Ok.numbers _ (rw c.in-Ok.is at c.requires) c.put.ensures)

pub returns-in-Err : goal.returns-in-Err
unfolding given
returns-in-Err t c = rw c.in-Err.is c.refuse.ensures
