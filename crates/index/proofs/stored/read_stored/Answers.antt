-- `read_stored` meets its contract, number by number. Assumes nothing.
use Rattle.index.specs.Stored.{stored_of}
use Rattle.index.proofs.stored.read_stored.Goals as goal

pub returns : goal.returns
unfolding stored_of
returns c =
    rw (
      c.word-4.ensures,
      c.word-3.ensures,
      c.word-2.ensures,
      c.word.ensures,
    )
