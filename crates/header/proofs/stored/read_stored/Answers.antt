-- `read_stored` meets its contract, number by number. Assumes nothing.
use Rattle.header.specs.Stored.{stored_of}
use Rattle.header.proofs.stored.read_stored.Goals as goal

pub returns : goal.returns
unfolding stored_of
returns c =
    rw (
      c.word-8.ensures,
      c.word-7.ensures,
      c.word-6.ensures,
      c.word-5.ensures,
      c.word-4.ensures,
      c.word-3.ensures,
      c.long.ensures,
      c.word-2.ensures,
      c.word.ensures,
    )
