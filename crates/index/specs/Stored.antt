-- Where the numbers of an index file's header stand. Offsets are hexadecimal, as in document 01. Definitions only.
use Rattle.std.specs.Prelude.{ℕ, List}
use Rattle.words.specs.Numbers.{byte, word}
use Rattle.index.specs.declared.stored.Stored.{Stored}

-- the numbers as they are stored; those that a table's header has too stand where they stand there
unfoldable pub stored_of : List ℕ → Stored
stored_of x =
    record {
      record_size = word x 0x00;
      header_size = word x 0x02;
      kind = byte x 0x04;
      units = byte x 0x05;
      blocks = word x 0x0C;
      root = word x 0x1E;
      levels = byte x 0x20;
      version = byte x 0x39;
    }
