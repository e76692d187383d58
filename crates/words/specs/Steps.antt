-- Numbers by their bytes, where no function answers one. Definitions only.
use Rattle.std.specs.Prelude.{ℕ, ◌+◌, ◌*◌, ◌/◌, ◌%◌}

-- a number of eight bytes with its bytes turned round
unfoldable pub turned_round : ℕ → ℕ
turned_round n =
    n % 256 * 72057594037927936 + n / 256 % 256 * 281474976710656
    + (n / 65536 % 256 * 1099511627776 + n / 16777216 % 256 * 4294967296)
    + (n / 4294967296 % 256 * 16777216 + n / 1099511627776 %
    256 * 65536 + (n / 281474976710656 % 256 * 256 + n / 72057594037927936))
