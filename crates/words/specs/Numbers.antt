-- Numbers of w bytes at an offset of a file. Offsets and widths count bytes. Definitions only.
use Rattle.std.specs.Prelude.{ℕ, zero, suc, ◌+◌, ◌*◌, ◌/◌, ◌%◌, ◌^◌, ◌<◌, List, [], ◌∷◌, ◌++◌, get_or}

-- the byte at an offset; past the end it counts as 0, and no answer depends on that
abbrev pub byte : List ℕ → ℕ → ℕ
byte s at = get_or s at 0

-- what a slice of bytes holds: numbers below 256
abbrev pub Bytes : List ℕ → Type 0
Bytes s = (i : ℕ) → byte s i < 256

-- the number of the w bytes at an offset, low byte first (headers and block heads)
unfoldable pub little : List ℕ → ℕ → ℕ → ℕ
little s at zero = 0
little s at (suc w) = little s at w + 256 ^ w * byte s (at + w)

-- a word: two bytes
abbrev pub word : List ℕ → ℕ → ℕ
word s at = little s at 2

-- a long: four bytes
abbrev pub long : List ℕ → ℕ → ℕ
long s at = little s at 4

-- the number of the w bytes at an offset, high byte first (cells and index entries)
unfoldable pub big : List ℕ → ℕ → ℕ → ℕ
big s at zero = 0
big s at (suc w) = big s at w * 256 + byte s (at + w)

-- the w low bytes of a number, high byte first
unfoldable pub digits : ℕ → ℕ → List ℕ
digits zero n = []
digits (suc w) n = digits w (n / 256) ++ (n % 256 ∷ [])
