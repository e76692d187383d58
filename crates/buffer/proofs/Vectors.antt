-- A few numbers as text, by computing: 0, 12, -1, the least short that a cell stores, the greatest number of 64 bits,
-- and the bits of 1.0. Assumes nothing.
use Prim.Native.Nat.{ℕ}
use mathlib.Core.Path.{◌≡◌, refl}
use mathlib.Core.List.{List, [], ◌∷◌}
use lib.IntN.{pos, negsuc}
use Rattle.buffer.specs.Text.{places_in, decimal, signed_text, hex_text}

-- `18446744073709551615` in ASCII
abbrev greatest : List ℕ
greatest = 49 ∷ 56 ∷ 52 ∷ 52 ∷ 54 ∷ 55 ∷ 52 ∷ 52 ∷ 48 ∷ 55 ∷ 51 ∷ 55 ∷ 48 ∷ 57 ∷ 53 ∷ 53 ∷ 49 ∷ 54 ∷ 49 ∷ 53 ∷ []

-- `3ff0000000000000`
abbrev bits_of_one : List ℕ
bits_of_one = 51 ∷ 102 ∷ 102 ∷ 48 ∷ 48 ∷ 48 ∷ 48 ∷ 48 ∷ 48 ∷ 48 ∷ 48 ∷ 48 ∷ 48 ∷ 48 ∷ 48 ∷ 48 ∷ []

pub numbers_hold : (decimal 0 ≡ 48 ∷ [])
    × (signed_text (pos 12) ≡ 49 ∷ 50 ∷ [])
    × (signed_text (negsuc 0) ≡ 45 ∷ 49 ∷ [])
    × (signed_text (negsuc 32766) ≡ 45 ∷ 51 ∷ 50 ∷ 55 ∷ 54 ∷ 55 ∷ [])
    × (decimal 18446744073709551615 ≡ greatest)
    × (hex_text 0x3ff0000000000000 ≡ bits_of_one)
unfolding places_in decimal signed_text hex_text
numbers_hold = (refl, refl, refl, refl, refl, refl)
