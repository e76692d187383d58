-- Request 03 needs request 02: by document 01's rule alone, the top bit complemented whatever it is, -2.0 and -1.0
-- break the order. antt computes it. That rule is said here only. Assumes nothing.
use mathlib.Core.Path.{◌≡◌, refl}
use mathlib.Core.Bool.{true}
use Prim.Native.Nat.{ℕ}
use lib.IntN.{pos}
use lib.Ieee.{Float, binary64, fin, lt, of_bits}
use Rattle.words.specs.Numbers.{digits}
use Rattle.words.specs.Order.{order}
use Rattle.words.specs.Signed.{half, complemented}
use Rattle.std.specs.declared.cmp.Ordering.TheVariants.{Less}
use Rattle.cell.specs.Doubles.{meant_bits, double_of}

-- the double that a stored number of eight bytes means by document 01 alone
unfoldable pub old_double : ℕ → Float
old_double n = of_bits binary64 (complemented (half 8) n)

-- -2.0 and -1.0
abbrev minus_two : Float
minus_two = fin true 1 (pos 1)

abbrev minus_one : Float
minus_one = fin true 1 (pos 0)

-- by that rule the bytes of -1.0 come earlier, though -2.0 is less
pub old_rule_breaks :
    (old_double 0x4000000000000000 ≡ minus_two) × (old_double 0x3FF0000000000000 ≡ minus_one)
    × (lt minus_two minus_one ≡ true) × (order (digits 8 0x3FF0000000000000) (digits 8 0x4000000000000000) ≡ Less)
unfolding old_double complemented of_bits lt digits order
old_rule_breaks = (refl, refl, refl, refl)

-- by request 02's those of -2.0 do
pub new_rule_holds :
    (double_of 8 0x3FFFFFFFFFFFFFFF ≡ minus_two) × (double_of 8 0x400FFFFFFFFFFFFF ≡ minus_one)
    × (order (digits 8 0x3FFFFFFFFFFFFFFF) (digits 8 0x400FFFFFFFFFFFFF) ≡ Less)
unfolding double_of meant_bits of_bits digits order
new_rule_holds = (refl, refl, refl)
