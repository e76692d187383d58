-- `double_of` asks only for bits that are no not-a-number's: those are beyond an infinity's. Assumes nothing.
use mathlib.Core.Path.{◌≡◌, refl}
use mathlib.Core.Bool.{Bool, true, false, not, ◌&&◌}
use Prim.Native.Nat.{ℕ, ◌%◌, ◌/◌, ◌≤◌}
use native.Mathlib.Omega.{arith}
use lib.Dec.{T, eqb}
use lib.Ieee.{nan_bits, binary64}
use borrow.Author.Rules.{rules}
use borrow.Author.Tests.{eq-eqb, eqb-true}
use Rattle.cell_test.proofs.values.double_of.Goals as goal

-- with the exponent's field all ones, digits of 0 are left
up-to-infinite : (b : ℕ) → b % 9223372036854775808 ≤ 9218868437227405312 → T (not (nan_bits binary64 b))
unfolding nan_bits
up-to-infinite b h = go (eqb (b % 9223372036854775808 / 4503599627370496) 2047) refl
  where
    go : (t : Bool) → eqb (b % 9223372036854775808 / 4503599627370496) 2047 ≡ t
        → T (not (t && not (eqb (b % 4503599627370496) 0)))
    go true e =
        let x = eqb-true (b % 9223372036854775808 / 4503599627370496) 2047 e in
        rw (eq-eqb (b % 4503599627370496) 0 (omega arith)) tt
    go false e = tt

pub float_from_bits-result : goal.float_from_bits-result
float_from_bits-result c = up-to-infinite c.args.bits (search rules)
