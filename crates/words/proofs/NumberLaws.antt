-- Laws of numbers of w bytes, each once over the width: a number is below 256 ^ w, the same bytes make the same number,
-- and the bytes of some widths by name. Assumes nothing.
use mathlib.Core.Path.{◌≡◌, refl}
use mathlib.Core.List.{List, [], ◌∷◌}
use Prim.Native.Nat.{ℕ, zero, suc, ◌+◌, ◌*◌, ◌^◌, ◌≤◌, ◌<◌}
use native.Mathlib.Nat.{pow-suc, pow-le-pow_right, mul-le-mul_left, add-zero, lt_of_lt_of_le}
use native.Mathlib.Numerals.{add-one}
use native.Mathlib.Omega.{arith}
use lib.Dec.{lit<}
use Rattle.std.specs.Int.{w16, w32, w64, from_be_bytes, from_le_bytes}
use Rattle.words.specs.Numbers.{byte, Bytes, little, big}

-- a number of w bytes is below 256 ^ w, low byte first
pub little_lt : (s : List ℕ) (at w : ℕ) → Bytes s → little s at w < 256 ^ w
unfolding little
little_lt s at zero h = lit< tt
little_lt s at (suc w) h =
    let b : byte s (at + w) ≤ 255 = omega (arith, h (at + w)) in
    let m : 256 ^ w * byte s (at + w) ≤ 256 ^ w * 255 = mul-le-mul_left (256 ^ w) b in
    rw pow-suc (omega (arith, little_lt s at w h))

-- the same bytes are the same number
pub little_same : (s t : List ℕ) (at to w : ℕ) → ((i : ℕ) → i < w → byte s (at + i) ≡ byte t (to + i)) →
    little s at w ≡ little t to w
unfolding little
little_same s t at to zero h = refl
little_same s t at to (suc w) h = rw (little_same s t at to w (λ i l. h i (omega arith)), h w (omega arith))

-- one byte more keeps a number below the next power
pub grow : (w n b : ℕ) → n < 256 ^ w → b < 256 → n * 256 + b < 256 ^ suc w
grow w n b h k = rw pow-suc (omega arith)

-- a number of w bytes is below 256 ^ w, high byte first
pub big_lt : (s : List ℕ) (at w : ℕ) → Bytes s → big s at w < 256 ^ w
unfolding big
big_lt s at zero h = lit< tt
big_lt s at (suc w) h = grow w (big s at w) (byte s (at + w)) (big_lt s at w h) (h (at + w))

-- a number below 256 ^ w with w at most k is below 256 ^ k
pub below_wider : (w k n : ℕ) → w ≤ k → n < 256 ^ w → n < 256 ^ k
below_wider w k n h l = lt_of_lt_of_le l (pow-le-pow_right {n = 256} (lit< tt) h)

-- the bytes of a word, of a long and of eight bytes by name
pub two_bytes : (s : List ℕ) (at : ℕ) → from_le_bytes w16 (byte s at ∷ byte s (at + 1) ∷ []) ≡ little s at 2
unfolding little
two_bytes s at = rw add-zero (omega arith)

pub four_bytes : (s : List ℕ) (at : ℕ) →
    from_le_bytes w32 (byte s at ∷ byte s (at + 1) ∷ byte s (at + 2) ∷ byte s (at + 3) ∷ []) ≡ little s at 4
unfolding little
four_bytes s at = rw add-zero (omega arith)

pub eight_bytes : (s : List ℕ) (at : ℕ) →
    from_be_bytes w64 (byte s at ∷ byte s (at + 1) ∷ byte s (at + 2) ∷ byte s (at + 3)
    ∷ byte s (at + 4) ∷ byte s (at + 5) ∷ byte s (at + 6) ∷ byte s (at + 7) ∷ []) ≡ big s at 8
unfolding big
eight_bytes s at = rw add-zero (omega arith)

-- one byte more of a big-endian number, as a loop counts
pub big_step : (s : List ℕ) (at i : ℕ) → big s at (i + 1) ≡ big s at i * 256 + byte s (at + i)
unfolding big
big_step s at i = rw add-one

-- the same bytes make the same number
pub big_same : (s t : List ℕ) (at to w : ℕ) → ((i : ℕ) → i < w → byte s (at + i) ≡ byte t (to + i)) →
    big s at w ≡ big t to w
unfolding big
big_same s t at to zero h = refl
big_same s t at to (suc w) h = rw (big_same s t at to w (λ i l. h i (omega arith)), h w (omega arith))
