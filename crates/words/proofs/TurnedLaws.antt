-- Eight bytes as one number, low byte first and high byte first: each byte by division, and the number turned round.
-- Assumes nothing.
use mathlib.Core.Path.{◌≡◌, sym, ap, ◌∙◌}
use mathlib.Core.List.{List}
use Prim.Native.Nat.{ℕ, zero, suc, ◌+◌, ◌*◌, ◌/◌, ◌%◌, ◌^◌, ◌<◌}
use native.Mathlib.Nat.{mul-add, mul_assoc, add-zero, add-suc, add_assoc}
use native.Mathlib.Nat.{add-mul-div_left, div-eq_of_lt, zero-add, mod-lt}
use native.Mathlib.Omega.{arith}
use lib.Dec.{lit<}
use lib.Pow.{pow-add}
use Rattle.words.specs.Numbers.{byte, Bytes, little, big}
use Rattle.words.specs.Steps.{turned_round}
use Rattle.words.proofs.NumberLaws.{little_lt}

-- a number of v + w bytes is one of v bytes and, above it, one of w bytes
pub little_join : (s : List ℕ) (at v w : ℕ) → little s at (v + w) ≡ little s at v + 256 ^ v * little s (at + v) w
unfolding little
little_join s at v zero = rw add-zero (omega arith)
little_join s at v (suc w) =
    let p : 256 ^ (v + w) ≡ 256 ^ v * 256 ^ w = pow-add 256 v w in
    let q : at + (v + w) ≡ at + v + w = sym (add_assoc at v w) in
    rw add-suc (rw (little_join s at v w, p, q, mul-add, mul_assoc, add_assoc))

-- byte j of a little-endian number
pub byte_of : (s : List ℕ) (at j r : ℕ) → Bytes s → little s at (j + suc r) / 256 ^ j % 256 ≡ byte s (at + j)
unfolding little
byte_of s at j r h =
    let x = little s (at + j) (suc r) in
    let p : 0 < 256 ^ j = omega (arith, little_lt s at j h) in
    let q : little s at (j + suc r) / 256 ^ j ≡ x =
    ap (λ (n : ℕ). n / 256 ^ j) (little_join s at j (suc r)) ∙ add-mul-div_left (little s at j) x p
    ∙ ap (λ (n : ℕ). n + x) (div-eq_of_lt (little_lt s at j h)) ∙ zero-add x in
    let e : suc r ≡ 1 + r = omega arith in
    let first : little s (at + j) 1 ≡ byte s (at + j) = rw add-zero (omega arith) in
    let f = ap (little s (at + j)) e ∙ little_join s (at + j) 1 r in
    ap (λ (n : ℕ). n % 256) q ∙ omega (arith, f, first, h (at + j))

-- eight bytes, low byte first, turned round are the same bytes high byte first
pub turned_is : (s : List ℕ) (at : ℕ) → Bytes s → turned_round (little s at 8) ≡ big s at 8
unfolding big turned_round
turned_is s at h =
    let n = little s at 8 in
    let b0 : n % 256 ≡ byte s (at + 0) = omega (arith, byte_of s at 0 7 h) in
    let b1 : n / 256 % 256 ≡ byte s (at + 1) = byte_of s at 1 6 h in
    let b2 : n / 65536 % 256 ≡ byte s (at + 2) = byte_of s at 2 5 h in
    let b3 : n / 16777216 % 256 ≡ byte s (at + 3) = byte_of s at 3 4 h in
    let b4 : n / 4294967296 % 256 ≡ byte s (at + 4) = byte_of s at 4 3 h in
    let b5 : n / 1099511627776 % 256 ≡ byte s (at + 5) = byte_of s at 5 2 h in
    let b6 : n / 281474976710656 % 256 ≡ byte s (at + 6) = byte_of s at 6 1 h in
    let b7 : n / 72057594037927936 ≡ byte s (at + 7) = omega (arith, byte_of s at 7 0 h, little_lt s at 8 h) in
    rw (b0, b1, b2, b3, b4, b5, b6, b7) (omega arith)

-- eight bytes by name are below 256 ^ 8
eight_lt : (a b c d e f g h : ℕ) → a < 256 → b < 256 → c < 256 → d < 256 → e < 256 → f < 256 → g < 256 → h < 256
    → a * 72057594037927936 + b * 281474976710656 + (c * 1099511627776 + d * 4294967296)
    + (e * 16777216 + f * 65536 + (g * 256 + h)) < 2 ^ 64
eight_lt a b c d e f g h a' b' c' d' e' f' g' h' = omega arith

-- so what is turned round is a number of eight bytes
pub turned_lt : (n : ℕ) → n < 2 ^ 64 → turned_round n < 2 ^ 64
unfolding turned_round
turned_lt n l =
    eight_lt (n % 256) (n / 256 % 256) (n / 65536 % 256) (n / 16777216 % 256) (n / 4294967296 % 256)
    (n / 1099511627776 % 256) (n / 281474976710656 % 256) (n / 72057594037927936)
    (mod-lt _ (lit< tt)) (mod-lt _ (lit< tt)) (mod-lt _ (lit< tt)) (mod-lt _ (lit< tt)) (mod-lt _ (lit< tt))
    (mod-lt _ (lit< tt)) (mod-lt _ (lit< tt)) (omega (arith, l))
