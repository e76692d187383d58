-- Numbers as text. Definitions only.
use Rattle.std.specs.Prelude.{ℕ, zero, suc, ◌-◌, ◌/◌, cond, List, ◌∷◌, leb, ltb, ℤ, pos, negsuc}
use Rattle.io.specs.Digits.{last_digits}

-- how many decimal digits a number has, of at most suc `most`
unfoldable pub places_in : ℕ → ℕ → ℕ
places_in zero n = 1
places_in (suc most) n = cond (ltb n 10) 1 (suc (places_in most (n / 10)))

-- a number in decimal, without zeros in front; one of 64 bits has at most 20 digits
unfoldable pub decimal : ℕ → List ℕ
decimal n = last_digits 10 (places_in 19 n) n

-- a minus sign
abbrev pub minus : ℕ
minus = 45

-- a signed number in decimal. negsuc k is -(k + 1)
unfoldable pub signed_text : ℤ → List ℕ
signed_text (pos n) = decimal n
signed_text (negsuc n) = minus ∷ decimal (suc n)

-- the same number by what it is with `top` added
unfoldable pub shifted_text : ℕ → ℕ → List ℕ
shifted_text top n = cond (leb top n) (decimal (n - top)) (minus ∷ decimal (top - n))

-- a number of 64 bits as 16 lower-case hex digits, high first
unfoldable pub hex_text : ℕ → List ℕ
hex_text n = last_digits 16 16 n
