-- Byte order of two ranges of bytes. Definitions only.
use Rattle.std.specs.Prelude.{ℕ, ◌+◌, ◌≡◌, List, [], ◌∷◌, Bool, true, cond, ltb, take, drop}
use Rattle.std.specs.Ordering.{is_eq, is_le, is_lt}
use Rattle.std.specs.declared.cmp.Ordering.{Ordering}
use Rattle.std.specs.declared.cmp.Ordering.TheVariants.{Less, Equal, Greater}

-- the n bytes of a file from an offset
abbrev pub range : List ℕ → ℕ → ℕ → List ℕ
range s at n = take n (drop at s)

-- the address so many bytes behind another
abbrev pub behind : ℕ × ℕ → ℕ → ℕ × ℕ
behind address n = (address.0, n + address.1)

-- byte order: the first byte that differs decides, and a range that ends first is less
unfoldable pub order : List ℕ → List ℕ → Ordering
order [] [] = Equal
order [] (y ∷ ys) = Less
order (x ∷ xs) [] = Greater
order (x ∷ xs) (y ∷ ys) = cond (ltb x y) Less (cond (ltb y x) Greater (order xs ys))

-- the order of two numbers
unfoldable pub number_order : ℕ → ℕ → Ordering
number_order m n = cond (ltb m n) Less (cond (ltb n m) Greater Equal)

-- the first of two ranges is less
abbrev pub is_less : Ordering → Bool
is_less = is_lt

-- the first of two ranges is less, or they are the same
abbrev pub is_at_most : Ordering → Bool
is_at_most = is_le

-- that of two ranges, as a proposition
abbrev pub NotLater : List ℕ → List ℕ → Type 0
NotLater a b = is_at_most (order a b) ≡ true

-- two ranges are the same
abbrev pub is_same : Ordering → Bool
is_same = is_eq
