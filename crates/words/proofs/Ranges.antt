-- A range of bytes: its length, its bytes and its parts; and of two ranges, the first bytes. Assumes nothing.
use Prim.Native.Nat.{ℕ, ◌+◌, ◌-◌, ◌≤◌, ◌<◌}
use mathlib.Core.Path.{◌≡◌, sym, ap, ◌∙◌}
use mathlib.Core.List.{List, ◌++◌}
use native.Mathlib.Nat.{sub-zero, add-zero}
use native.Mathlib.Omega.{arith}
use lib.ListN.{length, take, drop, length-drop}
use lib.Seq.{ext_get_or, drop-drop, get_or-drop, get_or-take, length-take-le, take-add}
use Rattle.std.specs.Cmp.Lexicographic.{slice_cmp}
use Rattle.std.specs.Ordering.{nat_cmp}
use Rattle.words.specs.Numbers.{byte}
use Rattle.words.specs.Order.{NotLater, order, range}
use Rattle.std.specs.declared.cmp.Ordering.TheVariants.{Less}
use Rattle.words.proofs.OrderLaws.{front_not_later, slices_order}

-- ---- one range

-- a range has as many bytes as it is asked for, where they are there
pub range_length : (s : List ℕ) (at n : ℕ) → at + n ≤ length s → length (range s at n) ≡ n
range_length s at n h = length-take-le n (drop at s) (rw length-drop (omega arith))

-- byte i of a range is byte i from its place
pub range_byte : (s : List ℕ) (at n i : ℕ) → i < n → byte (range s at n) i ≡ byte s (at + i)
range_byte s at n i h = get_or-take n (drop at s) i 0 h ∙ get_or-drop at s i 0

-- a part of a slice, as code takes it, is a range
pub part_range : (s : List ℕ) (at n : ℕ) → take (at + n - at) (drop at s) ≡ range s at n
part_range s at n = let e : at + n - at ≡ n = omega arith in rw e

pub part_length : (s : List ℕ) (at n : ℕ) → at + n ≤ length s → length (take (at + n - at) (drop at s)) ≡ n
part_length s at n h = ap length (part_range s at n) ∙ range_length s at n h

pub part_index : (s : List ℕ) (at n i : ℕ) → at + n ≤ length s → i < length (take (at + n - at) (drop at s)) → i < n
part_index s at n i h l = omega (arith, l, part_length s at n h)

-- as far as its bytes go, and no less far
pub part_end : (s : List ℕ) (at n i : ℕ) → at + n ≤ length s → i ≤ length (take (at + n - at) (drop at s)) →
    length (take (at + n - at) (drop at s)) ≤ i → i ≡ n
part_end s at n i h l m = omega (arith, l, m, part_length s at n h)

pub part_byte : (s : List ℕ) (at n i : ℕ) → at + n ≤ length s → i < length (take (at + n - at) (drop at s)) →
    byte (take (at + n - at) (drop at s)) i ≡ byte s (at + i)
part_byte s at n i h l =
    ap (λ (r : List ℕ). byte r i) (part_range s at n) ∙ range_byte s at n i (part_index s at n i h l)

-- a range of n + m bytes is one of n and, behind it, one of m
pub range_join : (s : List ℕ) (at n m : ℕ) → range s at (n + m) ≡ range s at n ++ range s (at + n) m
range_join s at n m = take-add n m (drop at s) ∙ ap (λ (l : List ℕ). range s at n ++ take m l) (drop-drop n at s)

-- ranges with the same bytes are the same
pub range_same : (s t : List ℕ) (at to n : ℕ) → at + n ≤ length s → to + n ≤ length t →
    ((i : ℕ) → i < n → byte s (at + i) ≡ byte t (to + i)) → range s at n ≡ range t to n
range_same s t at to n k l h =
    let a = range_length s at n k in
    ext_get_or 0 (range s at n) (range t to n) (a ∙ sym (range_length t to n l))
    (λ i m. let b : i < n = rw (← a) m in range_byte s at n i b ∙ h i b ∙ sym (range_byte t to n i b))

-- ---- two ranges

-- of two ranges of n bytes, the first w bytes of the lesser are not later
pub range_front_not_later : (s t : List ℕ) (at to w n : ℕ) → w ≤ n → at + w ≤ length s → to + w ≤ length t →
    order (range s at n) (range t to n) ≡ Less → NotLater (range s at w) (range t to w)
range_front_not_later s t at to w n l j k h =
    let e : n ≡ w + (n - w) = omega arith in
    front_not_later (range s at w) (range t to w) (range s (at + w) (n - w)) (range t (to + w) (n - w))
    (range_length s at w j ∙ sym (range_length t to w k))
    (rw (← range_join s at w (n - w), ← range_join t to w (n - w), ← e) h)

-- what is left of the n bytes from p after i of them
abbrev pub rest : List ℕ → ℕ → ℕ → ℕ → List ℕ
rest s p n i = range s (p + i) (n - i)

pub rest_whole : (s : List ℕ) (p n : ℕ) → rest s p n 0 ≡ range s p n
rest_whole s p n = rw (sub-zero n, add-zero p)

-- what is left, as code takes it
pub rest_part : (s : List ℕ) (p n i : ℕ) → take (p + n - (p + i)) (drop (p + i) s) ≡ rest s p n i
rest_part s p n i = let e : p + n - (p + i) ≡ n - i = omega arith in rw e

-- std's order of what is left of two slices, as code takes it
pub rests_order : (a b : List ℕ) (p q n i : ℕ) →
    slice_cmp nat_cmp (take (p + n - (p + i)) (drop (p + i) a)) (take (q + n - (q + i)) (drop (q + i) b))
    ≡ order (rest a p n i) (rest b q n i)
rests_order a b p q n i = rw (rest_part, rest_part) (slices_order (rest a p n i) (rest b q n i))
