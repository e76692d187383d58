-- Ranges that are the same, in two files and at two offsets, have the same bytes, parts, numbers and zeros.
-- Assumes nothing.
use Prim.Native.Nat.{ℕ, zero, suc, ◌+◌, ◌-◌, ◌≤◌, ◌<◌}
use mathlib.Core.Path.{◌≡◌, sym, ap, ◌∙◌}
use mathlib.Core.List.{List, [], ◌∷◌}
use native.Mathlib.Nat.{sub-zero}
use native.Mathlib.Omega.{arith}
use lib.ListN.{length, take, drop, length-take, length-drop}
use lib.Seq.{drop-drop, take-nil, take-take}
use Rattle.words.specs.Numbers.{byte, little, big}
use Rattle.words.specs.Order.{range}
use Rattle.words.specs.Zeros.{all_zero, before_zero}
use Rattle.words.proofs.NumberLaws.{little_same, big_same}
use Rattle.words.proofs.Ranges.{range_length, range_byte}
use Rattle.words.proofs.ZeroLaws.{before_same, zero_same}

-- what is left of the first n after i
take_behind : (i n : ℕ) (l : List ℕ) → drop i (take n l) ≡ take (n - i) (drop i l)
take_behind zero n l = rw (sub-zero n)
take_behind (suc i) zero l = let e : 0 - suc i ≡ 0 = omega arith in rw e
take_behind (suc i) (suc n) [] = sym (take-nil (suc n - suc i))
take_behind (suc i) (suc n) (x ∷ l) = let e : suc n - suc i ≡ n - i = omega arith in rw e (take_behind i n l)

-- a part of a range is a range
pub range_part : (s : List ℕ) (at n i m : ℕ) → i + m ≤ n → range (range s at n) i m ≡ range s (at + i) m
range_part s at n i m h =
    ap (take m) (take_behind i n (drop at s))
    ∙ take-take m (n - i) (drop i (drop at s)) (omega arith)
    ∙ ap (take m) (drop-drop i at s)

module _ (s t : List ℕ) (at to n : ℕ) (h : range s at n ≡ range t to n) where
  pub same_byte : (i : ℕ) → i < n → byte s (at + i) ≡ byte t (to + i)
  same_byte i l = sym (range_byte s at n i l) ∙ ap (λ (r : List ℕ). byte r i) h ∙ range_byte t to n i l

  pub same_part : (i m : ℕ) → i + m ≤ n → range s (at + i) m ≡ range t (to + i) m
  same_part i m l =
      sym (range_part s at n i m l) ∙ ap (λ (r : List ℕ). range r i m) h ∙ range_part t to n i m l

  pub same_little : little s at n ≡ little t to n
  same_little = little_same s t at to n same_byte

  pub same_big : big s at n ≡ big t to n
  same_big = big_same s t at to n same_byte

  pub same_zeros : all_zero s at n ≡ all_zero t to n
  same_zeros = zero_same s t at to n same_byte

  pub same_before : before_zero s at n ≡ before_zero t to n
  same_before = before_same s t at to n same_byte

  -- where one of them has a byte and is inside its file, so is the other
  pub same_inside : 1 ≤ n → to + n ≤ length t → at + n ≤ length s
  same_inside l m =
      let e : length (range s at n) ≡ n = ap length h ∙ range_length t to n m in
      omega (arith, simp (length-take, length-drop) at e)
