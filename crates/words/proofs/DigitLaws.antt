-- The bytes of a number, high byte first: how many, which number they make, and that they give the bytes back.
-- Assumes nothing.
use mathlib.Core.Path.{◌≡◌, refl, ap, ◌∙◌}
use mathlib.Core.List.{List, [], ◌∷◌, ◌++◌, append_assoc}
use Prim.Native.Nat.{ℕ, zero, suc, ◌+◌, ◌-◌, ◌*◌, ◌/◌, ◌%◌, ◌^◌, ◌≤◌, ◌<◌}
use native.Mathlib.Nat.{pow-suc, zero-add}
use native.Mathlib.Numerals.{add-one, sub-one}
use native.Mathlib.Omega.{arith}
use lib.ListN.{length, take, drop, get_or, set, replicate, length-append, length-set, length-drop}
use lib.Seq.{drop-cons, drop-set-lt, get_or-set_same, get_or_at, get_or-drop, take-suc}
use Rattle.words.specs.Numbers.{byte, Bytes, big, digits}
use Rattle.words.specs.Order.{range}

pub digits_length : (w n : ℕ) → length (digits w n) ≡ w
unfolding digits
digits_length zero n = refl
digits_length (suc w) n = length-append (digits w (n / 256)) (n % 256 ∷ []) ∙ rw (digits_length w (n / 256), add-one)

-- the bytes of a number make the number
pub big_digits : (w n : ℕ) (rest : List ℕ) → n < 256 ^ w → big (digits w n ++ rest) 0 w ≡ n
unfolding digits big
big_digits zero n rest h = omega arith
big_digits (suc w) n rest h =
    let p = pow-suc 256 w in
    let a : digits (suc w) n ++ rest ≡ digits w (n / 256) ++ n % 256 ∷ rest = append_assoc
    (digits w (n / 256)) (n % 256 ∷ []) rest in
    let b : byte (digits (suc w) n ++ rest) w ≡ n % 256 = ap (λ (l : List ℕ). byte l w) a ∙ get_or_at
    (digits w (n / 256)) (n % 256) rest 0 w (digits_length w (n / 256)) in
    let q : big (digits (suc w) n ++ rest) 0 w ≡ n / 256 = ap (λ (l : List ℕ). big l 0 w) a ∙ big_digits w (n / 256)
    (n % 256 ∷ rest) (omega arith) in
    rw (zero-add, b, q) (omega arith)

-- the bytes of the number at an offset are the bytes there
pub digits_big : (s : List ℕ) (at w : ℕ) → Bytes s → at + w ≤ length s → digits w (big s at w) ≡ range s at w
unfolding digits big
digits_big s at zero h l = refl
digits_big s at (suc w) h l =
    let q : (big s at w * 256 + byte s (at + w)) / 256 ≡ big s at w = omega (arith, h (at + w)) in
    let r : (big s at w * 256 + byte s (at + w)) % 256 ≡ byte s (at + w) = omega (arith, h (at + w)) in
    let e : take (suc w) (drop at s) ≡ take w (drop at s) ++ (get_or (drop at s) w 0 ∷ []) = take-suc (drop at s) w 0
    (rw (length-drop at s) (omega arith)) in
    rw (q, r, digits_big s at w h (omega arith), e, get_or-drop at s w 0)

-- the number 0 has zero bytes only
pub digits_zero : (w : ℕ) → digits w 0 ≡ replicate w 0
unfolding digits
digits_zero zero = refl
digits_zero (suc w) = ap (λ (l : List ℕ). l ++ (0 ∷ [])) (digits_zero w) ∙ snoc w
  where
    snoc : (k : ℕ) → ◌≡◌ {A = List ℕ} (replicate k 0 ++ (0 ∷ [])) (replicate (suc k) 0)
    snoc zero = refl
    snoc (suc k) = ap (λ (l : List ℕ). 0 ∷ l) (snoc k)

-- one byte written, from the last to the first
pub write_step : (buf : List ℕ) (i m : ℕ) → 0 < i → i ≤ length buf →
    digits (i - 1) (m / 256) ++ drop (i - 1) (set buf (i - 1) (m % 256)) ≡ digits i m ++ drop i buf
unfolding digits
write_step buf zero m p h = absurd (omega arith)
write_step buf (suc j) m p h =
    rw sub-one
    (rw (
      drop-cons (set buf j (m % 256)) j 0 (simp length-set h),
      get_or-set_same buf j (m % 256) 0 h,
      drop-set-lt (suc j) buf j (m % 256) (omega arith),
      append_assoc,
    ))
