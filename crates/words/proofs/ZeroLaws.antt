-- Zero bytes: the bytes before the first zero, a number whose bytes are all zero, and zeros behind other bytes.
-- Assumes nothing.
use Prim.Native.Nat.{ℕ, zero, suc, ◌+◌, ◌-◌, ◌*◌, ◌≤◌, ◌<◌}
use mathlib.Core.Path.{◌≡◌, refl, sym, ap, ◌∙◌}
use mathlib.Core.Bool.{Bool, true, false, cond, not, ◌&&◌}
use mathlib.Core.List.{List, ◌++◌, append_assoc}
use mathlib.Core.Logic.{⊎_elim}
use native.Mathlib.Nat.{add-zero, zero-add, not-suc-le-zero, eq-or-lt_of_le, le_antisymm}
use native.Mathlib.Omega.{arith}
use lib.Arith.{lt_of_le-ne}
use lib.Dec.{eqb, ltb}
use lib.ListN.{length, take, drop, replicate, length-replicate, get_or-replicate, get_or-append}
use lib.Seq.{ext_get_or, get_or-append-add}
use borrow.Author.Tests.{eq-eqb, ne_eqb, eqb-true, eqb-false, ltb-true, ltb-false}
use Rattle.std.specs.List.{position, position_or_len}
use Rattle.std.specs.Option.{unwrap_or}
use Rattle.std.specs.declared.option.Option.TheVariants.{None, Some}
use Rattle.std.proofs.lemmas.List.Sums.{position_or_len_is}
use Rattle.words.specs.Each.{each}
use Rattle.words.specs.Numbers.{byte, little, big}
use Rattle.words.specs.Order.{range}
use Rattle.words.specs.Zeros.{all_zero, before_zero}
use Rattle.words.proofs.EachLaws.{each_gives, each_takes, each_fails}
use Rattle.words.proofs.Ranges.{part_byte, part_index, part_length, range_length, range_byte}
use Rattle.words.proofs.Cases.{lt_or_ge}

-- the bytes before the first zero are no zeros, and the zero ends them
pub before_nonzero : (t : List ℕ) (at m i : ℕ) → i < before_zero t at m → byte t (at + i) ≡ 0 → ⊥
unfolding before_zero
before_nonzero t at zero i l z = not-suc-le-zero l
before_nonzero t at (suc m) i l z = go (eqb (byte t at) 0) refl i l z (before_nonzero t (suc at) m)
  where
    go : (b : Bool) → eqb (byte t at) 0 ≡ b → (i : ℕ) → i < cond b 0 (suc (before_zero t (suc at) m)) →
        byte t (at + i) ≡ 0 → ((j : ℕ) → j < before_zero t (suc at) m → byte t (suc at + j) ≡ 0 → ⊥) → ⊥
    go true e i l z ih = not-suc-le-zero l
    go false e zero l z ih = eqb-false (byte t at) 0 e (rw add-zero at z)
    go false e (suc j) l z ih = let f : at + suc j ≡ suc at + j = omega arith in ih j (omega arith) (rw f at z)

pub before_zero_lem : (t : List ℕ) (at m : ℕ) → before_zero t at m < m → byte t (at + before_zero t at m) ≡ 0
unfolding before_zero
before_zero_lem t at zero l = absurd (not-suc-le-zero l)
before_zero_lem t at (suc m) l = go (eqb (byte t at) 0) refl l (before_zero_lem t (suc at) m)
  where
    go : (b : Bool) → eqb (byte t at) 0 ≡ b → cond b 0 (suc (before_zero t (suc at) m)) < suc m →
        (before_zero t (suc at) m < m → byte t (suc at + before_zero t (suc at) m) ≡ 0) →
        byte t (at + cond b 0 (suc (before_zero t (suc at) m))) ≡ 0
    go true e l ih = rw add-zero (eqb-true (byte t at) 0 e)
    go false e l ih =
        let f : at + suc (before_zero t (suc at) m) ≡ suc at + before_zero t (suc at) m = omega arith in rw f
        (ih (omega arith))

pub before_most : (t : List ℕ) (at m : ℕ) → before_zero t at m ≤ m
unfolding before_zero
before_most t at zero = omega arith
before_most t at (suc m) = go (eqb (byte t at) 0) (before_most t (suc at) m)
  where
    go : (b : Bool) → before_zero t (suc at) m ≤ m → cond b 0 (suc (before_zero t (suc at) m)) ≤ suc m
    go true ih = omega arith
    go false ih = omega arith

-- ---- a pass over bytes that are no zeros

-- the first i bytes at an offset are no zeros
abbrev pub Nonzero : List ℕ → ℕ → ℕ → Type 0
Nonzero t at i = (j : ℕ) → j < i → byte t (at + j) ≡ 0 → ⊥

pub nonzero_none : (t : List ℕ) (at : ℕ) → Nonzero t at 0
nonzero_none t at j l z = not-suc-le-zero l

pub nonzero_more : (t : List ℕ) (at i : ℕ) → Nonzero t at i → (byte t (at + i) ≡ 0 → ⊥) → Nonzero t at (i + 1)
nonzero_more t at i h k j l z =
    ⊎_elim (λ (e : j ≡ i). k (ap (λ (x : ℕ). byte t (at + x)) (sym e) ∙ z)) (λ m. h j m z)
    (eq-or-lt_of_le {n = j} {m = i} (omega arith))

-- bytes that are no zeros are no more than stand before the first zero
pub before_least : (t : List ℕ) (at m i : ℕ) → i ≤ m → Nonzero t at i → i ≤ before_zero t at m
before_least t at m i l h = go (ltb (before_zero t at m) i) refl
  where
    go : (b : Bool) → ltb (before_zero t at m) i ≡ b → i ≤ before_zero t at m
    go true e =
        let k = ltb-true (before_zero t at m) i e in
        absurd (h (before_zero t at m) k (before_zero_lem t at m (omega arith)))
    go false e = ltb-false (before_zero t at m) i e

-- as many bytes that are no zeros, and then a zero
pub before_is : (t : List ℕ) (at m i : ℕ) → i < m → Nonzero t at i → byte t (at + i) ≡ 0 → before_zero t at m ≡ i
before_is t at m i l h z = go (ltb i (before_zero t at m)) refl
  where
    go : (b : Bool) → ltb i (before_zero t at m) ≡ b → before_zero t at m ≡ i
    go true e = absurd (before_nonzero t at m i (ltb-true i (before_zero t at m) e) z)
    go false e = le_antisymm (ltb-false i (before_zero t at m) e) (before_least t at m i (omega arith) h)

-- no zero among them
pub before_whole : (t : List ℕ) (at m : ℕ) → Nonzero t at m → before_zero t at m ≡ m
before_whole t at m h = le_antisymm (before_most t at m) (before_least t at m m (omega arith) h)

-- the first zero of a part of a slice, as code finds it, or as many bytes as there are
pub before_first : (s : List ℕ) (at n : ℕ) → at + n ≤ length s →
    unwrap_or (position (λ b. eqb b 0) (take (at + n - at) (drop at s))) n ≡ before_zero s at n
before_first s at n h =
    let part = take (at + n - at) (drop at s) in
    let z = before_zero s at n in
    let len = part_length s at n h in
    let bytes : (i : ℕ) → i < length part → byte part i ≡ byte s (at + i) = λ i. part_byte s at n i h in
    let most = before_most s at n in
    let e : position_or_len (λ b. eqb b 0) part ≡ z =
    position_or_len_is (λ b. eqb b 0) part z 0 (rw len most)
    (λ i l. let m : i < length part = rw len (omega (arith, l, most)) in
    ne_eqb (byte part i) 0 (λ y. before_nonzero s at n i l (sym (bytes i m) ∙ y)))
    (λ l. eq-eqb (byte part z) 0 (bytes z l ∙ before_zero_lem s at n (part_index s at n z h l))) in
    rw (e, len) (go z most (ltb z n) refl)
  where
    go : (z : ℕ) → z ≤ n → (b : Bool) → ltb z n ≡ b → unwrap_or (cond b (Some z) None) n ≡ z
    go z most true e = refl
    go z most false e = le_antisymm (ltb-false z n e) most

-- no byte is zero exactly when all of them stand before the first zero
pub none_zero : (s : List ℕ) (n : ℕ) → each (λ (i : ℕ). not (eqb (byte s i) 0)) n ≡ eqb (before_zero s 0 n) n
none_zero s n = go (eqb (before_zero s 0 n) n) refl
  where
    go : (b : Bool) → eqb (before_zero s 0 n) n ≡ b → each (λ (i : ℕ). not (eqb (byte s i) 0)) n ≡ b
    go true e =
        let f = eqb-true (before_zero s 0 n) n e in
        each_takes (λ (i : ℕ). not (eqb (byte s i) 0)) n
        (λ i l. rw (ne_eqb (byte s i) 0 (λ z. before_nonzero s 0 n i (rw f l) (rw zero-add z))))
    go false e =
        let m = before_most s 0 n in
        let d : before_zero s 0 n ≡ n → ⊥ = eqb-false (before_zero s 0 n) n e in
        let l : before_zero s 0 n < n = lt_of_le-ne m d in
        each_fails (λ (i : ℕ). not (eqb (byte s i) 0)) n (before_zero s 0 n) l
        (rw (eq-eqb (byte s (before_zero s 0 n)) 0 (rw zero-add at (before_zero_lem s 0 n l))))

-- bytes that are the same have as many before the first zero
pub before_same : (s t : List ℕ) (at to m : ℕ) → ((i : ℕ) → i < m → byte s (at + i) ≡ byte t (to + i)) →
    before_zero s at m ≡ before_zero t to m
unfolding before_zero
before_same s t at to zero h = refl
before_same s t at to (suc m) h =
    let e : byte s at ≡ byte t to = rw (← add-zero at, ← add-zero to) (h 0 (omega arith)) in
    let f : before_zero s (suc at) m ≡ before_zero t (suc to) m =
    before_same s t (suc at) (suc to) m
    (λ i l.
    let p : suc at + i ≡ at + suc i = omega arith in
    let q : suc to + i ≡ to + suc i = omega arith in
    rw (p, q) (h (suc i) (omega arith))) in
    rw (e, f)

-- and are all zero or not alike
pub zero_same : (s t : List ℕ) (at to n : ℕ) → ((i : ℕ) → i < n → byte s (at + i) ≡ byte t (to + i)) →
    all_zero s at n ≡ all_zero t to n
unfolding each
zero_same s t at to zero h = refl
zero_same s t at to (suc n) h = rw (zero_same s t at to n (λ i l. h i (omega arith)), h n (omega arith))

-- ---- a number whose bytes are all zero

pub zero_number : (s : List ℕ) (at w : ℕ) → all_zero s at w ≡ eqb (big s at w) 0
unfolding each big
zero_number s at zero = refl
zero_number s at (suc w) =
    ap (λ (b : Bool). b && eqb (byte s (at + w)) 0) (zero_number s at w) ∙ go (big s at w) (byte s (at + w))
  where
    go : (n b : ℕ) → (eqb n 0 && eqb b 0) ≡ eqb (n * 256 + b) 0
    go zero b = let e : 0 * 256 + b ≡ b = omega arith in rw e
    go (suc n) b = rw (ne_eqb (suc n) 0 (omega arith)) (sym (ne_eqb (suc n * 256 + b) 0 (omega arith)))

-- both ways
module _ (s : List ℕ) (at w : ℕ) where
  pub zeros_number : all_zero s at w ≡ true → big s at w ≡ 0
  zeros_number z = eqb-true (big s at w) 0 (sym (zero_number s at w) ∙ z)

  pub some_number : all_zero s at w ≡ false → 0 < big s at w
  some_number z = let n = eqb-false (big s at w) 0 (sym (zero_number s at w) ∙ z) in omega arith

  pub number_zeros : big s at w ≡ 0 → all_zero s at w ≡ true
  number_zeros e = zero_number s at w ∙ eq-eqb (big s at w) 0 e

  pub number_some : 0 < big s at w → all_zero s at w ≡ false
  number_some l = zero_number s at w ∙ ne_eqb (big s at w) 0 (omega arith)

-- the same, low byte first, for zeros among others
pub zero_little : (s : List ℕ) (at n i w : ℕ) → all_zero s at n ≡ true → i + w ≤ n → little s (at + i) w ≡ 0
unfolding little
zero_little s at n i zero z l = refl
zero_little s at n i (suc w) z l =
    let e : at + i + w ≡ at + (i + w) = omega arith in
    let b = eqb-true (byte s (at + (i + w))) 0
    (each_gives (λ (j : ℕ). eqb (byte s (at + j)) 0) n z (i + w) (omega arith)) in
    rw (zero_little s at n i w z (omega arith), e, b) (omega arith)

-- ---- zeros as a list

-- a range of bytes that are all zero is a list of zeros
pub zero_range : (s : List ℕ) (at n : ℕ) → at + n ≤ length s → all_zero s at n ≡ true → range s at n ≡ replicate n 0
zero_range s at n h z =
    let l = range_length s at n h in
    ext_get_or
    0
    (range s at n)
    (replicate n 0)
    (l ∙ sym (length-replicate n 0))
    (λ i b. let k : i < n = omega arith in
    range_byte s at n i k ∙ eqb-true (byte s (at + i)) 0 (each_gives (λ (j : ℕ). eqb (byte s (at + j)) 0) n z i k)
    ∙ sym (get_or-replicate n i 0 0 k))

module _ (s : List ℕ) (n : ℕ) (rest : List ℕ) where
  front_byte : (i : ℕ) → i < length s → byte (s ++ replicate n 0 ++ rest) i ≡ byte s i
  front_byte i h = rw append_assoc (get_or-append s (replicate n 0 ++ rest) 0 i h)

  zeros_byte : (i : ℕ) → i < n → byte (s ++ replicate n 0 ++ rest) (length s + i) ≡ 0
  zeros_byte i h =
      rw append_assoc
      (get_or-append-add s (replicate n 0 ++ rest) i 0 ∙ get_or-append (replicate n 0) rest 0 i (rw length-replicate h)
      ∙ get_or-replicate n i 0 0 h)

  -- zeros behind other bytes are all zero
  pub zeros_behind : all_zero (s ++ replicate n 0 ++ rest) (length s) n ≡ true
  zeros_behind =
      each_takes
      (λ (i : ℕ). eqb (byte (s ++ replicate n 0 ++ rest) (length s + i)) 0)
      n
      (λ i h. eq-eqb (byte (s ++ replicate n 0 ++ rest) (length s + i)) 0 (zeros_byte i h))

  -- bytes in front of zeros that are no zeros themselves stand before the first zero
  pub before_zeros : Nonzero s 0 (length s) → before_zero (s ++ replicate n 0 ++ rest) 0 (length s + n) ≡ length s
  before_zeros h =
      ⊎_elim
      (λ (l : 0 < n). before_is (s ++ replicate n 0 ++ rest) 0 (length s + n) (length s) (omega arith) others
      (rw zero-add (rw add-zero at (zeros_byte 0 l))))
      (λ (l : n ≤ 0). let e : length s + n ≡ length s = omega arith in rw e
      (before_whole (s ++ replicate n 0 ++ rest) 0 (length s) others))
      (lt_or_ge 0 n)
    where
      others : Nonzero (s ++ replicate n 0 ++ rest) 0 (length s)
      others j l z = h j l (rw zero-add (sym (front_byte j l) ∙ rw zero-add at z))
