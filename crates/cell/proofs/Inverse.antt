-- Kind by kind, the bytes of a value and the meaning of bytes undo each other: a number is read from the digits it is
-- written as. Assumes nothing.
use mathlib.Core.Path.{◌≡◌, refl, sym, ap, ◌∙◌, subst}
use mathlib.Core.Bool.{Bool, true, false, cond, ◌&&◌, true≢false}
use mathlib.Core.List.{List, ◌++◌, append_assoc}
use mathlib.Core.Logic.{⊎_elim}
use Prim.Native.Nat.{ℕ, suc, ◌+◌, ◌-◌, ◌^◌, ◌≤◌, ◌<◌}
use native.Mathlib.Nat.{add-zero, zero-add, sub-zero}
use native.Mathlib.Omega.{arith}
use lib.Dec.{eqb, leb, ltb}
use lib.IntN.{ℤ, pos, negsuc}
use lib.Ieee.{Float, fits, binary64}
use lib.Ieee.Scale.{finite}
use lib.ListN.{length, take, replicate, length-append}
use lib.Seq.{take-append_seam}
use borrow.Author.Tests.{lt-ltb, le-leb, eq-eqb, ltb-true, leb-true, eqb-true, ne_eqb}
use Rattle.std.specs.Prelude.{Ok, Err}
use Rattle.words.specs.Numbers.{byte, digits}
use Rattle.words.specs.Signed.{half, complemented, signed}
use Rattle.words.specs.Zeros.{all_zero, before_zero}
use Rattle.words.specs.Order.{range}
use Rattle.words.proofs.Conjunctions.{both}
use Rattle.words.proofs.EachLaws.{each_fails}
use Rattle.words.proofs.Ranges.{range_length, range_byte, range_join}
use Rattle.words.proofs.ZeroLaws.{Nonzero, before_nonzero, before_most, before_whole, zero_range, zeros_behind}
use Rattle.words.proofs.ZeroLaws.{before_zeros, none_zero}
use Rattle.words.proofs.Cases.{lt_or_ge}
use Rattle.words.proofs.SignedLaws.{half_twice, less_below, less_from, signed_complemented}
use Rattle.header.specs.declared.refusal.Refusal.TheVariants.{NoMeaning}
use Rattle.cell.specs.Values.{Content, text, content_of, answer_of}
use Rattle.cell.specs.Doubles.{double_of, stored_double}
use Rattle.cell.specs.Reading.{false_byte, true_byte, least_date, most_date, is_date, date_cell, number_cell}
use Rattle.cell.specs.Reading.{logical_cell, text_with}
use Rattle.cell.specs.Writing.{none, bytes, no_zero, signed_form, date_form, number_form, logical_byte, text_form}
use Rattle.cell.specs.declared.value.Value.{Value}
use Rattle.cell.specs.declared.value.Value.TheVariants as Val
use Rattle.cell.proofs.Exits.{no_cell}
use Rattle.cell.proofs.StoredLaws.{finite_form, infinite_form, stored_of_double, double_of_stored}
use Rattle.cell.proofs.StoredLaws.{stored_wide, stored_no_blank}

-- no form is not bytes
pub no_form : {X : Type 0} {s : List ℕ} → none ≡ bytes s → X
no_form h = let z : ◌≡◌ {A = ℕ} 0 1 = cc in absurd (omega arith)

-- bytes are those of a number above 0, of which this is said
abbrev pub Numbered : ℕ → List ℕ → (ℕ → Type 0) → Type 0
Numbered w s means = (n : ℕ) × (0 < n) × (n < 256 ^ w) × (digits w n ≡ s) × means n

-- ---- signed numbers, once over the width

module _ (w : ℕ) (some : 1 ≤ w) where
  -- a number above 0 is the form of what it means
  pub signed_form_lem : (n : ℕ) → 0 < n → n < 256 ^ w
      → signed_form w (signed (half w) (complemented (half w) n)) ≡ bytes (digits w n)
  unfolding signed_form
  signed_form_lem n p h =
      let t = half_twice w some in
      rw (signed_complemented (half w) n (omega arith))
      (⊎_elim
      (λ (l : n < half w).
      rw (less_below n (half w) l, lt-ltb (suc (half w - suc n)) (half w) (omega arith))
      (ap (λ (m : ℕ). bytes (digits w m)) (omega arith)))
      (λ (l : half w ≤ n).
      rw (less_from n (half w) l, lt-ltb (n - half w) (half w) (omega arith))
      (ap (λ (m : ℕ). bytes (digits w m)) (omega arith)))
      (lt_or_ge n (half w)))

  -- what has a form is what the form's number means
  pub signed_means : (z : ℤ) (s : List ℕ) → signed_form w z ≡ bytes s
      → Numbered w s (λ n. signed (half w) (complemented (half w) n) ≡ z)
  unfolding signed_form
  signed_means (pos m) s h = go (ltb m (half w)) refl h
    where
      go : (t : Bool) → ltb m (half w) ≡ t → cond t (bytes (digits w (m + half w))) none ≡ bytes s
          → Numbered w s (λ n. signed (half w) (complemented (half w) n) ≡ pos m)
      go true e k =
          let l = ltb-true m (half w) e in
          let t = half_twice w some in
          let f : m + half w - half w ≡ m = omega arith in (
            m + half w,
            omega arith,
            omega arith,
            cc,
            signed_complemented (half w) (m + half w) (omega arith)
                ∙ less_from (m + half w) (half w) (omega arith) ∙ ap pos f,
          )
      go false e k = no_form k
  signed_means (negsuc m) s h = go (ltb (suc m) (half w)) refl h
    where
      go : (t : Bool) → ltb (suc m) (half w) ≡ t → cond t (bytes (digits w (half w - suc m))) none ≡ bytes s
          → Numbered w s (λ n. signed (half w) (complemented (half w) n) ≡ negsuc m)
      go true e k =
          let l = ltb-true (suc m) (half w) e in
          let t = half_twice w some in
          let f : half w - suc (half w - suc m) ≡ m = omega arith in (
            half w - suc m,
            omega arith,
            omega arith,
            cc,
            signed_complemented (half w) (half w - suc m) (omega arith)
                ∙ less_below (half w - suc m) (half w) (omega arith) ∙ ap negsuc f,
          )
      go false e k = no_form k

-- ---- dates: signed numbers within the days

-- a date's form is that of the signed number
date_signed : (d : ℕ) → is_date d ≡ true → date_form 4 d ≡ signed_form 4 (pos d)
unfolding date_form signed_form
date_signed d h =
    let l = leb-true d most_date (both {a = leb least_date d} {b = leb d most_date} h).1 in
    rw (h, lt-ltb d 2147483648 (omega arith))

-- a cell with a date has the signed number that is the day
pub read_date : (z : ℤ) (v : Value) → date_cell z ≡ Ok v
    → (d : ℕ) × (v ≡ Val.Date d) × (date_form 4 d ≡ signed_form 4 z)
unfolding date_cell
read_date (pos d) v h = go (is_date d) refl h
  where
    go : (t : Bool) → is_date d ≡ t → cond t (Ok (Val.Date d)) (Err NoMeaning) ≡ Ok v
        → (e : ℕ) × (v ≡ Val.Date e) × (date_form 4 e ≡ signed_form 4 (pos d))
    go true e k = (d, cc, date_signed d e)
    go false e k = no_cell k
read_date (negsuc d) v h = no_cell h

-- a date that has a form is what the form's number means
pub date_means : (d : ℕ) (s : List ℕ) → date_form 4 d ≡ bytes s
    → Numbered 4 s (λ n. date_cell (signed (half 4) (complemented (half 4) n)) ≡ Ok (Val.Date d))
unfolding date_cell date_form
date_means d s h = go (is_date d) refl h
  where
    go : (t : Bool) → is_date d ≡ t → cond t (bytes (digits 4 (d + half 4))) none ≡ bytes s
        → Numbered 4 s (λ n. date_cell (signed (half 4) (complemented (half 4) n)) ≡ Ok (Val.Date d))
    go true e k =
        let q = signed_means 4 (omega arith) (pos d) s (sym (date_signed d e) ∙ h) in
        (q.0, q.1, q.2, q.3, ap date_cell q.4 ∙ rw e)
    go false e k = no_form k

-- ---- doubles

-- a cell with a double has a finite one
pub read_number : (x : Float) (v : Value) → number_cell x ≡ Ok v → (v ≡ Val.Number x) × (finite x ≡ true)
unfolding number_cell
read_number x v h = go (finite x) refl h
  where
    go : (t : Bool) → finite x ≡ t → cond t (Ok (Val.Number x)) (Err NoMeaning) ≡ Ok v
        → (v ≡ Val.Number x) × (finite x ≡ true)
    go true e k = (cc, e)
    go false e k = no_cell k

-- a number whose double is finite is the form of that double
pub number_form_lem : (n : ℕ) → n < 256 ^ 8 → finite (double_of 8 n) ≡ true
    → number_form 8 (double_of 8 n) ≡ bytes (digits 8 n)
number_form_lem n h f =
    finite_form 8 (double_of 8 n) f ∙ ap (λ (m : ℕ). bytes (digits 8 m)) (stored_of_double n h f)

-- a double of the format that has a form is what the form's number means
pub number_means : (x : Float) (s : List ℕ) → fits binary64 x ≡ true → number_form 8 x ≡ bytes s
    → Numbered 8 s (λ n. number_cell (double_of 8 n) ≡ Ok (Val.Number x))
unfolding number_cell
number_means x s f h = go (finite x) refl
  where
    go : (t : Bool) → finite x ≡ t → Numbered 8 s (λ n. number_cell (double_of 8 n) ≡ Ok (Val.Number x))
    go false e = no_form (sym (infinite_form 8 x e) ∙ h)
    go true e =
        let q : bytes (digits 8 (stored_double 8 x)) ≡ bytes s = sym (finite_form 8 x e) ∙ h in
        (stored_double 8 x, stored_no_blank x f e, stored_wide x f, cc, rw (double_of_stored x f, e))

-- ---- logicals

-- a cell with a logical has the logical's number
pub read_logical : (n : ℕ) (v : Value) → logical_cell n ≡ Ok v
    → (b : Bool) × (v ≡ Val.Logical b) × (logical_byte b ≡ n)
unfolding logical_cell
read_logical n v h = go (eqb n false_byte) (eqb n true_byte) refl refl h
  where
    go : (p q : Bool) → eqb n false_byte ≡ p → eqb n true_byte ≡ q
        → cond p (Ok (Val.Logical false)) (cond q (Ok (Val.Logical true)) (Err NoMeaning)) ≡ Ok v
        → (b : Bool) × (v ≡ Val.Logical b) × (logical_byte b ≡ n)
    go true q e f k = (false, cc, sym (eqb-true n false_byte e))
    go false true e f k = (true, cc, sym (eqb-true n true_byte f))
    go false false e f k = no_cell k

-- a logical is what its number means
pub logical_means : (b : Bool)
    → Numbered 1 (digits 1 (logical_byte b)) (λ n. logical_cell n ≡ Ok (Val.Logical b))
unfolding logical_cell
logical_means true = (logical_byte true, omega arith, omega arith, refl, refl)
logical_means false = (logical_byte false, omega arith, omega arith, refl, refl)

-- ---- texts

-- the form of a text: what it asks, and its bytes
pub text_means : (w : ℕ) (s t : List ℕ) → text_form w s ≡ bytes t
    → (1 ≤ length s) × (length s ≤ w) × Nonzero s 0 (length s) × (s ++ replicate (w - length s) 0 ≡ t)
unfolding text_form
text_means w s t h = go (leb 1 (length s) && leb (length s) w && no_zero s) refl h
  where
    go : (b : Bool) → (leb 1 (length s) && leb (length s) w && no_zero s) ≡ b
        → cond b (bytes (s ++ replicate (w - length s) 0)) none ≡ bytes t
        → (1 ≤ length s) × (length s ≤ w) × Nonzero s 0 (length s) × (s ++ replicate (w - length s) 0 ≡ t)
    go true e k =
        let p = both {a = leb 1 (length s) && leb (length s) w} {b = no_zero s} e in
        let q = both {a = leb 1 (length s)} {b = leb (length s) w} p.0 in
        let whole : before_zero s 0 (length s) ≡ length s =
        eqb-true (before_zero s 0 (length s)) (length s) (sym (none_zero s (length s)) ∙ p.1) in
        let nonzero : Nonzero s 0 (length s) = λ j l. before_nonzero s 0 (length s) j (rw whole l) in
        (leb-true 1 (length s) q.0, leb-true (length s) w q.1, nonzero, cc)
    go false e k = no_form k

-- a text's form, whatever stands behind it
module _ (w : ℕ) (s rest : List ℕ) (some : 1 ≤ length s) (room : length s ≤ w) (nonzero : Nonzero s 0 (length s)) where
  abbrev padded : List ℕ
  padded = s ++ replicate (w - length s) 0 ++ rest

  text_whole : before_zero padded 0 w ≡ length s
  text_whole =
      let e : length s + (w - length s) ≡ w = omega arith in
      subst (λ (m : ℕ). before_zero padded 0 m ≡ length s) e (before_zeros s (w - length s) rest nonzero)

  -- it is not all zero
  pub text_not_blank : all_zero padded 0 w ≡ false
  text_not_blank =
      each_fails (λ (i : ℕ). eqb (byte padded (0 + i)) 0) w 0 (omega arith)
      (ne_eqb (byte padded (0 + 0)) 0 (before_nonzero padded 0 w 0 (rw text_whole some)))

  -- it reads as the text
  pub text_reads : answer_of padded (text_with padded 0 w (before_zero padded 0 w)) ≡ (0, text s)
  unfolding text_with answer_of content_of
  text_reads =
      let long : length s ≤ length padded = simp length-append (omega arith) in
      let front : take (length s) padded ≡ s =
      rw append_assoc (take-append_seam s (replicate (w - length s) 0 ++ rest)) in
      rw (text_whole, zero-add, zeros_behind s (w - length s) rest)
      (rw (zero-add, le-leb (length s) (length padded) long) (ap {B = ℕ × Content} (λ (t : List ℕ). (0, text t)) front))

-- a cell with a text has zeros behind it
pub read_text : (s : List ℕ) (at w l : ℕ) (v : Value) → text_with s at w l ≡ Ok v
    → (v ≡ Val.Text at l) × (all_zero s (at + l) (w - l) ≡ true)
unfolding text_with
read_text s at w l v h = go (all_zero s (at + l) (w - l)) refl h
  where
    go : (t : Bool) → all_zero s (at + l) (w - l) ≡ t → cond t (Ok (Val.Text at l)) (Err NoMeaning) ≡ Ok v
        → (v ≡ Val.Text at l) × (all_zero s (at + l) (w - l) ≡ true)
    go true e k = (cc, e)
    go false e k = no_cell k

module _ (s : List ℕ) (at w : ℕ) (room : at + w ≤ length s) where
  abbrev l : ℕ
  l = before_zero s at w

  -- the value of a text that is read is its bytes
  pub text_part : content_of s (Val.Text at (before_zero s at w)) ≡ text (range s at (before_zero s at w))
  unfolding content_of
  text_part = let m = before_most s at w in rw (le-leb (at + l) (length s) (omega arith))

  -- bytes that are not all zero are the form of those before the first zero, where zeros follow
  pub text_form_lem : all_zero s at w ≡ false → all_zero s (at + before_zero s at w) (w - before_zero s at w) ≡ true
      → text_form w (range s at (before_zero s at w)) ≡ bytes (range s at w)
  unfolding text_form
  text_form_lem some zeros =
      let m = before_most s at w in
      let n = range_length s at l (omega arith) in
      let e : l + (w - l) ≡ w = omega arith in
      let padding = zero_range s (at + l) (w - l) (omega arith) zeros in
      rw (
        n,
        le-leb 1 l first,
        le-leb l w m,
        none_zero (range s at l) l,
        eq-eqb (before_zero (range s at l) 0 l) l (before_whole (range s at l) 0 l nonzero),
      )
      (ap bytes
      (ap (λ (z : List ℕ). range s at l ++ z) (sym padding) ∙ sym (range_join s at l (w - l)) ∙ ap (range s at) e))
    where
      nonzero : Nonzero (range s at l) 0 l
      nonzero j b z = before_nonzero s at w j b (sym (range_byte s at l j b) ∙ rw zero-add at z)

      first : 1 ≤ l
      first =
          ⊎_elim
          (λ (b : l < 1). let e : l ≡ 0 = omega arith in
          absurd
          (true≢false
          (sym (rw (add-zero, sub-zero) at (subst (λ (k : ℕ). all_zero s (at + k) (w - k) ≡ true) e zeros)) ∙ some)))
          (λ (b : 1 ≤ l). b)
          (lt_or_ge l 1)
