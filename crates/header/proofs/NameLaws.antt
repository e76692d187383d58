-- The names: one found a byte at a time, and several one after another. Assumes nothing.
use Prim.Native.Nat.{ℕ, zero, suc, ◌+◌, ◌-◌, ◌≤◌, ◌<◌}
use mathlib.Core.Path.{◌≡◌, refl, sym, ◌∙◌}
use mathlib.Core.Bool.{true, false, ◌&&◌, and-eq-true_iff}
use mathlib.Core.List.{List}
use native.Mathlib.Nat.{sub-zero, not-suc-le-zero}
use native.Mathlib.Omega.{arith}
use lib.Dec.{leb, ltb}
use borrow.Author.Tests.{le-leb, lt-leb, lt-ltb, le-ltb, leb-true, ltb-true}
use Rattle.words.specs.Zeros.{before_zero}
use Rattle.words.proofs.Conjunctions.{and_second, and_third}
use Rattle.words.proofs.ZeroLaws.{before_zero_lem, before_nonzero, before_is}
use Rattle.header.specs.Fields.{name_length, name_fits, names_fit, name_start}
use Rattle.header.specs.Steps.{judged_if, next_name}
use Rattle.std.specs.Prelude.{Some, None}
use Rattle.header.proofs.JudgedLaws.{judged_some, judged_none}

-- ---- a name that fits, or not

module _ (t : List ℕ) (end at : ℕ) where
  fits_not : name_fits t end at ≡ false → next_name t end at ≡ None
  unfolding next_name judged_if
  fits_not e = rw e

  pub name_beyond : end ≤ at + name_length t at → next_name t end at ≡ None
  unfolding name_fits
  name_beyond h =
      fits_not (and_third (leb 1 (name_length t at)) (leb (name_length t at) 25) (ltb (at + name_length t at) end)
      (le-ltb (at + name_length t at) end h))

  pub name_empty : name_length t at ≡ 0 → next_name t end at ≡ None
  unfolding name_fits
  name_empty e = fits_not (rw e)

  pub name_long : 26 ≤ name_length t at → next_name t end at ≡ None
  unfolding name_fits
  name_long h =
      fits_not (and_second (leb 1 (name_length t at)) (leb (name_length t at) 25) (ltb (at + name_length t at) end)
      (lt-leb (name_length t at) 25 h))

  pub name_fits_lem : (i : ℕ) → name_length t at ≡ i → 1 ≤ i → i ≤ 25 → at + i < end →
      next_name t end at ≡ Some (at + i + 1)
  unfolding next_name judged_if name_fits
  name_fits_lem i e l m h = rw (e, le-leb 1 i l, le-leb i 25 m, lt-ltb (at + i) end h)

-- ---- several names

-- what is left of the names fits exactly when all of them do
abbrev pub NamesLeft : List ℕ → ℕ → ℕ → ℕ → ℕ → ℕ → Type 0
NamesLeft t end n start i at = (at ≤ end) × (names_fit t end (n - i) at ≡ names_fit t end n start)

pub names_begin : (t : List ℕ) (end n start : ℕ) → start ≤ end → NamesLeft t end n start 0 start
names_begin t end n start h = (h, rw sub-zero)

module _ (t : List ℕ) (end n start i at : ℕ) (p : NamesLeft t end n start i at) where
  pub names_more : i < n → (next : ℕ) → next_name t end at ≡ Some next → NamesLeft t end n start (i + 1) next
  unfolding next_name names_fit name_fits
  names_more l next e =
      let q = judged_some (name_fits t end at) (at + name_length t at + 1) next e in
      let r =
      (and-eq-true_iff (leb 1 (name_length t at) && leb (name_length t at) 25) (ltb (at + name_length t at) end)).0
      q.0 in
      let s : n - i ≡ suc (n - (i + 1)) = omega arith in
      let m : names_fit t end (n - i) at ≡ names_fit t end (n - (i + 1)) next = rw (s, q.0, q.1) in
      (omega (arith, q.1, ltb-true (at + name_length t at) end r.1), sym m ∙ p.1)

  pub names_broken : i < n → next_name t end at ≡ None → names_fit t end n start ≡ false
  unfolding next_name names_fit
  names_broken l e =
      let s : n - i ≡ suc (n - (i + 1)) = omega arith in
      let b : name_fits t end at ≡ false = judged_none (name_fits t end at) (at + name_length t at + 1) e in
      let m : names_fit t end (n - i) at ≡ false = rw (s, b) in
      sym p.1 ∙ m

  pub names_end : n ≤ i → names_fit t end n start ≡ true
  unfolding names_fit
  names_end l = let s : n - i ≡ 0 = omega arith in sym p.1 ∙ rw s

-- names that begin at the header's end or behind it do not fit
pub names_outside : (t : List ℕ) (end n at : ℕ) → 1 ≤ n → end ≤ at → names_fit t end n at ≡ false
unfolding names_fit name_fits
names_outside t end zero at l h = absurd (omega arith)
names_outside t end (suc n) at l h =
    let e : ltb (at + name_length t at) end ≡ false = le-ltb (at + name_length t at) end (omega arith) in
    rw (and_third (leb 1 (name_length t at)) (leb (name_length t at) 25) (ltb (at + name_length t at) end) e)

-- ---- where a name begins

-- names of which the first fits and those behind it
fit_parts : (t : List ℕ) (end n at : ℕ) → names_fit t end (suc n) at ≡ true →
    (name_fits t end at ≡ true) × (names_fit t end n (at + name_length t at + 1) ≡ true)
unfolding names_fit
fit_parts t end n at e = (and-eq-true_iff (name_fits t end at) (names_fit t end n (at + name_length t at + 1))).0 e

module _ (t : List ℕ) (end n at : ℕ) (e : names_fit t end (suc n) at ≡ true) where
  -- a name that fits has its zero inside the header
  pub fit_ends : (name_length t at ≤ 25) × (at + name_length t at < end)
  unfolding name_fits
  fit_ends =
      let p =
      (and-eq-true_iff (leb 1 (name_length t at) && leb (name_length t at) 25) (ltb (at + name_length t at) end)).0
      (fit_parts t end n at e).0 in
      let q = (and-eq-true_iff (leb 1 (name_length t at)) (leb (name_length t at) 25)).0 p.0 in
      (leb-true (name_length t at) 25 q.1, ltb-true (at + name_length t at) end p.1)

  -- so its length is what stands before the first zero up to the header's end
  pub fit_length : before_zero t at (end - at) ≡ name_length t at
  fit_length =
      let f = fit_ends in
      before_is t at (end - at) (name_length t at) (omega (arith, f.1)) (λ j l. before_nonzero t at 26 j l)
      (before_zero_lem t at 26 (omega (arith, f.0)))

-- fewer names fit too
pub fit_fewer : (t : List ℕ) (end k n at : ℕ) → k ≤ n → names_fit t end n at ≡ true → names_fit t end k at ≡ true
unfolding names_fit
fit_fewer t end zero n at l e = refl
fit_fewer t end (suc k) zero at l e = absurd (not-suc-le-zero l)
fit_fewer t end (suc k) (suc n) at l e =
    let f = fit_parts t end n at e in
    (and-eq-true_iff (name_fits t end at) (names_fit t end k (at + name_length t at + 1))).1
    (f.0, fit_fewer t end k n (at + name_length t at + 1) (omega arith) f.1)

-- of several names that fit the last one does
pub fit_last : (t : List ℕ) (end n at : ℕ) → names_fit t end (suc n) at ≡ true →
    names_fit t end 1 (name_start t n at) ≡ true
unfolding name_start
fit_last t end zero at e = e
fit_last t end (suc n) at e = fit_last t end n (at + name_length t at + 1) (fit_parts t end (suc n) at e).1

-- what is left of the names, that one among them, fits; and it begins behind those that are left
pub record StartLeft (t : List ℕ) (end n start i at : ℕ) : Type 0 where
  pub fit : names_fit t end (suc (n - i)) at ≡ true
  pub same : name_start t (n - i) at ≡ name_start t n start

pub start_begin : (t : List ℕ) (end n start : ℕ) → names_fit t end (suc n) start ≡ true →
    StartLeft t end n start 0 start
start_begin t end n start f = record { fit = rw sub-zero f; same = rw sub-zero }

module _ (t : List ℕ) (end n start i at : ℕ) (p : StartLeft t end n start i at) where
  pub start_fits : names_fit t end 1 at ≡ true
  start_fits = fit_fewer t end 1 (suc (n - i)) at (omega arith) p.fit

  pub start_more : i < n → (l : ℕ) → l ≡ name_length t at → StartLeft t end n start (i + 1) (at + (l + 1))
  unfolding name_start
  start_more l length is =
      let s : n - i ≡ suc (n - (i + 1)) = omega arith in
      let f : names_fit t end (suc (n - (i + 1))) (at + name_length t at + 1) ≡ true =
      rw s at (fit_parts t end (n - i) at p.fit).1 in
      let m : name_start t (n - i) at ≡ name_start t (n - (i + 1)) (at + name_length t at + 1) = rw s in
      let a : at + (length + 1) ≡ at + name_length t at + 1 = omega (arith, is) in
      rw a (record { fit = f; same = sym m ∙ p.same })

  pub start_end : n ≤ i → at ≡ name_start t n start
  unfolding name_start
  start_end l = let s : n - i ≡ 0 = omega arith in rw s at p.same
