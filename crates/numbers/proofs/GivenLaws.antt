-- A value given by numbers: which numbers are a value of each kind, and what std's conversions make of them; the signed
-- kinds once over the width. Assumes nothing.
use Rattle.std.proofs.Common.{◌≡◌, ℕ, zero, suc, ◌+◌, ◌%◌, ◌^◌, ◌<◌, ◌≤◌, true, false, not, T, eqb, List}
use Rattle.std.proofs.Common.{length, ℤ, pos, negsuc, sym, refl, ap, ◌∙◌, ⊎_elim, true≢false, arith, w64, to_z}
use Rattle.std.proofs.Common.{of_z, le-ltb, lt-ltb, ne_eqb, le-leb, w16, w32, FitsSigned}
use Rattle.std.proofs.lemmas.Int.{of_z-to_z}
use lib.Signed.{mag}
use lib.Ieee.{Float, nan, inf, fin, is_nan, nan_bits, of_bits, binary64}
use lib.Ieee.Bits.{nan_bits_is, nan_bits_above}
use lib.Seq.{take-length}
use Rattle.words.specs.Signed.{half, signed}
use Rattle.words.proofs.Cases.{lt_or_ge}
use Rattle.std.specs.Prelude.{Some, None, Err}
use Rattle.header.specs.Refusals.{Verdict, answer_number}
use Rattle.header.specs.declared.refusal.Refusal.TheVariants.{BadArgument, BlobCell}
use Rattle.header.specs.Kinds.{kind_of, is_blob}
use Rattle.header.specs.declared.kind.FieldKind.{FieldKind}
use Rattle.header.proofs.KindLaws.{unknown_code}
use Rattle.cell.specs.Values.{Content, nothing, text, short, long, content_of}
use Rattle.cell.specs.Writing.{of_kind, write_kind, write_stored, write_of}
use Rattle.cell.specs.declared.value.Value.TheVariants as Val
use Rattle.cell.proofs.SignedCasts.{machine_signed}
use Rattle.numbers.specs.Steps.{content_if}
use Rattle.numbers.specs.Given.{fitted, short_given, long_given, date_given, logical_given, content_given}

-- ---- a date, a logical

pub date_within : (value : ℕ) → value ≤ 0xffff_ffff → (bytes : List ℕ) →
    content_if bytes (Some (Val.Date value)) ≡ date_given value
unfolding content_if content_of date_given
date_within value h bytes = rw (lt-ltb value 0x1_0000_0000 (omega arith))

pub date_above : (value : ℕ) → 0xffff_ffff < value → (bytes : List ℕ) → content_if bytes None ≡ date_given value
unfolding content_if date_given
date_above value h bytes = rw (le-ltb value 0x1_0000_0000 (omega arith))

pub logical_within : (value : ℕ) → value ≤ 1 → (bytes : List ℕ) →
    content_if bytes (Some (Val.Logical (eqb value 1))) ≡ logical_given value
unfolding content_if content_of logical_given
logical_within zero h bytes = refl
logical_within (suc zero) h bytes = refl
logical_within (suc (suc n)) h bytes = absurd (omega arith)

pub logical_above : (value : ℕ) → 1 < value → (bytes : List ℕ) → content_if bytes None ≡ logical_given value
unfolding content_if logical_given
logical_above value h bytes = rw (ne_eqb value 0 (λ e. omega arith), ne_eqb value 1 (λ e. omega arith))

pub ruleset days = (date_within, date_above)

pub ruleset logicals = (logical_within, logical_above)

-- ---- a signed number of w bytes: it fits them as the machine's width of that size says

module _ (w : ℕ) (kind : ℤ → Content) where
  fitted_within : (z : ℤ) → mag z < half w → kind z ≡ fitted w kind z
  unfolding fitted
  fitted_within (pos n) h = rw (lt-ltb n (half w) h)
  fitted_within (negsuc n) h = rw (lt-ltb n (half w) h)

  fitted_outside : (z : ℤ) → (mag z < half w → ⊥) → nothing ≡ fitted w kind z
  unfolding fitted
  fitted_outside (pos n) h =
      ⊎_elim (λ (l : n < half w). absurd (h l)) (λ (l : half w ≤ n). rw (le-ltb n (half w) l)) (lt_or_ge n (half w))
  fitted_outside (negsuc n) h =
      ⊎_elim (λ (l : n < half w). absurd (h l)) (λ (l : half w ≤ n). rw (le-ltb n (half w) l)) (lt_or_ge n (half w))

-- 64 bits cast to a signed number
module _ (value : ℕ) (z : ℤ) (small : value < 2 ^ 64) (cast : z ≡ to_z w64 value) where
  cast_signed_is : to_z w64 (of_z w64 z) ≡ signed (half 8) value
  cast_signed_is =
      rw (cast, of_z-to_z w64 value small) (machine_signed w64 (2 ^ 63) value refl refl (omega arith))

  pub short_within : FitsSigned w16 (to_z w64 (of_z w64 z)) → (bytes : List ℕ) →
      content_if bytes (Some (Val.Short (to_z w64 (of_z w64 z)))) ≡ short_given value
  unfolding content_if content_of
  short_within h bytes = fitted_within 2 short _ h.sfits ∙ ap (fitted 2 short) cast_signed_is

  pub short_outside : (FitsSigned w16 (to_z w64 (of_z w64 z)) → ⊥) → (bytes : List ℕ) →
      content_if bytes None ≡ short_given value
  unfolding content_if
  short_outside h bytes =
      fitted_outside 2 short _ (λ l. h (record { sfits = l })) ∙ ap (fitted 2 short) cast_signed_is

  pub long_within : FitsSigned w32 (to_z w64 (of_z w64 z)) → (bytes : List ℕ) →
      content_if bytes (Some (Val.Long (to_z w64 (of_z w64 z)))) ≡ long_given value
  unfolding content_if content_of
  long_within h bytes = fitted_within 4 long _ h.sfits ∙ ap (fitted 4 long) cast_signed_is

  pub long_outside : (FitsSigned w32 (to_z w64 (of_z w64 z)) → ⊥) → (bytes : List ℕ) →
      content_if bytes None ≡ long_given value
  unfolding content_if
  long_outside h bytes =
      fitted_outside 4 long _ (λ l. h (record { sfits = l })) ∙ ap (fitted 4 long) cast_signed_is

pub ruleset shorts = (short_within, short_outside)

pub ruleset longs = (long_within, long_outside)

-- ---- a double: which bits are a not-a-number's

only_nan : (x : Float) → is_nan x ≡ true → x ≡ nan
unfolding is_nan
only_nan nan h = refl
only_nan (inf s) h = absurd (true≢false (sym h))
only_nan (fin s m e) h = absurd (true≢false (sym h))

pub nan_above : (b : ℕ) → 0x7ff0_0000_0000_0000 < b % 0x8000_0000_0000_0000 → of_bits binary64 b ≡ nan
nan_above b h =
    only_nan (of_bits binary64 b)
    (sym (nan_bits_is binary64 b)
    ∙ nan_bits_above binary64 b
    ∙ lt-ltb 0x7ff0_0000_0000_0000 (b % 0x8000_0000_0000_0000) h)

pub not_nan : (b : ℕ) → b % 0x8000_0000_0000_0000 ≤ 0x7ff0_0000_0000_0000 → T (not (nan_bits binary64 b))
not_nan b h = rw (nan_bits_above binary64 b, le-ltb 0x7ff0_0000_0000_0000 (b % 0x8000_0000_0000_0000) h) tt

pub ruleset not_numbers = (nan_above, not_nan)

-- ---- by what it is

pub text_content : (s : List ℕ) → content_of s (Val.Text 0 (length s)) ≡ text s
unfolding content_of
text_content s = rw (le-leb (0 + length s) (length s) (omega arith), take-length)

pub given_none : (what value : ℕ) (bytes : List ℕ)
    → (what ≡ 1 → ⊥) → (what ≡ 2 → ⊥) → (what ≡ 3 → ⊥) → (what ≡ 4 → ⊥) → (what ≡ 5 → ⊥) → (what ≡ 6 → ⊥)
    → (what ≡ 7 → ⊥) → nothing ≡ content_given what value bytes
unfolding content_given
given_none what value bytes a b c d e f g =
    rw (
      ne_eqb what 1 a,
      ne_eqb what 2 b,
      ne_eqb what 3 c,
      ne_eqb what 4 d,
      ne_eqb what 5 e,
      ne_eqb what 6 f,
      ne_eqb what 7 g,
    )

-- ---- writing

-- a code above a byte's numbers
pub write_above : (code w : ℕ) (c : Content) (buffer : List ℕ) → 255 < code
    → write_of code w c buffer ≡ (Err BadArgument, buffer)
unfolding write_of write_stored
write_above code w c buffer h =
    rw (unknown_code code w (λ e. omega arith) (λ e. omega arith) (λ e. omega arith) (λ e. omega arith)
    (λ e. omega arith) (λ e. omega arith) (λ e. omega arith) (λ e. omega arith) (λ e. omega arith) (λ e. omega arith)
    (λ e. omega arith) (λ e. omega arith))

-- what is no value
module _ (code w : ℕ) (buffer : List ℕ) where
  pub nothing_unknown : kind_of code w ≡ None → write_of code w nothing buffer ≡ (Err BadArgument, buffer)
  unfolding write_of write_stored
  nothing_unknown e = rw e

  module _ {kind : FieldKind} (e : kind_of code w ≡ Some kind) where
    pub nothing_blob : is_blob kind ≡ true → write_of code w nothing buffer ≡ (Err BlobCell, buffer)
    unfolding write_of write_stored write_kind
    nothing_blob b = rw (e, b)

    pub nothing_other : is_blob kind ≡ false → write_of code w nothing buffer ≡ (Err BadArgument, buffer)
    unfolding write_of write_stored write_kind of_kind
    nothing_other b = rw (e, b)

pub ruleset unwritten = (write_above, nothing_unknown, nothing_blob, nothing_other)

-- an answer with its number
pub as_number : (v : Verdict) (out : List ℕ) (n : ℕ) (w : Verdict × List ℕ) → n ≡ answer_number v
    → ◌≡◌ {A = Verdict × List ℕ} (v, out) w → ◌≡◌ {A = ℕ × List ℕ} (n, out) (answer_number w.0, w.1)
as_number v out n w is e = rw is (ap (λ (x : Verdict × List ℕ). (answer_number x.0, x.1)) e)
