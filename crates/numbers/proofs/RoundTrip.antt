-- A value given by numbers that is written with the answer 0 reads back, whatever the numbers: a double given by its
-- bits is one of the format. Assumes nothing.
use Rattle.std.proofs.Common.{◌≡◌, ℕ, eqb, ltb, List, ℤ, pos, negsuc, ap}
use lib.Ieee.{binary64, fits, of_bits}
use lib.Ieee.Bits.{is_true, of_bits-fits}
use Rattle.words.specs.Signed.{half, signed}
use Rattle.words.proofs.Cases.{either}
use Rattle.header.specs.Refusals.{Verdict, kept}
use Rattle.cell.specs.Values.{Content, Held, short, long}
use Rattle.cell.specs.Writing.{write_of, ReadsBack}
use Rattle.cell.proofs.RoundTrip.{reads_back}
use Rattle.numbers.specs.What as What
use Rattle.numbers.proofs.LentLaws.{zero_kept}
use Rattle.numbers.specs.Given.{fitted, date_given, logical_given, content_given, write_given}

fitted_held : (w : ℕ) (kind : ℤ → Content) → ((z : ℤ) → Held (kind z)) → (z : ℤ) → Held (fitted w kind z)
unfolding Held fitted
fitted_held w kind h (pos n) = either Held (ltb n (half w)) _ _ (h (pos n)) tt
fitted_held w kind h (negsuc n) = either Held (ltb n (half w)) _ _ (h (negsuc n)) tt

-- a value given by numbers is one that a program's value can be
pub given_held : (what value : ℕ) (bytes : List ℕ) → Held (content_given what value bytes)
unfolding Held content_given date_given logical_given
given_held what value bytes =
    either Held (eqb what What.blank) _ _ tt
    (either Held (eqb what What.short) _ _ (fitted_held 2 short (λ z. tt) (signed (half 8) value))
    (either Held (eqb what What.long) _ _ (fitted_held 4 long (λ z. tt) (signed (half 8) value))
    (either Held (eqb what What.date) _ _ (either Held (ltb value 0x1_0000_0000) _ _ tt tt)
    (either Held (eqb what What.number) _ _
    (is_true (fits binary64 (of_bits binary64 value)) (of_bits-fits binary64 value))
    (either Held (eqb what What.logical) _ _
    (either Held (eqb value 0) _ _ tt (either Held (eqb value 1) _ _ tt tt))
    (either Held (eqb what What.text) _ _ tt tt))))))

-- what is written reads back
pub given_reads_back : (code width what value : ℕ) (bytes buffer out : List ℕ)
    → write_given code width what value bytes buffer ≡ (0, out)
    → ReadsBack code width (content_given what value bytes) buffer out
unfolding write_given
given_reads_back code width what value bytes buffer out h =
    let w = write_of code width (content_given what value bytes) buffer in
    let e : w.0 ≡ kept = zero_kept w.0 (ap (λ (x : ℕ × List ℕ). x.0) h) in
    let f : w.1 ≡ out = ap (λ (x : ℕ × List ℕ). x.1) h in
    reads_back code width (content_given what value bytes) buffer out (given_held what value bytes) (pairs w e f)
  where
    pairs : (w : Verdict × List ℕ) → w.0 ≡ kept → w.1 ≡ out → w ≡ (kept, out)
    pairs (v, s) e f = rw (e, f)
