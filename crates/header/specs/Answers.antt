-- How a verdict enters an answer, and what reading a header answers. Definitions only.
use Rattle.std.specs.Prelude.{ℕ, ◌≤◌, cond, List, leb, length, Option, Some, None, Result, Ok, Err}
use Rattle.header.specs.Refusals.{Verdict, kept}
use Rattle.header.specs.Stored.{stored_of}
use Rattle.header.specs.Header.{least_header, limits_verdict, fields_verdict, header_refusal}
use Rattle.header.specs.Numbers.{numbers_of}
use Rattle.header.specs.declared.Header.{Header}
use Rattle.header.specs.declared.refusal.Refusal.{Refusal}

-- an answer by a verdict: refused with its refusal, or, where the rules are kept, what the rules after it answer
unfoldable pub unless_refused : {A : Type 0} → Verdict → (Refusal → A) → A → A
unless_refused (Ok none) refused others = others
unless_refused (Err refusal) refused others = refused refusal

-- every call's answer: table rules 1 to 7 come first
unfoldable pub header_first : {A : Type 0} → List ℕ → (Refusal → A) → A → A
header_first t refused others = unless_refused (header_refusal t) refused others

-- ---- reading a header

-- what reading a header answers, for any bytes: a refusal, or the header's numbers
unfoldable pub header_answer : List ℕ → Result Header Refusal
header_answer t = header_first t Err (Ok (numbers_of t))

-- ---- by a front that may end inside the header

-- 1 to 5 of the front; None where it has not the whole header; then 6 and 7
unfoldable pub front_answer : List ℕ → ℕ → Result (Option Header) Refusal
front_answer front long =
    unless_refused (limits_verdict front long kept) Err
    (cond (leb (stored_of front).header_size (length front))
    (unless_refused (fields_verdict front long) Err (Ok (Some (numbers_of front))))
    (Ok None))

-- what it asks: a front of at least 120 bytes, or a file of fewer
pub record Front (front : List ℕ) (long : ℕ) : Type 0 where
  pub begun : least_header ≤ long → least_header ≤ length front
