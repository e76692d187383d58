-- What the private functions of the pass over pairs and names ask and answer: no rule is stated here. Definitions only.
use Rattle.std.specs.Prelude.{ℕ, ◌+◌, ◌≤◌, ◌<◌, ◌≡◌, Bool, true, false, cond, List, length}
use Rattle.std.specs.Prelude.{Option, Some, None, Result, Ok, Err}
use Rattle.words.specs.Numbers.{byte}
use Rattle.header.specs.Refusals.{kept}
use Rattle.header.specs.Stored.{stored_of, names_at}
use Rattle.header.specs.Kinds.{kind_of}
use Rattle.header.specs.Fields.{allowed, name_length, name_fits, fields_right}
use Rattle.header.specs.Header.{most_units, most_fields, limits_verdict, stored_length}
use Rattle.header.specs.Numbers.{numbers_in}
use Rattle.header.specs.Answers.{unless_refused}
use Rattle.header.specs.declared.Header.{Header}
use Rattle.header.specs.declared.refusal.Refusal.{Refusal}
use Rattle.header.specs.declared.refusal.Refusal.TheVariants.{WrongLength, FieldRule}
use Rattle.header.specs.declared.stored.Stored.{Stored}

-- what judging a pair or a name gives: a number where it is right
unfoldable pub judged_if : Bool → ℕ → Option ℕ
judged_if true n = Some n
judged_if false n = None

-- the width of the pair at a place, where its kind is allowed
abbrev pub pair_judged : List ℕ → ℕ → Bool → Option ℕ
pair_judged t at keyed = judged_if (allowed keyed (kind_of (byte t at) (byte t (at + 1)))) (byte t (at + 1))

-- where the name after the one at a place begins, if that one fits
unfoldable pub next_name : List ℕ → ℕ → ℕ → Option ℕ
next_name t end at = judged_if (name_fits t end at) (at + name_length t at + 1)

-- what rules 1 to 6 and room for the names give the pass over the fields
pub record Placed (t : List ℕ) (s : Stored) : Type 0 where
  pub units_most : s.units ≤ most_units
  pub fields_most : s.fields ≤ most_fields
  pub keys_most : s.key_fields ≤ s.fields
  pub room : names_at s < s.header_size
  pub inside : s.header_size ≤ length t

-- what rules 1 to 5 answer: the stored numbers where they are kept
unfoldable pub limits_answer : List ℕ → ℕ → Result Stored Refusal
limits_answer front long = unless_refused (limits_verdict front long kept) Err (Ok (stored_of front))

-- what they give rules 6 and 7: a file that has the right length has the whole header in its front
pub record Limited (front : List ℕ) (long : ℕ) (s : Stored) : Type 0 where
  pub units_most : s.units ≤ most_units
  pub fields_least : 1 ≤ s.fields
  pub fields_most : s.fields ≤ most_fields
  pub keys_most : s.key_fields ≤ s.fields
  pub inside : stored_length long s ≡ true → s.header_size ≤ length front

-- what rule 7 answers of a header that keeps the rules before it
unfoldable pub fields_answer : List ℕ → Stored → Result Header Refusal
fields_answer t s = cond (fields_right t s) (Ok (numbers_in t s)) (Err FieldRule)

-- what rules 6 and 7 answer of a header that keeps the rules before them
unfoldable pub rest_answer : List ℕ → ℕ → Stored → Result Header Refusal
rest_answer front long s = cond (stored_length long s) (fields_answer front s) (Err WrongLength)
