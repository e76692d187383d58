-- A field's numbers, one law for each answer. Assumes nothing.
use Rattle.std.proofs.Common.{◌≡◌, ℕ, ◌+◌, ◌*◌, ◌≤◌, List, [], ◌∷◌, length, arith}
use Rattle.std.specs.Prelude.{Option, Some, None, Result, Ok, Err, IfOk}
use Rattle.words.specs.declared.part.Part.{Part}
use Rattle.header.specs.declared.refusal.Refusal.{Refusal}
use Rattle.header.specs.declared.refusal.Refusal.TheVariants.{BadArgument}
use Rattle.header.specs.Numbers.{field_of}
use Rattle.header.specs.Names.{name_in}
use Rattle.header.specs.Rules.{Accepted}
use Rattle.header.specs.declared.Header.{Header}
use Rattle.header.specs.declared.field.Field.{Field}
use Rattle.header.proofs.AcceptedLaws.{field_bounds}
use Rattle.numbers.specs.Header.{header_list, kind_number, named_field, field_given, stored_code, field_in}

module _ (t : List ℕ) (h : Header) (f : ℕ) where
  pub field_missing : field_of t h f ≡ None → field_in t h f ≡ Err BadArgument
  unfolding field_given
  field_missing e = rw e

  module _ (d : Field) (e : field_of t h f ≡ Some d) where
    -- its pair is inside the table
    pub pair_inside : Accepted t h → (1 ≤ f) × (h.area + 2 * f ≤ length t)
    pair_inside a =
        let w = field_bounds t h a f d.kind d.width d.offset e in
        (w.least, omega (arith, w.most, a.area_inside, a.whole))

    pub field_unnamed : (r : Refusal) → name_in t h f ≡ Err r → field_in t h f ≡ Err r
    unfolding field_given named_field
    field_unnamed r k = rw (e, k)

    pub field_named : (name : Part) → name_in t h f ≡ Ok name → (number : ℕ) → number ≡ kind_number d.kind
        → field_in t h f ≡ Ok (stored_code t h f ∷ number ∷ d.width ∷ d.offset ∷ name.start ∷ name.len ∷ [])
    unfolding field_given named_field
    field_named name k number is = rw (e, k, is)

-- ---- as many numbers as are said

pub header_long : (h : Header) → length (header_list h) ≤ 14
unfolding header_list
header_long h = omega arith

named_long : (code : ℕ) (d : Field) (name : Result Part Refusal) →
    IfOk (named_field code d name) (λ its. length its ≤ 6)
unfolding named_field
named_long code d (Ok name) = omega arith
named_long code d (Err r) = tt

given_long : (code : ℕ) (d : Option Field) (name : Result Part Refusal) →
    IfOk (field_given code d name) (λ its. length its ≤ 6)
unfolding field_given
given_long code (Some d) name = named_long code d name
given_long code None name = tt

pub field_long : (t : List ℕ) (h : Header) (f : ℕ) → IfOk (field_in t h f) (λ its. length its ≤ 6)
field_long t h f = given_long (stored_code t h f) (field_of t h f) (name_in t h f)
