-- Two files of one length with the same header: where one keeps rules 1 to 7 so does the other, with the same numbers
-- and the same fields. No byte behind the header is read. Assumes nothing.
use Prim.Native.Nat.{ℕ, zero, suc, ◌+◌, ◌-◌, ◌*◌, ◌≤◌, ◌<◌}
use mathlib.Core.Path.{◌≡◌, refl, sym, ap, ◌∙◌}
use mathlib.Core.Bool.{Bool, true, false, cond, ◌&&◌}
use mathlib.Core.List.{List}
use native.Mathlib.Omega.{arith}
use lib.Dec.{leb}
use lib.ListN.{length}
use borrow.Author.Tests.{leb-true}
use Rattle.std.specs.Prelude.{Ok, None}
use Rattle.words.specs.Numbers.{byte, little}
use Rattle.words.proofs.Conjunctions.{both}
use Rattle.words.proofs.NumberLaws.{little_same}
use Rattle.header.specs.Refusals.{kept}
use Rattle.header.specs.Stored.{stored_of, encryption_at, area_at, names_at}
use Rattle.header.specs.Fields.{width_at, kind_at, width_sum, offsets_of}
use Rattle.header.specs.Header.{header_refusal}
use Rattle.header.specs.Numbers.{numbers_with, numbers_in, numbers_of, field_with, field_of}
use Rattle.header.specs.Answers.{header_answer}
use Rattle.header.specs.Rules.{NameAt, Names, none, some, FieldRules, HeaderRules, Accepted}
use Rattle.header.specs.declared.Header.{Header}
use Rattle.header.proofs.AcceptedLaws.{accepted, accepted_gives, accepted_takes, kept_only}

-- the encryption bytes are among the first 120
encryption_most : (version : ℕ) → encryption_at version ≤ 0x5C
encryption_most version = go (leb version 0x04)
  where
    go : (b : Bool) → cond b 0x25 0x5C ≤ 0x5C
    go true = omega arith
    go false = omega arith

-- ---- by the same n bytes in front

module _ (t u : List ℕ) (n : ℕ) (front : (i : ℕ) → i < n → byte u i ≡ byte t i) where
  number_same : (at w : ℕ) → at + w ≤ n → little u at w ≡ little t at w
  number_same at w l = little_same u t at at w (λ i m. front (at + i) (omega arith))

  -- the numbers as they are stored
  stored_same : 0x4F ≤ n → stored_of u ≡ stored_of t
  unfolding stored_of
  stored_same l =
      rw (
        number_same 0x00 2 (omega arith),
        number_same 0x02 2 (omega arith),
        front 0x04 (omega arith),
        front 0x05 (omega arith),
        number_same 0x06 4 (omega arith),
        number_same 0x0C 2 (omega arith),
        number_same 0x0E 2 (omega arith),
        number_same 0x10 2 (omega arith),
        number_same 0x21 2 (omega arith),
        number_same 0x23 2 (omega arith),
        front 0x29 (omega arith),
        front 0x39 (omega arith),
        number_same 0x4D 2 (omega arith),
      )

  -- the names
  name_same : (at l : ℕ) → at + l < n → NameAt t at l → NameAt u at l
  name_same at l inside name =
      record {
        least = name.least;
        most = name.most;
        nonzero = λ i m z. name.nonzero i m (sym (front (at + i) (omega arith)) ∙ z);
        ended = front (at + l) inside ∙ name.ended;
      }

  names_same : (k at : ℕ) → Names t n k at → Names u n k at
  names_same zero at none = none
  names_same (suc k) at (some {l = l} name inside rest) =
      some (name_same at l inside name) inside (names_same k (at + l + 1) rest)

  module _ (area fields : ℕ) (inside : area + 2 * fields ≤ n) where
    width_same : (f : ℕ) → f < fields → width_at u area f ≡ width_at t area f
    width_same f l = front (area + 2 * f + 1) (omega arith)

    sum_same : (f : ℕ) → f ≤ fields → width_sum u area f ≡ width_sum t area f
    unfolding width_sum
    sum_same zero l = refl
    sum_same (suc f) l = rw (sum_same f (omega arith), width_same f l)

    offsets_same : (f : ℕ) → f ≤ fields → offsets_of u area f ≡ offsets_of t area f
    unfolding offsets_of
    offsets_same zero l = refl
    offsets_same (suc f) l = rw (offsets_same f (omega arith), sum_same (suc f) l)

    kind_same : (f : ℕ) → f < fields → kind_at u area f ≡ kind_at t area f
    kind_same f l = rw (front (area + 2 * f) (omega arith), width_same f l)

-- ---- a file that keeps rules 1 to 7, and another of its length with the same header

module _ (t u : List ℕ) (e : header_refusal t ≡ kept) (long : length u ≡ length t)
    (front : (i : ℕ) → i < (numbers_of t).header_size → byte u i ≡ byte t i) where
  abbrev h : Header
  h = numbers_of t

  its : Accepted t h
  its = accepted t e

  -- the stored numbers, with the header size as the files' numbers have it
  stored : stored_of u ≡ stored_of t
  stored = stored_same t u h.header_size front (omega (arith, its.header_least))

  rules : HeaderRules u (length u)
  unfolding numbers_of numbers_in numbers_with
  rules =
      let r = accepted_gives t e in
      let s = stored_of t in
      let area = area_at s.version in
      let n = s.header_size in
      let inside : area + 2 * s.fields ≤ n = its.area_inside in
      let free : (i : ℕ) → i < 4 → byte u (encryption_at s.version + i) ≡ 0 = λ i l.
      front (encryption_at s.version + i) (omega (arith, encryption_most s.version, its.header_least))
      ∙ r.unencrypted i l in
      let fields : FieldRules u s = record {
        pairs = λ f l. rw (front (area + 2 * f) (omega arith), front (area + 2 * f + 1) (omega arith))
            (r.fields.pairs f l);
        keys = λ f l. rw (
          front (area + 2 * f) (omega (arith, its.keys_most)),
          front (area + 2 * f + 1) (omega (arith, its.keys_most)),
        )
            (r.fields.keys f l);
        widths = sum_same t u n front area s.fields inside s.fields (omega arith) ∙ r.fields.widths;
        names = names_same t u n front s.fields (names_at s) r.fields.names;
      } in
      record {
        long_enough = rw long r.long_enough;
        kind = rw stored r.kind;
        version_least = rw stored r.version_least;
        version_most = rw stored r.version_most;
        unencrypted = λ i l. rw stored (free i l);
        limits = rw stored r.limits;
        whole = rw (stored, long) r.whole;
        fields = rw stored fields;
      }

  pub rules_kept : header_refusal u ≡ kept
  rules_kept = accepted_takes u rules

  pub numbers_same : numbers_of u ≡ numbers_of t
  unfolding numbers_of numbers_in numbers_with
  numbers_same =
      let s = stored_of t in
      let area = area_at s.version in
      let n = s.header_size in
      let inside : area + 2 * s.fields ≤ n = its.area_inside in
      rw (
        stored,
        sum_same t u n front area s.fields inside s.key_fields its.keys_most,
        offsets_same t u n front area s.fields inside s.fields (omega arith),
      )

  pub field_same : (f : ℕ) → field_of u h f ≡ field_of t h f
  unfolding field_of
  field_same f = go (leb 1 f && leb f h.fields) refl
    where
      go : (b : Bool) → (leb 1 f && leb f h.fields) ≡ b →
          cond b (field_with (kind_at u h.area (f - 1)) (width_at u h.area (f - 1)) (width_sum u h.area (f - 1)))
          None
          ≡ cond b (field_with (kind_at t h.area (f - 1)) (width_at t h.area (f - 1)) (width_sum t h.area (f - 1)))
          None
      go false k = refl
      go true k =
          let p = both {a = leb 1 f} {b = leb f h.fields} k in
          let low = leb-true 1 f p.0 in
          let high = leb-true f h.fields p.1 in
          let n = h.header_size in
          let less : f - 1 < h.fields = omega arith in
          rw (
            kind_same t u n front h.area h.fields its.area_inside (f - 1) less,
            width_same t u n front h.area h.fields its.area_inside (f - 1) less,
            sum_same t u n front h.area h.fields its.area_inside (f - 1) (omega arith),
          )

  -- what reading the header answers
  pub answer_same : header_answer u ≡ header_answer t
  answer_same = kept_only u rules_kept ∙ ap Ok numbers_same ∙ sym (kept_only t e)
