-- The answer of a header, rule by rule in document 01's order. Assumes nothing.
use Prim.Native.Nat.{ℕ, ◌+◌, ◌*◌, ◌≤◌, ◌<◌}
use mathlib.Core.Path.{◌≡◌, refl, sym, ap, ◌∙◌}
use mathlib.Core.Bool.{Bool, true, false, cond}
use mathlib.Core.List.{List}
use native.Mathlib.Omega.{arith}
use lib.Dec.{eqb, leb}
use lib.ListN.{length, get_or}
use borrow.Author.Tests.{eqb-true, eq-eqb, ne_eqb, le-leb, lt-leb, leb-false}
use Rattle.std.specs.Prelude.{Option, Some, None, Result, Ok, Err, ok_or}
use Rattle.words.specs.Each.{each}
use Rattle.words.proofs.Conjunctions.{and_second, and_third}
use Rattle.header.specs.Refusals.{Verdict, kept, first_broken}
use Rattle.header.specs.Stored.{stored_of, unit, encryption_at, area_at, names_at}
use Rattle.header.specs.Fields.{pair_right, width_sum, offsets_of, names_fit, fields_right}
use Rattle.header.specs.Header.{long_enough, is_table, known_version, unencrypted, limits_kept, length_right}
use Rattle.header.specs.Header.{most_fields}
use Rattle.header.specs.Header.{limits_verdict, stored_length, fields_verdict, header_verdict}
use Rattle.header.specs.Numbers.{numbers_with, numbers_in, numbers_of}
use Rattle.header.specs.Answers.{unless_refused, header_first, header_answer, front_answer}
use Rattle.header.specs.Steps.{Limited, limits_answer, fields_answer, rest_answer}
use Rattle.header.specs.declared.Header.{Header}
use Rattle.header.specs.declared.refusal.Refusal.{Refusal}
use Rattle.header.specs.declared.refusal.Refusal.TheVariants.{TooShort, NotATable, UnknownVersion, Encrypted}
use Rattle.header.specs.declared.refusal.Refusal.TheVariants.{HeaderLimit, WrongLength, FieldRule}
use Rattle.header.specs.declared.stored.Stored.{Stored}
use Rattle.header.proofs.FieldLaws.{offset_at}
use Rattle.header.proofs.NameLaws.{names_outside}
use Rattle.header.proofs.RuleLaws.{limits_give}
use Rattle.words.proofs.Cases.{apart}
use Rattle.header.proofs.VerdictLaws.{unless_kept, unless_refused_lem, unless_ok, kept_of}

-- ---- rule 7 broken, or kept

module _ (t : List ℕ) (s : Stored) where
  pub fields_broken : fields_right t s ≡ false → fields_answer t s ≡ Err FieldRule
  unfolding fields_answer
  fields_broken e = rw e

  pub pairs_broken : each (pair_right t (area_at s.version) s.key_fields) s.fields ≡ false →
      fields_right t s ≡ false
  unfolding fields_right
  pairs_broken e = rw e

  pub widths_broken : (width_sum t (area_at s.version) s.fields ≡ s.record_size → ⊥) → fields_right t s ≡ false
  unfolding fields_right
  widths_broken h =
      and_second (each (pair_right t (area_at s.version) s.key_fields) s.fields) _
      (names_fit t s.header_size s.fields (names_at s))
      (ne_eqb (width_sum t (area_at s.version) s.fields) s.record_size h)

  pub names_unfit : names_fit t s.header_size s.fields (names_at s) ≡ false → fields_right t s ≡ false
  unfolding fields_right
  names_unfit e =
      and_third (each (pair_right t (area_at s.version) s.key_fields) s.fields)
      (eqb (width_sum t (area_at s.version) s.fields) s.record_size) _ e

  pub no_room : 1 ≤ s.fields → s.header_size ≤ names_at s → fields_right t s ≡ false
  no_room l h = names_unfit (names_outside t s.header_size s.fields (names_at s) l h)

  pub fields_kept : (offsets : List ℕ) → s.fields ≤ most_fields → s.key_fields ≤ s.fields →
      offsets ≡ offsets_of t (area_at s.version) s.fields →
      each (pair_right t (area_at s.version) s.key_fields) s.fields ≡ true →
      width_sum t (area_at s.version) s.fields ≡ s.record_size →
      names_fit t s.header_size s.fields (names_at s) ≡ true →
      fields_answer t s ≡ Ok (numbers_with s (get_or offsets s.key_fields 0) offsets)
  unfolding fields_answer fields_right numbers_in
  fields_kept offsets m k o a b d =
      rw (
        a,
        eq-eqb (width_sum t (area_at s.version) s.fields) s.record_size b,
        d,
        o,
        offset_at t (area_at s.version) s.fields s.key_fields m k,
      )

-- ---- rules 1 to 5 in their order: each law takes the rules before it as kept

module _ (t : List ℕ) (long : ℕ) where
  refused : (r : Refusal) → limits_verdict t long kept ≡ Err r → front_answer t long ≡ Err r
  unfolding front_answer
  refused r e = unless_refused_lem (limits_verdict t long kept) Err _ e

  pub verdict_1 : long_enough long ≡ false → limits_verdict t long kept ≡ Err TooShort
  unfolding limits_verdict
  verdict_1 e = rw e

  pub broken_1 : long_enough long ≡ false → front_answer t long ≡ Err TooShort
  broken_1 e = refused TooShort (verdict_1 e)

  module _ (k1 : long_enough long ≡ true) where
    pub verdict_2 : is_table (stored_of t) ≡ false → limits_verdict t long kept ≡ Err NotATable
    unfolding limits_verdict
    verdict_2 e = rw (k1, e)

    pub broken_2 : is_table (stored_of t) ≡ false → front_answer t long ≡ Err NotATable
    broken_2 e = refused NotATable (verdict_2 e)

    module _ (k2 : is_table (stored_of t) ≡ true) where
      pub verdict_3 : known_version (stored_of t).version ≡ false → limits_verdict t long kept ≡ Err UnknownVersion
      unfolding limits_verdict
      verdict_3 e = rw (k1, k2, e)

      pub broken_3 : known_version (stored_of t).version ≡ false → front_answer t long ≡ Err UnknownVersion
      broken_3 e = refused UnknownVersion (verdict_3 e)

      module _ (k3 : known_version (stored_of t).version ≡ true) where
        pub verdict_4 : unencrypted t (encryption_at (stored_of t).version) ≡ false →
            limits_verdict t long kept ≡ Err Encrypted
        unfolding limits_verdict
        verdict_4 e = rw (k1, k2, k3, e)

        pub broken_4 : unencrypted t (encryption_at (stored_of t).version) ≡ false → front_answer t long ≡ Err Encrypted
        broken_4 e = refused Encrypted (verdict_4 e)

        module _ (k4 : unencrypted t (encryption_at (stored_of t).version) ≡ true) where
          pub verdict_5 : limits_kept (stored_of t) ≡ false → limits_verdict t long kept ≡ Err HeaderLimit
          unfolding limits_verdict
          verdict_5 e = rw (k1, k2, k3, k4, e)

          pub broken_5 : limits_kept (stored_of t) ≡ false → front_answer t long ≡ Err HeaderLimit
          broken_5 e = refused HeaderLimit (verdict_5 e)

          pub verdict_kept : limits_kept (stored_of t) ≡ true → limits_verdict t long kept ≡ kept
          unfolding limits_verdict
          verdict_kept e = rw (k1, k2, k3, k4, e)

-- ---- rules 1 to 5 judged: the stored numbers, or a refusal

module _ (t : List ℕ) (long : ℕ) where
  pub limits_refused : {r : Refusal} → limits_verdict t long kept ≡ Err r → limits_answer t long ≡ Err r
  unfolding limits_answer
  limits_refused e = unless_refused_lem (limits_verdict t long kept) Err (Ok (stored_of t)) e

  pub limits_held : limits_verdict t long kept ≡ kept → limits_answer t long ≡ Ok (stored_of t)
  unfolding limits_answer
  limits_held e = unless_kept (limits_verdict t long kept) Err (Ok (stored_of t)) e

  -- what a refused answer tells of the verdict, and what the stored numbers tell
  pub refused_limits : {r : Refusal} → limits_answer t long ≡ Err r → limits_verdict t long kept ≡ Err r
  unfolding limits_answer unless_refused
  refused_limits e = go (limits_verdict t long kept) e
    where
      go : {r : Refusal} (v : Verdict) → unless_refused v Err (Ok (stored_of t)) ≡ Err r → v ≡ Err r
      go (Ok tt) f = apart cc
      go (Err s) f = cc

  pub held_limits : {s : Stored} → limits_answer t long ≡ Ok s → (limits_verdict t long kept ≡ kept) × (s ≡ stored_of t)
  unfolding limits_answer
  held_limits e =
      let p = unless_ok (limits_verdict t long kept) (Ok (stored_of t)) e in
      (p.0, cc)

  pub front_refused : {r : Refusal} → limits_answer t long ≡ Err r → front_answer t long ≡ Err r
  front_refused e = refused t long _ (refused_limits e)

-- the limits that rules 1 to 5 keep
pub limits_right : (t : List ℕ) (long : ℕ) → limits_verdict t long kept ≡ kept → limits_kept (stored_of t) ≡ true
unfolding limits_verdict
limits_right t long e =
    let p1 = kept_of (long_enough long) TooShort _ e in
    let p2 = kept_of (is_table (stored_of t)) NotATable _ p1.1 in
    let p3 = kept_of (known_version (stored_of t).version) UnknownVersion _ p2.1 in
    let p4 = kept_of (unencrypted t (encryption_at (stored_of t).version)) Encrypted _ p3.1 in
    (kept_of (limits_kept (stored_of t)) HeaderLimit _ p4.1).0

-- what they give rules 6 and 7
pub limited_by : (t : List ℕ) (long : ℕ) → limits_verdict t long kept ≡ kept →
    (stored_length long (stored_of t) ≡ true → (stored_of t).header_size ≤ length t) → Limited t long (stored_of t)
limited_by t long e inside =
    let l = limits_give (stored_of t) (limits_right t long e) in
    record {
      units_most = l.units_most;
      fields_least = l.fields_least;
      fields_most = l.fields_most;
      keys_most = l.keys_most;
      inside = inside;
    }

-- a whole file of the right length has all of its header
pub whole_inside : (t : List ℕ) → stored_length (length t) (stored_of t) ≡ true → (stored_of t).header_size ≤ length t
unfolding length_right
whole_inside t e =
    let s = stored_of t in
    omega (arith, eqb-true (length t) (s.header_size + s.blocks * (s.units * unit)) e)

-- ---- rules 6 and 7, where rules 1 to 5 are kept

-- the header of a front that has all of it
abbrev pub fronted : Result Header Refusal → Result (Option Header) Refusal
fronted (Ok h) = Ok (Some h)
fronted (Err r) = Err r

module _ (t : List ℕ) (long : ℕ) (e : limits_verdict t long kept ≡ kept) where
  -- what the rules after 5 answer
  abbrev later : Result (Option Header) Refusal
  later =
      cond (leb (stored_of t).header_size (length t))
      (unless_refused (fields_verdict t long) Err (Ok (Some (numbers_of t))))
      (Ok None)

  limited : front_answer t long ≡ later
  unfolding front_answer
  limited = unless_kept (limits_verdict t long kept) Err later e

  pub front_short : length t < (stored_of t).header_size → front_answer t long ≡ Ok None
  front_short l = limited ∙ rw (lt-leb (stored_of t).header_size (length t) l)

  module _ (room : (stored_of t).header_size ≤ length t) where
    held : front_answer t long ≡ unless_refused (fields_verdict t long) Err (Ok (Some (numbers_of t)))
    held = limited ∙ rw (le-leb (stored_of t).header_size (length t) room)

    pub broken_6 : stored_length long (stored_of t) ≡ false → front_answer t long ≡ Err WrongLength
    unfolding fields_verdict unless_refused
    broken_6 f = held ∙ rw f

    pub front_rest : front_answer t long ≡ fronted (rest_answer t long (stored_of t))
    unfolding fields_verdict unless_refused rest_answer fields_answer numbers_of
    front_rest = held ∙ go (stored_length long (stored_of t)) (fields_right t (stored_of t))
      where
        go : (b c : Bool) → unless_refused (first_broken b WrongLength (first_broken c FieldRule kept)) Err
            (Ok (Some (numbers_in t (stored_of t))))
            ≡ fronted (cond b (cond c (Ok (numbers_in t (stored_of t))) (Err FieldRule)) (Err WrongLength))
        go true true = refl
        go true false = refl
        go false c = refl

    pub last_rule : stored_length long (stored_of t) ≡ true →
        front_answer t long ≡ fronted (fields_answer t (stored_of t))
    unfolding rest_answer
    last_rule f = front_rest ∙ rw f

-- ---- a whole file is its own front: one that ends inside the header has the wrong length

-- what rules 1 to 5 leave to the rules after them
left_over : (b : Bool) (r : Refusal) (first others rest : Verdict) → rest ≡ unless_refused first Err others →
    first_broken b r rest ≡ unless_refused (first_broken b r first) Err others
unfolding unless_refused
left_over true r first others rest e = e
left_over false r first others rest e = refl

limits_first : (t : List ℕ) (long : ℕ) (others : Verdict) →
    limits_verdict t long others ≡ unless_refused (limits_verdict t long kept) Err others
unfolding limits_verdict unless_refused
limits_first t long others =
    let s = stored_of t in
    left_over (long_enough long) TooShort _ others _
    (left_over (is_table s) NotATable _ others _
    (left_over (known_version s.version) UnknownVersion _ others _
    (left_over (unencrypted t (encryption_at s.version)) Encrypted _ others _
    (left_over (limits_kept s) HeaderLimit kept others others refl))))

-- a file that is shorter than its header has the wrong length
short_file : (t : List ℕ) → length t < (stored_of t).header_size → fields_verdict t (length t) ≡ Err WrongLength
unfolding fields_verdict length_right
short_file t l =
    let s = stored_of t in
    rw (ne_eqb (length t) (s.header_size + s.blocks * (s.units * unit)) (λ z. omega arith))

-- an answer by a front that is the whole file
abbrev pub whole_of : Result (Option Header) Refusal → Result Header Refusal
whole_of (Ok front) = ok_or front WrongLength
whole_of (Err r) = Err r

pub whole_front : (t : List ℕ) → whole_of (front_answer t (length t)) ≡ header_answer t
unfolding front_answer header_answer header_first header_verdict unless_refused
whole_front t = rw (limits_first t (length t) (fields_verdict t (length t))) (go (limits_verdict t (length t) kept))
  where
    after : (v : Verdict) → whole_of (unless_refused v Err (Ok (Some (numbers_of t))))
        ≡ unless_refused v Err (Ok (numbers_of t))
    after (Ok none) = refl
    after (Err r) = refl

    held : (b : Bool) → leb (stored_of t).header_size (length t) ≡ b →
        whole_of (cond b (unless_refused (fields_verdict t (length t)) Err (Ok (Some (numbers_of t)))) (Ok None))
        ≡ unless_refused (fields_verdict t (length t)) Err (Ok (numbers_of t))
    held true e = after (fields_verdict t (length t))
    held false e = rw (short_file t (leb-false (stored_of t).header_size (length t) e))

    go : (v : Verdict) →
        whole_of (unless_refused v Err (cond (leb (stored_of t).header_size (length t))
        (unless_refused (fields_verdict t (length t)) Err (Ok (Some (numbers_of t)))) (Ok None)))
        ≡ unless_refused (unless_refused v Err (fields_verdict t (length t))) Err (Ok (numbers_of t))
    go (Ok none) = held (leb (stored_of t).header_size (length t)) refl
    go (Err r) = refl

-- so a whole file is refused by the laws of its front
pub whole_refused : (t : List ℕ) {r : Refusal} → front_answer t (length t) ≡ Err r → header_answer t ≡ Err r
whole_refused t e = sym (whole_front t) ∙ ap whole_of e

-- ---- reading a whole file: rules 1 to 5, then 6 and 7

module _ (t : List ℕ) where
  pub header_refused : {r : Refusal} → limits_answer t (length t) ≡ Err r → header_answer t ≡ Err r
  unfolding header_answer header_first header_verdict unless_refused
  header_refused e =
      rw (limits_first t (length t) (fields_verdict t (length t)), refused_limits t (length t) e)

  pub header_rest : limits_verdict t (length t) kept ≡ kept → header_answer t ≡ rest_answer t (length t) (stored_of t)
  unfolding header_answer header_first header_verdict fields_verdict unless_refused rest_answer fields_answer numbers_of
  header_rest e =
      rw (limits_first t (length t) (fields_verdict t (length t)), e)
      (go (stored_length (length t) (stored_of t)) (fields_right t (stored_of t)))
    where
      go : (b c : Bool) → unless_refused (first_broken b WrongLength (first_broken c FieldRule kept)) Err
          (Ok (numbers_in t (stored_of t)))
          ≡ cond b (cond c (Ok (numbers_in t (stored_of t))) (Err FieldRule)) (Err WrongLength)
      go true true = refl
      go true false = refl
      go false c = refl
