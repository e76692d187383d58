-- What reading a header answers, for the crates above: a refusal only, or a header with its bounds.
-- Assumes nothing.
use Prim.Native.Nat.{ℕ, zero, suc, ◌+◌, ◌-◌, ◌*◌, ◌≤◌, ◌<◌}
use mathlib.Core.Path.{◌≡◌, refl, sym, ◌∙◌, ap}
use mathlib.Core.Bool.{Bool, true, false, cond, ◌&&◌}
use mathlib.Core.List.{List, ◌++◌}
use mathlib.Core.Logic.{◌⊎◌, inl, inr}
use native.Mathlib.Nat.{not-suc-le-zero}
use native.Mathlib.Omega.{arith}
use lib.Dec.{leb}
use lib.ListN.{length}
use borrow.Author.Tests.{le-leb, lt-leb, leb-true, leb-false}
use Rattle.std.specs.Prelude.{Option, Some, None, Result, Ok, Err}
use Rattle.words.specs.Numbers.{byte}
use Rattle.words.proofs.Cases.{apart, compared}
use Rattle.header.specs.Refusals.{Verdict, kept, answer_number, one_of, among, header_refusals}
use Rattle.header.specs.Stored.{stored_of, area_at, names_at}
use Rattle.header.specs.Fields.{code_at, width_at, kind_at, width_sum}
use Rattle.header.specs.Header.{header_refusal}
use Rattle.header.specs.Numbers.{numbers_with, numbers_in, numbers_of, field_is, field_with, field_of}
use Rattle.header.specs.Answers.{unless_refused, header_first, header_answer}
use Rattle.header.specs.Rules.{Names, some, HeaderRules, Accepted, FieldBounds}
use Rattle.header.specs.declared.Header.{Header}
use Rattle.header.specs.declared.refusal.Refusal.{Refusal}
use Rattle.header.specs.declared.kind.FieldKind.{FieldKind}
use Rattle.header.specs.declared.field.Field.{Field}
use Rattle.header.proofs.KindLaws.{kind_width, known_width, pair_known}
use Rattle.header.proofs.FieldLaws.{offset_at, offsets_length}
use Rattle.header.proofs.VerdictLaws.{unless_kept, unless_refused_lem, unless_ok}
use Rattle.header.proofs.RefusalLaws.{among_is, unless_holds, unless_among, header_refusals_lem}
use Rattle.header.proofs.RuleLaws.{names_take, verdict_gives, verdict_takes}

-- ---- the verdict

-- demand 2 for the header: accepted exactly when it meets rules 1 to 7
pub accepted_gives : (t : List ℕ) → header_refusal t ≡ kept → HeaderRules t (length t)
accepted_gives t e = verdict_gives t (length t) e

pub accepted_takes : (t : List ℕ) → HeaderRules t (length t) → header_refusal t ≡ kept
accepted_takes t r = verdict_takes t (length t) r

-- the answer is a header where the rules are kept, and their refusal where one is broken
pub kept_only : (t : List ℕ) → header_refusal t ≡ kept → header_answer t ≡ Ok (numbers_of t)
unfolding header_answer header_first
kept_only t e = unless_kept (header_refusal t) Err (Ok (numbers_of t)) e

pub refused_only : (t : List ℕ) {r : Refusal} → header_refusal t ≡ Err r → header_answer t ≡ Err r
unfolding header_answer header_first
refused_only t e = unless_refused_lem (header_refusal t) Err (Ok (numbers_of t)) e

pub refusal_is : (t : List ℕ) → answer_number (header_answer t) ≡ answer_number (header_refusal t)
unfolding header_answer header_first unless_refused answer_number
refusal_is t = go (header_refusal t)
  where
    go : (v : Verdict) → answer_number (unless_refused v Err (Ok (numbers_of t))) ≡ answer_number v
    go (Ok none) = refl
    go (Err r) = refl

-- ---- widths

-- the widths of fewer fields add up to no more
sum_mono : (t : List ℕ) (area k n : ℕ) → k ≤ n → width_sum t area k ≤ width_sum t area n
unfolding width_sum
sum_mono t area zero n l = omega arith
sum_mono t area (suc k) zero l = absurd (not-suc-le-zero l)
sum_mono t area (suc k) (suc n) l = go (leb (suc k) n) refl (sum_mono t area (suc k) n)
  where
    go : (b : Bool) → leb (suc k) n ≡ b → (suc k ≤ n → width_sum t area (suc k) ≤ width_sum t area n) →
        width_sum t area (suc k) ≤ width_sum t area (suc n)
    go true e ih = omega (arith, ih (leb-true (suc k) n e))
    go false e ih = let f : k ≡ n = omega (arith, leb-false (suc k) n e) in rw f (omega arith)

sum_some : (t : List ℕ) (area k : ℕ) → 1 ≤ k → ((f : ℕ) → f < k → 1 ≤ width_at t area f) → 1 ≤ width_sum t area k
unfolding width_sum
sum_some t area zero l h = absurd (not-suc-le-zero l)
sum_some t area (suc k) l h = omega (arith, h k (omega arith))

-- names that are there begin inside the header
names_inside : (t : List ℕ) (end n at : ℕ) → 1 ≤ n → Names t end n at → at < end
names_inside t end zero at l w = absurd (not-suc-le-zero l)
names_inside t end (suc n) at l (some name inside rest) = omega arith

-- ---- an accepted header

module _ (t : List ℕ) (e : header_refusal t ≡ kept) where
  pub accepted : Accepted t (numbers_of t)
  unfolding numbers_of numbers_in numbers_with
  accepted =
      let s = stored_of t in
      let area = area_at s.version in
      let r = accepted_gives t e in
      let l = r.limits in
      let f = r.fields in
      let known : (i : ℕ) → i < s.fields → kind_at t area i ≡ None → ⊥ =
      λ i k. let (kind, good) = f.pairs i k in pair_known (code_at t area i) (width_at t area i) kind good in
      let wide : (i : ℕ) → i < s.fields → 1 ≤ width_at t area i =
      λ i k. known_width (code_at t area i) (width_at t area i) (known i k) in
      let most : width_sum t area s.key_fields ≤ width_sum t area s.fields =
      sum_mono t area s.key_fields s.fields l.keys_most in
      let inside = names_inside t s.header_size s.fields (names_at s) l.fields_least f.names in
      record {
        same = refl;
        whole = r.whole;
        header_least = l.header_least;
        block_least = omega (arith, l.units_least);
        block_most = omega (arith, l.units_most);
        blocks_most = l.blocks_most;
        size_least = l.size_least;
        size_most = l.size_most;
        records_most = l.records_most;
        fields_least = l.fields_least;
        fields_most = l.fields_most;
        keys_most = l.keys_most;
        area_inside = omega arith;
        offsets_length = offsets_length t area s.fields;
        offset = λ i k. offset_at t area s.fields i l.fields_most k;
        widths = f.widths;
        key_length = refl;
        key_most = omega (arith, most, f.widths);
        key_least = λ k. sum_some t area s.key_fields k (λ i j. wide i (omega (arith, l.keys_most)));
        pairs = known;
        named = names_take t s.header_size s.fields (names_at s) f.names;
      }

-- ---- a header that was read: what its answer r says, without a word on the rules

module _ (t : List ℕ) (r : Result Header Refusal) (read : r ≡ header_answer t) where
  -- where it is a header, the rules are kept and it is the header's numbers, with their bounds
  both : {h : Header} → r ≡ Ok h
      → (header_refusal t ≡ kept) × ◌≡◌ {A = Result Header Refusal} (Ok (numbers_of t)) (Ok h)
  unfolding header_answer header_first
  both e = unless_ok (header_refusal t) (Ok (numbers_of t)) (sym read ∙ e)

  pub read_kept : {h : Header} → r ≡ Ok h → header_refusal t ≡ kept
  read_kept e = (both e).0

  -- where it is a refusal, that is the first broken rule's
  pub read_refused : {x : Refusal} → r ≡ Err x → header_refusal t ≡ Err x
  unfolding header_answer header_first unless_refused
  read_refused {x = x} e = go (header_refusal t) (sym read ∙ e)
    where
      go : (v : Verdict) → unless_refused v Err (Ok (numbers_of t)) ≡ Err x → v ≡ Err x
      go (Ok none) f = apart cc
      go (Err y) f = cc

  pub read_numbers : {h : Header} → r ≡ Ok h → h ≡ numbers_of t
  read_numbers e = let f = (both e).1 in cc

  pub numbers_accepted : {h : Header} → r ≡ Ok h → Accepted t (numbers_of t)
  numbers_accepted e = accepted t (read_kept e)

  pub read_accepted : {h : Header} → r ≡ Ok h → Accepted t h
  read_accepted e = rw (read_numbers e) (numbers_accepted e)

  -- an answer that has the rules first is refused with their refusal, or what comes after them
  module _ {A : Type 0} (refused : Refusal → A) (others : A) where
    pub first_kept : {h : Header} → r ≡ Ok h → header_first t refused others ≡ others
    unfolding header_first
    first_kept e = unless_kept (header_refusal t) refused others (read_kept e)

    pub first_refused : {x : Refusal} → r ≡ Err x → header_first t refused others ≡ refused x
    unfolding header_first
    first_refused e = unless_refused_lem (header_refusal t) refused others (read_refused e)

-- what each of their refusals has, and what comes after the rules where they are kept, every answer has that has the
-- rules first
pub first_holds : {A : Type 0} (t : List ℕ) (refused : Refusal → A) (others : A) (Holds : A → Type 0) →
    ((r : Refusal) → one_of header_refusals r ≡ true → Holds (refused r)) → (Accepted t (numbers_of t) → Holds others)
    → Holds (header_first t refused others)
unfolding header_first
first_holds t refused others Holds refusals whole =
    unless_holds header_refusals (header_refusal t) refused others Holds (header_refusals_lem t) refusals
    (λ e. whole (accepted t e))

-- so its refusals are theirs and those of what comes after them
pub first_among : {A : Type 0} (t : List ℕ) (own : List Refusal) (others : Result A Refusal) →
    (Accepted t (numbers_of t) → among own others ≡ true)
    → among (header_refusals ++ own) (header_first t Err others) ≡ true
unfolding header_first
first_among t own others after =
    unless_among header_refusals own (header_refusal t) others (header_refusals_lem t) (λ e. after (accepted t e))

-- an answer that is none of their refusals is what comes after the rules, and they are kept
pub first_only : {A : Type 0} (t : List ℕ) (refused : Refusal → A) (others answer : A) →
    ((r : Refusal) → one_of header_refusals r ≡ true → refused r ≡ answer → ⊥) → header_first t refused others ≡ answer
    → (header_refusal t ≡ kept) × (others ≡ answer)
unfolding header_first unless_refused
first_only t refused others answer none_of = go (header_refusal t) refl (header_refusals_lem t)
  where
    go : (v : Verdict) → header_refusal t ≡ v → among header_refusals v ≡ true
        → unless_refused v refused others ≡ answer → (header_refusal t ≡ kept) × (others ≡ answer)
    go (Ok none) e w a = (e, a)
    go (Err r) e w a = absurd (none_of r (among_is header_refusals (Err r) w refl) a)

-- ---- a field

module _ (t : List ℕ) (h : Header) (f : ℕ) where
  pub field_low : f < 1 → field_of t h f ≡ None
  unfolding field_of
  field_low l = rw (lt-leb 1 f l)

  pub field_high : h.fields < f → field_of t h f ≡ None
  unfolding field_of
  field_high l = go (leb 1 f)
    where
      go : (b : Bool) → cond (b && leb f h.fields)
          (field_with (kind_at t h.area (f - 1)) (width_at t h.area (f - 1)) (width_sum t h.area (f - 1)))
          None ≡ None
      go true = rw (lt-leb f h.fields l)
      go false = refl

  pub field_here : 1 ≤ f → f ≤ h.fields
      → field_of t h f ≡ field_with (kind_at t h.area (f - 1)) (width_at t h.area (f - 1))
      (width_sum t h.area (f - 1))
  unfolding field_of
  field_here l m = rw (le-leb 1 f l, le-leb f h.fields m)

-- which of its fields a field is
pub field_is_same : (k kind : FieldKind) (w width o offset : ℕ) → field_is k w o ≡ field_is kind width offset →
    (k ≡ kind) × (w ≡ width) × (o ≡ offset)
field_is_same k kind w width o offset e =
    let d : ◌≡◌ {A = Field} (record { kind = k; width = w; offset = o })
    (record { kind = kind; width = width; offset = offset }) = cc in
    (ap (λ (x : Field). x.kind) d, ap (λ (x : Field). x.width) d, ap (λ (x : Field). x.offset) d)

field_parts : (k : Option FieldKind) (w o : ℕ) (kind : FieldKind) (width offset : ℕ) →
    field_with k w o ≡ field_is kind width offset → (k ≡ Some kind) × (w ≡ width) × (o ≡ offset)
unfolding field_with
field_parts (Some k) w o kind width offset e =
    let p = field_is_same k kind w width o offset e in (ap Some p.0, p.1, p.2)
field_parts None w o kind width offset e = apart cc

module _ (t : List ℕ) (h : Header) (a : Accepted t h) (f : ℕ) where
  pub field_bounds : (kind : FieldKind) (width offset : ℕ) → field_of t h f ≡ field_is kind width offset →
      FieldBounds t h f kind width offset
  unfolding width_sum
  field_bounds kind width offset e = go (leb 1 f) refl (leb f h.fields) refl
    where
      go : (p : Bool) → leb 1 f ≡ p → (q : Bool) → leb f h.fields ≡ q → FieldBounds t h f kind width offset
      go false u q v = apart (cc (field_low t h f (leb-false 1 f u)))
      go true u false v = apart (cc (field_high t h f (leb-false f h.fields v)))
      go true u true v =
          let low = leb-true 1 f u in
          let high = leb-true f h.fields v in
          let p = field_parts (kind_at t h.area (f - 1)) (width_at t h.area (f - 1)) (width_sum t h.area (f - 1))
          kind width offset (sym (field_here t h f low high) ∙ e) in
          record {
            least = low;
            most = high;
            wide = sym p.1;
            stored = rw p.1 at p.0;
            permitted =
                rw p.1 at (kind_width (byte t (h.area + 2 * (f - 1))) (width_at t h.area (f - 1)) kind p.0);
            starts = sym p.2;
            inside = omega (arith, p.1, p.2, sum_mono t h.area (suc (f - 1)) h.fields (omega arith), a.widths);
          }

  -- a number from 1 to fields names a field
  pub field_there : 1 ≤ f → f ≤ h.fields → field_of t h f ≡ None → ⊥
  unfolding field_with
  field_there l m e = go (kind_at t h.area (f - 1)) refl
    where
      go : (k : Option FieldKind) → kind_at t h.area (f - 1) ≡ k → ⊥
      go None g = a.pairs (f - 1) (omega arith) g
      go (Some kind) g = apart (cc (field_here t h f l m))

-- ---- two fields of one record, and the key

module _ (t : List ℕ) (h : Header) (a : Accepted t h) (f : ℕ) (kind : FieldKind) (width offset : ℕ)
    (d : field_of t h f ≡ field_is kind width offset) where
  -- a field ends where the fields behind it begin, or before
  pub fields_behind : (g : ℕ) (other : FieldKind) (wide at : ℕ) → field_of t h g ≡ field_is other wide at → f < g
      → offset + width ≤ at
  unfolding width_sum
  fields_behind g other wide at e l =
      let c = field_bounds t h a f kind width offset d in
      let k = field_bounds t h a g other wide at e in
      omega (arith, c.wide, c.starts, k.starts, sum_mono t h.area (suc (f - 1)) (g - 1) (omega (arith, c.least)))

  -- a field behind the key fields begins behind the key
  pub behind_key : h.key_fields < f → h.key_length ≤ offset
  behind_key l =
      let c = field_bounds t h a f kind width offset d in
      omega (arith, c.starts, a.key_length, sum_mono t h.area h.key_fields (f - 1) (omega arith))

  -- a key field ends inside the key
  pub in_key : f ≤ h.key_fields → offset + width ≤ h.key_length
  unfolding width_sum
  in_key l =
      let c = field_bounds t h a f kind width offset d in
      let m = sum_mono t h.area (suc (f - 1)) h.key_fields (omega (arith, c.least)) in
      omega (arith, c.starts, c.wide, a.key_length, m)

-- two fields don't overlap
module _ (t : List ℕ) (h : Header) (a : Accepted t h) where
  pub fields_apart : (f : ℕ) (kind : FieldKind) (width offset : ℕ) → field_of t h f ≡ field_is kind width offset
      → (g : ℕ) (other : FieldKind) (wide at : ℕ) → field_of t h g ≡ field_is other wide at → (f ≡ g → ⊥)
      → (offset + width ≤ at) ⊎ (at + wide ≤ offset)
  fields_apart f kind width offset d g other wide at e different =
      compared f g
      (λ l. inl (fields_behind t h a f kind width offset d g other wide at e l))
      (λ z. absurd (different z))
      (λ l. inr (fields_behind t h a g other wide at e f kind width offset d l))
