-- A value that is written reads as itself, and a cell that is read is written as the same bytes: a value has one form,
-- the form reads as the value, and the bytes that a value is read from are its form. Assumes nothing.
use mathlib.Core.Path.{◌≡◌, refl, sym, ap, ◌∙◌, subst}
use mathlib.Core.Bool.{Bool, true, false, cond, not, ◌&&◌, true≢false}
use mathlib.Core.List.{List, [], ◌++◌}
use mathlib.Core.Logic.{◌⊎◌, inl, inr, ⊎_elim}
use Prim.Native.Nat.{ℕ, suc, ◌+◌, ◌-◌, ◌≤◌, ◌<◌, ◌^◌}
use native.Mathlib.Omega.{arith}
use denote.Laws.{Is as Owned}
use denote.Enum.Declared.{row}
use mir.Val.{Val as Machine}
use lib.Dec.{leb, ltb}
use lib.IntN.{ℤ, pos, negsuc}
use lib.Ieee.Scale.{finite}
use lib.ListN.{length, drop, replicate, length-append, length-replicate}
use lib.Seq.{drop_at, length_front, length-take-le}
use borrow.Author.Tests.{leb-true, ne_eqb}
use Rattle.std.specs.Prelude.{Option, Some, None, Ok, Err}
use Rattle.words.specs.Numbers.{Bytes, big, digits}
use Rattle.words.specs.Signed.{half}
use Rattle.words.specs.Zeros.{all_zero, before_zero}
use Rattle.words.specs.Order.{range}
use Rattle.words.proofs.DigitLaws.{digits_length, big_digits, digits_big}
use Rattle.words.proofs.NumberLaws.{big_lt}
use Rattle.words.proofs.Cases.{apart}
use Rattle.words.proofs.ZeroLaws.{zero_number, some_number, zero_range, zeros_behind}
use Rattle.header.specs.Refusals.{Verdict, kept}
use Rattle.header.specs.declared.refusal.Refusal.{Refusal}
use Rattle.header.specs.declared.refusal.Refusal.TheVariants.{NoMeaning, BlobCell, BadArgument, ShortBuffer}
use Rattle.header.specs.Kinds.{kind_of, is_blob, Permitted}
use Rattle.header.specs.declared.kind.FieldKind.{FieldKind}
use Rattle.header.specs.declared.kind.FieldKind.TheVariants as Kin
use Rattle.header.proofs.KindLaws.{kind_width}
use Rattle.cell.specs.Values.{Held, Content, nothing, blank, short, long, date, number, logical, text, content_of}
use Rattle.cell.specs.Values.{answer_of}
use Rattle.cell.specs.Doubles.{double_of, stored_double}
use Rattle.cell.specs.Reading.{is_date, signed_at, double_at, value_at, cell_at}
use Rattle.cell.specs.Writing.{Form, none, bytes, signed_form, date_form, number_form, logical_byte}
use Rattle.cell.specs.Writing.{form_of, of_kind, put_form, put_value, write_kind, write_stored, write_of, ReadsBack}
use Rattle.cell.specs.declared.value.Value.{Value}
use Rattle.cell.specs.declared.value.Value.TheVariants as Val
use Rattle.cell.specs.contracts.value.Value.{the_type}
use Rattle.cell.proofs.Exits.{no_cell, refused_alike}
use Rattle.cell.proofs.StoredLaws.{double_fits}
use Rattle.cell.proofs.ValueKinds.{own, same_kind}
use Rattle.cell.proofs.WritingLaws.{write_form}
use Rattle.cell.proofs.Inverse.{no_form, Numbered, signed_form_lem, signed_means, read_date, date_means, read_number}
use Rattle.cell.proofs.Inverse.{number_form_lem, number_means, read_logical, logical_means, text_means}
use Rattle.cell.proofs.Inverse.{text_not_blank, text_reads, read_text, text_part, text_form_lem}

-- ---- how long a form is

digits_form : (w n : ℕ) (b : Bool) (s : List ℕ) → cond b (bytes (digits w n)) none ≡ bytes s → length s ≡ w
digits_form w n true s h = let e : s ≡ digits w n = cc in ap length e ∙ digits_length w n
digits_form w n false s h = no_form h

signed_length : (w : ℕ) (z : ℤ) (s : List ℕ) → signed_form w z ≡ bytes s → length s ≡ w
unfolding signed_form
signed_length w (pos m) s h = digits_form w (m + half w) (ltb m (half w)) s h
signed_length w (negsuc m) s h = digits_form w (half w - suc m) (ltb (suc m) (half w)) s h

-- a form has as many bytes as the cell is wide
pub form_length : (w : ℕ) (c : Content) (s : List ℕ) → form_of w c ≡ bytes s → length s ≡ w
unfolding form_of date_form number_form
form_length w nothing s h = no_form h
form_length w blank s h = let e : s ≡ replicate w 0 = cc in ap length e ∙ length-replicate w 0
form_length w (short z) s h = signed_length w z s h
form_length w (long z) s h = signed_length w z s h
form_length w (date d) s h = digits_form w (d + half w) (is_date d) s h
form_length w (number x) s h = digits_form w (stored_double w x) (finite x) s h
form_length w (logical b) s h = digits_form w (logical_byte b) true s h
form_length w (text t) s h =
    let q = text_means w t s h in
    ap length (sym q.3) ∙ rw (length-append, length-replicate) (let l = q.1 in omega arith)

-- ---- a form reads as its value

-- where the kind's meaning is by the number of the bytes
stored_reads : {means : ℕ → Type 0} (kind : FieldKind) (w : ℕ) (s : List ℕ) (c : Content) (rest : List ℕ)
    → is_blob kind ≡ false → Numbered w s means
    → ((t : List ℕ) → means (big t 0 w) → answer_of t (value_at kind t 0 w) ≡ (0, c))
    → answer_of (s ++ rest) (cell_at kind (s ++ rest) 0 w) ≡ (0, c)
unfolding cell_at
stored_reads kind w s c rest b (n, p, l, e, m) h =
    let q : big (s ++ rest) 0 w ≡ n = ap (λ (d : List ℕ). big (d ++ rest) 0 w) (sym e) ∙ big_digits w n rest l in
    rw (b, zero_number (s ++ rest) 0 w, ne_eqb (big (s ++ rest) 0 w) 0 (omega arith)) (h (s ++ rest) (rw q m))

-- the form of a value of the cell's kind reads as the value, whatever stands behind it
pub form_reads : (kind : FieldKind) (w : ℕ) (c : Content) (s rest : List ℕ) → Permitted kind w → is_blob kind ≡ false
    → Held c → of_kind c kind ≡ true → form_of w c ≡ bytes s
    → answer_of (s ++ rest) (cell_at kind (s ++ rest) 0 w) ≡ (0, c)
unfolding Held form_of own Permitted is_blob value_at cell_at answer_of content_of
form_reads kind w nothing s rest p b h u f = no_form f
form_reads kind w blank s rest p b h u f =
    let e : s ≡ replicate w 0 = cc in rw (e, b, zeros_behind [] w rest)
form_reads kind w (short z) s rest p b h u f =
    let k : kind ≡ Kin.Short = same_kind (short z) kind u in
    let l : w ≡ 2 = rw k at p in
    rw k
    (stored_reads Kin.Short w s (short z) rest refl (signed_means w (omega arith) z s f)
    (λ t m. ap {B = ℕ × Content} (λ (x : ℤ). (0, short x)) m))
form_reads kind w (long z) s rest p b h u f =
    let k : kind ≡ Kin.Long = same_kind (long z) kind u in
    let l : w ≡ 4 = rw k at p in
    rw k
    (stored_reads Kin.Long w s (long z) rest refl (signed_means w (omega arith) z s f)
    (λ t m. ap {B = ℕ × Content} (λ (x : ℤ). (0, long x)) m))
form_reads kind w (date d) s rest p b h u f =
    let k : kind ≡ Kin.Date = same_kind (date d) kind u in
    let l : w ≡ 4 = rw k at p in
    rw (k, l) (stored_reads Kin.Date 4 s (date d) rest refl (date_means d s (rw l at f)) (λ t m. ap (answer_of t) m))
form_reads kind w (number x) s rest p b h u f =
    let k : kind ≡ Kin.Number = same_kind (number x) kind u in
    let l : w ≡ 8 = rw k at p in
    rw (k, l)
    (stored_reads Kin.Number 8 s (number x) rest refl (number_means x s h (rw l at f)) (λ t m. ap (answer_of t) m))
form_reads kind w (logical x) s rest p b h u f =
    let k : kind ≡ Kin.Logical = same_kind (logical x) kind u in
    let l : w ≡ 1 = rw k at p in
    let e : s ≡ digits 1 (logical_byte x) = let g = rw l at f in cc in
    rw (k, l, e)
    (stored_reads Kin.Logical 1 (digits 1 (logical_byte x)) (logical x) rest refl (logical_means x)
    (λ t m. ap (answer_of t) m))
form_reads kind w (text t) s rest p b h u f =
    let k : kind ≡ Kin.Text = same_kind (text t) kind u in
    let q = text_means w t s f in
    rw (k, ← q.3, text_not_blank w t rest q.0 q.1 q.2) (text_reads w t rest q.0 q.1 q.2)

-- ---- what writing answers

-- a refusal, and the buffer as it was; 11 is for a value without a form
abbrev Refused : ℕ → Content → List ℕ → Verdict × List ℕ → Type 0
Refused w c buffer answer = (r : Refusal) × (answer ≡ (Err r, buffer)) × (r ≡ NoMeaning → form_of w c ≡ none)

-- no refusal, and a form in front of the rest of the buffer
abbrev pub Written : ℕ → ℕ → Content → List ℕ → Verdict × List ℕ → Type 0
Written code w c buffer answer =
    (kind : FieldKind) × (s : List ℕ) × (kind_of code w ≡ Some kind) × (is_blob kind ≡ false) × (of_kind c kind ≡ true)
    × (w ≤ length buffer) × (form_of w c ≡ bytes s) × (answer ≡ (kept, s ++ drop w buffer))

outcome : (code w : ℕ) (c : Content) (buffer : List ℕ)
    → Refused w c buffer (write_of code w c buffer) ⊎ Written code w c buffer (write_of code w c buffer)
unfolding write_of write_stored write_kind put_value put_form
outcome code w c buffer = by (kind_of code w) refl
  where
    go : (kind : FieldKind) → kind_of code w ≡ Some kind → (b u l : Bool) (f : Form) → is_blob kind ≡ b
        → of_kind c kind ≡ u → leb w (length buffer) ≡ l → form_of w c ≡ f
        → (let put : Verdict × List ℕ = cond l (put_form w f buffer) (Err ShortBuffer, buffer) in
        let answer : Verdict × List ℕ = cond b (Err BlobCell, buffer) (cond u put (Err BadArgument, buffer)) in
        Refused w c buffer answer ⊎ Written code w c buffer answer)
    go kind k true u l f p q r e = inl (BlobCell, refl, λ x. apart (cc x))
    go kind k false false l f p q r e = inl (BadArgument, refl, λ x. apart (cc x))
    go kind k false true false f p q r e = inl (ShortBuffer, refl, λ x. apart (cc x))
    go kind k false true true none p q r e = inl (NoMeaning, refl, λ x. e)
    go kind k false true true (bytes s) p q r e = inr (kind, s, k, p, q, leb-true w (length buffer) r, e, refl)

    by : (stored : Option FieldKind) → kind_of code w ≡ stored
        → Refused w c buffer (write_stored stored w c buffer) ⊎ Written code w c buffer (write_stored stored w c buffer)
    by None k = inl (BadArgument, refl, λ x. apart (cc x))
    by (Some kind) k =
        go kind k (is_blob kind) (of_kind c kind) (leb w (length buffer)) (form_of w c) refl refl refl refl

-- the form of a value of the cell's kind is what is written, where the buffer has room
pub write_is : (code : ℕ) (kind : FieldKind) (w : ℕ) (c : Content) (s buffer : List ℕ)
    → kind_of code w ≡ Some kind → is_blob kind ≡ false → of_kind c kind ≡ true → w ≤ length buffer
    → form_of w c ≡ bytes s
    → write_of code w c buffer ≡ (kept, s ++ drop w buffer)
unfolding put_form
write_is code kind w c s buffer k b u room f = sym (write_form code w c buffer kind k b u room) ∙ rw f

-- writing that is refused leaves the buffer as it was
pub refused_unchanged : (code w : ℕ) (c : Content) (buffer : List ℕ) (r : Refusal) (out : List ℕ)
    → write_of code w c buffer ≡ (Err r, out) → out ≡ buffer
refused_unchanged code w c buffer r out h =
    ⊎_elim
    (λ (r : Refused w c buffer (write_of code w c buffer)). ap (λ (a : Verdict × List ℕ). a.1) (sym h ∙ r.1))
    (λ (r : Written code w c buffer (write_of code w c buffer)).
    no_cell (ap (λ (a : Verdict × List ℕ). a.0) (sym h ∙ r.7)))
    (outcome code w c buffer)

-- what an answer without refusal tells
pub wrote : (code w : ℕ) (c : Content) (buffer out : List ℕ) → write_of code w c buffer ≡ (kept, out)
    → Written code w c buffer (kept, out)
wrote code w c buffer out h =
    ⊎_elim
    (λ (r : Refused w c buffer (write_of code w c buffer)).
    no_cell (ap (λ (a : Verdict × List ℕ). a.0) (sym r.1 ∙ h)))
    (λ (r : Written code w c buffer (write_of code w c buffer)). rw h at r)
    (outcome code w c buffer)

-- what an answer of 11 tells
pub meaningless_form : (code w : ℕ) (c : Content) (buffer out : List ℕ)
    → write_of code w c buffer ≡ (Err NoMeaning, out) → form_of w c ≡ none
meaningless_form code w c buffer out h =
    ⊎_elim
    (λ (r : Refused w c buffer (write_of code w c buffer)).
    r.2 (refused_alike (ap (λ (a : Verdict × List ℕ). a.0) (sym r.1 ∙ h))))
    (λ (r : Written code w c buffer (write_of code w c buffer)).
    no_cell (ap (λ (a : Verdict × List ℕ). a.0) (sym h ∙ r.7)))
    (outcome code w c buffer)

-- whatever the answer, what stands behind the width is as it was, and the buffer keeps its length
pub write_rest : (code w : ℕ) (c : Content) (buffer : List ℕ) (v : Verdict) (out : List ℕ)
    → write_of code w c buffer ≡ (v, out) → (drop w out ≡ drop w buffer) × (length out ≡ length buffer)
write_rest code w c buffer v out h =
    ⊎_elim
    (λ (r : Refused w c buffer (write_of code w c buffer)).
    let e : out ≡ buffer = ap (λ (a : Verdict × List ℕ). a.1) (sym h ∙ r.1) in
    rw e (refl, refl))
    (λ (r : Written code w c buffer (write_of code w c buffer)).
    let s = r.1 in
    let l = form_length w c s r.6 in
    let e : out ≡ s ++ drop w buffer = ap (λ (a : Verdict × List ℕ). a.1) (sym h ∙ r.7) in (
      ap (drop w) e ∙ drop_at s (drop w buffer) w l,
      ap length e ∙ length_front buffer s w (l ∙ sym (length-take-le w buffer r.5)),
    ))
    (outcome code w c buffer)

-- a value that is written reads as itself
pub write_then_read : (code w : ℕ) (c : Content) (buffer out : List ℕ) → Held c → write_of code w c buffer ≡ (kept, out)
    → (kind : FieldKind) × (kind_of code w ≡ Some kind) × (answer_of out (cell_at kind out 0 w) ≡ (0, c))
write_then_read code w c buffer out held h =
    let r = wrote code w c buffer out h in
    let kind = r.0 in
    let s = r.1 in
    let e : out ≡ s ++ drop w buffer = ap (λ (a : Verdict × List ℕ). a.1) r.7 in (
      kind,
      r.2,
      subst
          (λ (o : List ℕ). answer_of o (cell_at kind o 0 w) ≡ (0, c))
          (sym e)
          (form_reads kind w c s (drop w buffer) (kind_width code w kind r.2) r.3 held r.4 r.6),
    )

-- all that an answer without refusal leaves: the value reads back, and what stands behind it is as before
pub reads_back : (code w : ℕ) (c : Content) (buffer out : List ℕ) → Held c → write_of code w c buffer ≡ (kept, out)
    → ReadsBack code w c buffer out
reads_back code w c buffer out held h =
    let r = write_then_read code w c buffer out held h in
    let q = write_rest code w c buffer kept out h in
    record {
      kind = r.0;
      coded = r.1;
      room = (wrote code w c buffer out h).5;
      reads = r.2;
      rest = q.0;
      long = q.1;
    }

-- ---- a cell that is read is written as the same bytes

-- a blob cell has no value
not_blob : (kind : FieldKind) (s : List ℕ) (at w : ℕ) (v : Value) → value_at kind s at w ≡ Ok v → is_blob kind ≡ false
unfolding value_at is_blob
not_blob Kin.Text s at w v h = refl
not_blob Kin.Date s at w v h = refl
not_blob Kin.Short s at w v h = refl
not_blob Kin.Long s at w v h = refl
not_blob Kin.Number s at w v h = refl
not_blob Kin.Logical s at w v h = refl
not_blob Kin.Blob s at w v h = no_cell h

-- a cell that is read is of no blob, and is blank or has the value of its kind
pub read_as : (kind : FieldKind) (s : List ℕ) (at w : ℕ) (v : Value) → cell_at kind s at w ≡ Ok v
    → (is_blob kind ≡ false)
    × (((all_zero s at w ≡ true) × (v ≡ Val.Blank)) ⊎ ((all_zero s at w ≡ false) × (value_at kind s at w ≡ Ok v)))
unfolding cell_at
read_as kind s at w v h = go (is_blob kind) (all_zero s at w) refl refl h
  where
    go : (b z : Bool) → is_blob kind ≡ b → all_zero s at w ≡ z
        → cond (not b && z) (Ok Val.Blank) (value_at kind s at w) ≡ Ok v
        → (is_blob kind ≡ false)
        × (((all_zero s at w ≡ true) × (v ≡ Val.Blank)) ⊎ ((all_zero s at w ≡ false) × (value_at kind s at w ≡ Ok v)))
    go true z e f k = absurd (true≢false (sym e ∙ not_blob kind s at w v k))
    go false true e f k = (e, inl (f, cc))
    go false false e f k = (e, inr (f, k))

-- the law of doubles at a width known by an equation
number_wide : (w n : ℕ) → w ≡ 8 → n < 256 ^ w → finite (double_of w n) ≡ true
    → number_form w (double_of w n) ≡ bytes (digits w n)
number_wide w n e =
    subst
    (λ (k : ℕ). n < 256 ^ k → finite (double_of k n) ≡ true → number_form k (double_of k n) ≡ bytes (digits k n))
    (sym e)
    (number_form_lem n)

-- a value that is read has the bytes that it is read from as its form
module _ (s : List ℕ) (at w : ℕ) (b : Bytes s) (room : at + w ≤ length s) where
  whole : bytes (digits w (big s at w)) ≡ bytes (range s at w)
  whole = ap bytes (digits_big s at w b room)

  value_forms : (kind : FieldKind) (v : Value) → Permitted kind w → all_zero s at w ≡ false
      → value_at kind s at w ≡ Ok v
      → (of_kind (content_of s v) kind ≡ true) × (form_of w (content_of s v) ≡ bytes (range s at w))
  unfolding value_at Permitted of_kind form_of content_of
  value_forms Kin.Text v p z h =
      let q = read_text s at w (before_zero s at w) v h in
      let e : content_of s v ≡ text (range s at (before_zero s at w)) = ap (content_of s) q.0 ∙ text_part s at w room in
      rw e (refl, text_form_lem s at w room z q.1)
  value_forms Kin.Date v p z h =
      let q = read_date (signed_at s at w) v h in
      let e = subst (λ (k : ℕ). date_form k q.0 ≡ signed_form k (signed_at s at w)) (sym p) q.2 in
      rw q.1 (refl, e ∙ signed_form_lem w (omega arith) (big s at w) (some_number s at w z) (big_lt s at w b) ∙ whole)
  value_forms Kin.Short v p z h =
      let e : v ≡ Val.Short (signed_at s at w) = cc in
      rw e (refl, signed_form_lem w (omega arith) (big s at w) (some_number s at w z) (big_lt s at w b) ∙ whole)
  value_forms Kin.Long v p z h =
      let e : v ≡ Val.Long (signed_at s at w) = cc in
      rw e (refl, signed_form_lem w (omega arith) (big s at w) (some_number s at w z) (big_lt s at w b) ∙ whole)
  value_forms Kin.Number v p z h =
      let q = read_number (double_at s at w) v h in
      rw q.0 (refl, number_wide w (big s at w) p (big_lt s at w b) q.1 ∙ whole)
  value_forms Kin.Logical v p z h =
      let q = read_logical (big s at w) v h in
      rw q.1 (refl, ap (λ (n : ℕ). bytes (digits w n)) q.2 ∙ whole)
  value_forms Kin.Blob v p z h = no_cell h

-- a cell that is read is written as the same bytes
pub read_then_write : (code : ℕ) (kind : FieldKind) (w : ℕ) (s : List ℕ) (at : ℕ) (v : Value) (buffer : List ℕ)
    → kind_of code w ≡ Some kind → Bytes s → at + w ≤ length s → cell_at kind s at w ≡ Ok v → w ≤ length buffer
    → write_of code w (content_of s v) buffer ≡ (kept, range s at w ++ drop w buffer)
unfolding of_kind form_of content_of
read_then_write code kind w s at v buffer k b room h fit =
    let r = read_as kind s at w v h in
    ⊎_elim
    (λ (c : (all_zero s at w ≡ true) × (v ≡ Val.Blank)).
    rw c.1
    (write_is code kind w blank (range s at w) buffer k r.0 refl fit
    (ap bytes (sym (zero_range s at w room c.0)))))
    (λ (c : (all_zero s at w ≡ false) × (value_at kind s at w ≡ Ok v)).
    let f = value_forms s at w b room kind v (kind_width code w kind k) c.0 c.1 in
    write_is code kind w (content_of s v) (range s at w) buffer k r.0 f.0 fit f.1)
    r.1

-- ---- a double is one of the format

text_held : (b : Bool) (s : List ℕ) → Held (cond b (text s) nothing)
unfolding Held
text_held true s = tt
text_held false s = tt

-- what a program's value is known to be: its double is one of the format
pub good_held : (s : List ℕ) (v : Value) (vs : List Machine) → Owned (row the_type) v vs → Held (content_of s v)
unfolding Held content_of
good_held s Val.Blank vs g = tt
good_held s (Val.Short z) vs g = tt
good_held s (Val.Long z) vs g = tt
good_held s (Val.Date d) vs g = tt
good_held s (Val.Number x) vs g = g.1.1.1.1.0.1
good_held s (Val.Logical b) vs g = tt
good_held s (Val.Text start len) vs g = text_held (leb (start + len) (length s)) (range s start len)

value_held : (kind : FieldKind) (s : List ℕ) (at w : ℕ) (v : Value) → value_at kind s at w ≡ Ok v
    → Held (content_of s v)
unfolding Held value_at content_of
value_held Kin.Text s at w v h =
    rw (read_text s at w (before_zero s at w) v h).0
    (text_held (leb (at + before_zero s at w) (length s)) (range s at (before_zero s at w)))
value_held Kin.Date s at w v h = rw (read_date (signed_at s at w) v h).1 tt
value_held Kin.Short s at w v h = let e : v ≡ Val.Short (signed_at s at w) = cc in rw e tt
value_held Kin.Long s at w v h = let e : v ≡ Val.Long (signed_at s at w) = cc in rw e tt
value_held Kin.Number s at w v h =
    rw (read_number (double_at s at w) v h).0
    (double_fits w (big s at w))
value_held Kin.Logical s at w v h = rw (read_logical (big s at w) v h).1 tt
value_held Kin.Blob s at w v h = no_cell h

-- a value that is read is one that a program's value can be
pub read_held : (kind : FieldKind) (s : List ℕ) (at w : ℕ) (v : Value) → cell_at kind s at w ≡ Ok v
    → Held (content_of s v)
unfolding Held content_of
read_held kind s at w v h =
    ⊎_elim
    (λ (c : (all_zero s at w ≡ true) × (v ≡ Val.Blank)). rw c.1 tt)
    (λ (c : (all_zero s at w ≡ false) × (value_at kind s at w ≡ Ok v)). value_held kind s at w v c.1)
    (read_as kind s at w v h).1
