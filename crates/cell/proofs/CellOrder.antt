-- Request 03 of cells: two that read as values of one kind are ordered as these, by their bytes and by block, place and
-- field. Assumes nothing.
use Prim.Native.Nat.{ℕ, ◌+◌, ◌≤◌}
use mathlib.Core.Path.{◌≡◌, refl, sym, ap, ◌∙◌}
use mathlib.Core.Bool.{Bool, true, false, cond}
use mathlib.Core.List.{List}
use mathlib.Core.Logic.{inl, ⊎_elim}
use native.Mathlib.Omega.{arith}
use lib.IntN.{ℤ, pos, negsuc}
use lib.Ieee.Scale.{finite}
use lib.ListN.{length}
use Rattle.std.specs.Prelude.{Ok, Err}
use Rattle.header.specs.Refusals.{kept}
use Rattle.cell.specs.Values.{Cell}
use Rattle.words.specs.Numbers.{Bytes}
use Rattle.words.specs.Order.{NotLater, order, range}
use Rattle.words.specs.Zeros.{all_zero}
use Rattle.std.specs.declared.cmp.Ordering.TheVariants.{Less}
use Rattle.words.proofs.Cases.{apart}
use Rattle.words.proofs.NumberOrder.{not_later_number, number_earlier}
use Rattle.words.proofs.ZeroLaws.{zeros_number, some_number, number_zeros}
use Rattle.header.specs.Header.{header_refusal}
use Rattle.header.specs.Kinds.{is_blob, Permitted}
use Rattle.header.specs.Numbers.{field_is, numbers_of, field_of}
use Rattle.header.specs.declared.refusal.Refusal.TheVariants.{NoMeaning}
use Rattle.header.specs.declared.field.Field.{Field}
use Rattle.header.specs.declared.kind.FieldKind.{FieldKind}
use Rattle.header.specs.declared.kind.FieldKind.TheVariants as Kin
use Rattle.header.proofs.AcceptedLaws.{accepted}
use Rattle.cell.specs.Locating.{cell_start, field_width, cell_bytes, BothSteps}
use Rattle.cell.specs.Amounts.{Amount, none, blank, whole, double, amount_of, OrderedAs, unless_blank}
use Rattle.cell.specs.Amounts.{Compared, dates, shorts, longs, numbers}
use Rattle.cell.specs.Reading.{signed_at, double_at, is_date, date_cell, value_at, cell_at, cell_of, HasCell}
use Rattle.cell.specs.declared.value.Value.{Value}
use Rattle.cell.specs.declared.value.Value.TheVariants as Val
use Rattle.cell.proofs.Exits.{no_cell}
use Rattle.cell.proofs.BytesOrder.{wholes_ordered, doubles_ordered}
use Rattle.cell.proofs.AnswerLaws.{answer_tells}
use Rattle.cell.proofs.LocatingLaws.{field_found, located}
use Rattle.cell.proofs.ReadingLaws.{cell_blank, cell_value, steps_cell}
use Rattle.cell.proofs.Inverse.{read_number}
use Rattle.cell.proofs.RoundTrip.{read_as}

-- ---- the amount of a cell that reads as a value

-- that of bytes that are not all zero, by the kind
amount_at : FieldKind → List ℕ → ℕ → ℕ → Amount
amount_at Kin.Text s at w = none
amount_at Kin.Date s at w = whole (signed_at s at w)
amount_at Kin.Short s at w = whole (signed_at s at w)
amount_at Kin.Long s at w = whole (signed_at s at w)
amount_at Kin.Number s at w = double (double_at s at w)
amount_at Kin.Logical s at w = none
amount_at Kin.Blob s at w = none

-- a date is its number
date_amount : (z : ℤ) (v : Value) → date_cell z ≡ Ok v → amount_of v ≡ whole z
unfolding date_cell amount_of
date_amount (pos d) v h = go (is_date d) h
  where
    go : (b : Bool) → cond b (Ok (Val.Date d)) (Err NoMeaning) ≡ Ok v → amount_of v ≡ whole (pos d)
    go true k = let e : v ≡ Val.Date d = cc in rw e
    go false k = no_cell k
date_amount (negsuc d) v h = no_cell h

module _ (s : List ℕ) (at w : ℕ) (v : Value) where
  -- by the kind, where it is not blank
  value_amount : (kind : FieldKind) → Compared kind → value_at kind s at w ≡ Ok v → amount_of v ≡ amount_at kind s at w
  unfolding value_at amount_at amount_of
  value_amount kind dates h = date_amount (signed_at s at w) v h
  value_amount kind shorts h = let k : v ≡ Val.Short (signed_at s at w) = cc in rw k
  value_amount kind longs h = let k : v ≡ Val.Long (signed_at s at w) = cc in rw k
  value_amount kind numbers h = rw (read_number (double_at s at w) v h).0

  cell_amount : (kind : FieldKind) → Compared kind → cell_at kind s at w ≡ Ok v →
      amount_of v ≡ unless_blank s at w (amount_at kind s at w)
  unfolding amount_of
  cell_amount kind e h =
      ⊎_elim
      (λ (c : (all_zero s at w ≡ true) × (v ≡ Val.Blank)). rw (c.0, c.1))
      (λ (c : (all_zero s at w ≡ false) × (value_at kind s at w ≡ Ok v)). rw c.0 (value_amount kind e c.1))
      (read_as kind s at w v h).1

  -- a number cell that is not blank is finite
  number_finite : cell_at Kin.Number s at w ≡ Ok v → all_zero s at w ≡ false → finite (double_at s at w) ≡ true
  unfolding value_at
  number_finite h z = (read_number (double_at s at w) v (cell_value Kin.Number s at w z ∙ h)).1

-- ---- two cells of one kind

module _ (s t : List ℕ) (at to w : ℕ) (bytes : Bytes s) (others : Bytes t) (k : at + w ≤ length s)
    (l : to + w ≤ length t) (v u : Value) where
  amounts_ordered : (kind : FieldKind) → Compared kind → Permitted kind w →
      cell_at kind s at w ≡ Ok v → cell_at kind t to w ≡ Ok u →
      OrderedAs (unless_blank s at w (amount_at kind s at w)) (unless_blank t to w (amount_at kind t to w))
      (range s at w) (range t to w)
  unfolding Permitted amount_at
  amounts_ordered kind dates p h i = wholes_ordered s t at to bytes others w (omega arith) k l
  amounts_ordered kind shorts p h i = wholes_ordered s t at to bytes others w (omega arith) k l
  amounts_ordered kind longs p h i = wholes_ordered s t at to bytes others w (omega arith) k l
  amounts_ordered kind numbers p h i =
      rw p
      (doubles_ordered s t at to bytes others (omega arith) (omega arith) (rw p at (number_finite s at w v h))
      (rw p at (number_finite t to w u i)))

  pub cells_ordered : (kind : FieldKind) → Compared kind → Permitted kind w →
      cell_at kind s at w ≡ Ok v → cell_at kind t to w ≡ Ok u →
      OrderedAs (amount_of v) (amount_of u) (range s at w) (range t to w)
  cells_ordered kind e p h i =
      rw (cell_amount s at w v kind e h, cell_amount t to w u kind e i) (amounts_ordered kind e p h i)

-- ---- the blank

module _ (s t : List ℕ) (at to w : ℕ) (bytes : Bytes s) (others : Bytes t) (k : at + w ≤ length s)
    (l : to + w ≤ length t) where
  -- it comes before every cell of its width that is not blank, a refused one too
  pub blank_first : all_zero s at w ≡ true → all_zero t to w ≡ false → order (range s at w) (range t to w) ≡ Less
  blank_first z n =
      let e = zeros_number s at w z in
      let f = some_number t to w n in
      number_earlier s t at to w bytes others k l (omega arith)

  -- what is not later than a blank is blank
  pub blank_before : NotLater (range s at w) (range t to w) → all_zero t to w ≡ true → all_zero s at w ≡ true
  blank_before h z =
      let m = not_later_number s t at to w bytes others k l h in
      let e = zeros_number t to w z in
      number_zeros s at w (omega arith)

-- a kind that is compared is no blob's, and means no blank
plain_kind : (kind : FieldKind) → Compared kind → (s : List ℕ) (at w : ℕ) →
    (is_blob kind ≡ false) × (blank ≡ amount_at kind s at w → ⊥)
unfolding is_blob amount_at
plain_kind kind dates s at w = (refl, λ h. apart (cc h))
plain_kind kind shorts s at w = (refl, λ h. apart (cc h))
plain_kind kind longs s at w = (refl, λ h. apart (cc h))
plain_kind kind numbers s at w = (refl, λ h. apart (cc h))

-- so its cells are blank exactly where their bytes are all zero
module _ (kind : FieldKind) (c : Compared kind) (s : List ℕ) (at w : ℕ) where
  pub blank_zeros : cell_at kind s at w ≡ Ok Val.Blank → all_zero s at w ≡ true
  unfolding amount_of
  blank_zeros h =
      ⊎_elim
      (λ (z : (all_zero s at w ≡ true) × (Val.Blank ≡ Val.Blank)). z.0)
      (λ (z : (all_zero s at w ≡ false) × (value_at kind s at w ≡ Ok Val.Blank)).
      absurd ((plain_kind kind c s at w).1 (value_amount s at w Val.Blank kind c z.1)))
      (read_as kind s at w Val.Blank h).1

  pub zeros_blank : all_zero s at w ≡ true → cell_at kind s at w ≡ Ok Val.Blank
  zeros_blank z = sym (cell_blank kind s at w (plain_kind kind c s at w).0 z)

-- ---- by block, place and field

-- the cell at a block, a place and a field is inside the table, as wide as its kind permits, and its bytes mean this
abbrev pub BytesMean : List ℕ → ℕ → ℕ → ℕ → FieldKind → Cell → Type 0
BytesMean t b p f kind c =
    (cell_start t b p f + field_width t f ≤ length t) × Permitted kind (field_width t f)
    × (cell_at kind t (cell_start t b p f) (field_width t f) ≡ c)

module _ (t : List ℕ) (b p f : ℕ) where
  -- where both steps find it, they mean what reading it answers
  pub cell_there : header_refusal t ≡ kept → (kind : FieldKind) (width at : ℕ) →
      BothSteps t (numbers_of t) b p f kind width at → BytesMean t b p f kind (cell_of t b p f)
  cell_there right kind width at c =
      let i = located t (numbers_of t) (accepted t right) b f kind width c.offset c.field p at c.place in
      rw (← i.begins, ← i.wide) (i.inside, i.permitted, steps_cell t b p f right kind width at c)

  -- a cell that reads as a value is of its field's kind
  pub value_there : (kind : FieldKind) (width offset : ℕ) → field_of t (numbers_of t) f ≡ field_is kind width offset →
      (v : Value) → cell_of t b p f ≡ Ok v → BytesMean t b p f kind (Ok v)
  value_there kind width offset d v e = let r = answer_tells t b p f (inl (v, e)) in go r.0 r.1
    where
      same : (other : FieldKind) (wide behind : ℕ) → field_is other wide behind ≡ field_is kind width offset
          → other ≡ kind
      same other wide behind i =
          let j : ◌≡◌ {A = Field} (record { kind = other; width = wide; offset = behind })
          (record { kind = kind; width = width; offset = offset }) = cc in
          ap (λ (d : Field). d.kind) j

      go : header_refusal t ≡ kept → HasCell t (numbers_of t) b p f → BytesMean t b p f kind (Ok v)
      go right c =
          let s = c.steps in
          let i = (field_found t (numbers_of t) b f c.kind c.width s.offset s.field).1 in
          rw (← same c.kind c.width s.offset (sym i ∙ d), ← e)
          (cell_there right c.kind c.width c.at s)

-- the kinds that are compared have one width each
one_width : (kind : FieldKind) (v w : ℕ) → Compared kind → Permitted kind v → Permitted kind w → v ≡ w
unfolding Permitted
one_width kind v w dates p q = p ∙ sym q
one_width kind v w shorts p q = p ∙ sym q
one_width kind v w longs p q = p ∙ sym q
one_width kind v w numbers p q = p ∙ sym q

-- two cells, of one table or of two, whose fields are of one kind
module _ (t u : List ℕ) (bytes : Bytes t) (others : Bytes u) (kind : FieldKind) (c : Compared kind) where
  pub read_ordered : (b p f width offset : ℕ) → field_of t (numbers_of t) f ≡ field_is kind width offset →
      (block place field wide behind : ℕ) → field_of u (numbers_of u) field ≡ field_is kind wide behind →
      (v w : Value) → cell_of t b p f ≡ Ok v → cell_of u block place field ≡ Ok w →
      OrderedAs (amount_of v) (amount_of w) (cell_bytes t b p f) (cell_bytes u block place field)
  read_ordered b p f width offset d block place field wide behind e v w h i =
      let x = value_there t b p f kind width offset d v h in
      let y = value_there u block place field kind wide behind e w i in
      let z : field_width u field ≡ field_width t f = one_width kind _ _ c y.1 x.1 in
      rw z
      (cells_ordered t u (cell_start t b p f) (cell_start u block place field) (field_width t f) bytes others x.0
      (rw z at y.0) v w kind c x.1 x.2 (rw z at y.2))
