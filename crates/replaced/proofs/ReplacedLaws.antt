-- A cell replaced in its table: what was written is apart from the header, from every block's head, from every other
-- cell and, where the field is no key field, from every key; so all of these are as before, and the cell reads as the
-- value. Assumes nothing.
use Prim.Native.Nat.{ℕ, zero, suc, ◌+◌, ◌≤◌, ◌<◌}
use mathlib.Core.Path.{◌≡◌, refl, sym, ap, ◌∙◌}
use mathlib.Core.Bool.{false, true≢false}
use mathlib.Core.List.{List}
use mathlib.Core.Logic.{◌⊎◌, inl, inr, ⊎_elim}
use native.Mathlib.Nat.{zero-add}
use native.Mathlib.Omega.{arith}
use lib.ListN.{length, take}
use lib.Seq.{length-take-le, get_or-take}
use Rattle.std.specs.Prelude.{Some}
use Rattle.words.specs.Numbers.{byte}
use Rattle.words.specs.Order.{range}
use Rattle.words.specs.Replace.{replace_at}
use Rattle.words.proofs.ReplaceLaws.{replace_length, replace_inside, replace_byte, replace_apart}
use Rattle.words.proofs.Ranges.{range_byte}
use Rattle.words.proofs.SameLaws.{same_byte}
use Rattle.header.specs.Header.{block_head, header_refusal}
use Rattle.header.specs.Refusals.{kept}
use Rattle.header.specs.Kinds.{kind_of, is_blob}
use Rattle.header.specs.Numbers.{field_is, numbers_of}
use Rattle.header.specs.Rules.{Accepted}
use Rattle.header.specs.declared.Header.{Header}
use Rattle.header.specs.declared.field.Field.{Field}
use Rattle.header.specs.declared.kind.FieldKind.{FieldKind}
use Rattle.header.specs.declared.kind.FieldKind.TheVariants as Kin
use Rattle.header.proofs.AcceptedLaws.{accepted}
use Rattle.header.proofs.SameLaws.{rules_kept, numbers_same, field_same, answer_same}
use Rattle.blocks.specs.Shape.{shape_of, block_at, record_at}
use Rattle.blocks.specs.Counts.{count_in, last_record}
use Rattle.blocks.proofs.SameLaws.{count_same}
use Rattle.cell.specs.Values.{Content, answer_of}
use Rattle.cell.specs.Locating.{field_code, field_width, cell_start, BothSteps, Located, SamePlaces}
use Rattle.cell.specs.Reading.{cell_at, cell_of, read_of, ByBytes, HasCell}
use Rattle.cell.specs.Writing.{ReadsBack}
use Rattle.cell.proofs.LocatingLaws.{located}
use Rattle.cell.proofs.ReadingLaws.{steps_cell}
use Rattle.cell.proofs.SameLaws.{both_same, cell_of_same, read_same}
use Rattle.cell.proofs.ApartLaws.{header_apart, head_apart, key_apart, cells_apart}
use Rattle.cell.proofs.AnswerLaws.{answer_tells}
use Rattle.cell.proofs.TableRoundTrip.{cell_same}
use Rattle.blob.specs.Blob.{blob_of, blob_bytes}
use Rattle.blob.proofs.SameLaws.{blob_same}
use Rattle.chain.specs.Links.{previous_word, SameLinks}
use Rattle.chain.proofs.SameLaws.{next_same, previous_same, links_same}
use Rattle.table.specs.Table.{table_answer, table_marks}
use Rattle.table.specs.Same.{SameCounts, SameKeys}
use Rattle.table.proofs.SameLaws.{table_marks_same, table_answer_same}
use Rattle.replaced.specs.Replaced.{with_cell, Other, Replaced}

-- a kind that is no blob's is not Blob
no_blob : (kind : FieldKind) → kind ≡ Kin.Blob → is_blob kind ≡ false → ⊥
unfolding is_blob
no_blob kind e plain = true≢false (rw e at plain)

-- ---- a located cell of a table that keeps rules 1 to 7, and as many other bytes in its place

module _ (t : List ℕ) (b p f : ℕ) (kind : FieldKind) (width at : ℕ) (right : header_refusal t ≡ kept)
    (here : BothSteps t (numbers_of t) b p f kind width at) (s : List ℕ) (wide : length s ≡ width) where
  abbrev h : Header
  h = numbers_of t

  its : Accepted t h
  its = accepted t right

  place : Located t h b p f kind width at
  place = located t h its b f kind width here.offset here.field p at here.place

  fits : at + length s ≤ length t
  fits = omega (arith, place.inside, wide)

  abbrev u : List ℕ
  u = replace_at t at s

  -- what is apart from the cell is as before
  same_apart : (from n : ℕ) → (from + n ≤ at) ⊎ (at + width ≤ from) → range u from n ≡ range t from n
  same_apart from n away =
      replace_apart t at s fits from n (⊎_elim inl (λ l. inr (omega (arith, wide, l))) away)

  -- ---- the header

  front : (i : ℕ) → i < h.header_size → byte u i ≡ byte t i
  front i l =
      replace_byte t at s fits i (omega (arith, header_apart t h its b p f kind width at here))

  front_range : range u 0 h.header_size ≡ range t 0 h.header_size
  front_range =
      same_apart 0 h.header_size (inl (omega (arith, header_apart t h its b p f kind width at here)))

  long : length u ≡ length t
  long = replace_length t at s fits

  also : header_refusal u ≡ kept
  also = rules_kept t u right long front

  numbers : numbers_of u ≡ h
  numbers = numbers_same t u right long front

  -- ---- the heads of the blocks

  heads : (block : ℕ) → 1 ≤ block →
      range u (block_at (shape_of h) block) block_head ≡ range t (block_at (shape_of h) block) block_head
  heads block low =
      same_apart (block_at (shape_of h) block) block_head (head_apart t h its b p f kind width at here block low)

  -- block 0, which is none, would begin where block 1 does
  head_byte : (block i : ℕ) → i < block_head →
      byte u (block_at (shape_of h) block + i) ≡ byte t (block_at (shape_of h) block + i)
  head_byte zero i l =
      same_byte u t (block_at (shape_of h) 1) (block_at (shape_of h) 1) block_head (heads 1 (omega arith)) i l
  head_byte (suc block) i l =
      same_byte u t (block_at (shape_of h) (suc block)) (block_at (shape_of h) (suc block)) block_head
      (heads (suc block) (omega arith)) i l

  word_byte : (block from i : ℕ) → from + i < block_head →
      byte u (block_at (shape_of h) block + from + i) ≡ byte t (block_at (shape_of h) block + from + i)
  word_byte block from i l =
      let e : block_at (shape_of h) block + from + i ≡ block_at (shape_of h) block + (from + i) = omega arith in
      rw e (head_byte block (from + i) l)

  counted : (block : ℕ) → count_in u (shape_of h) block ≡ count_in t (shape_of h) block
  counted block = count_same t u (shape_of h) block (λ i l. word_byte block last_record i (omega arith))

  links : SameLinks t h u h
  links =
      record {
        blocks = refl;
        next = λ block. next_same t u (shape_of h) block (λ i l. head_byte block i (omega arith));
        previous = λ block. previous_same t u (shape_of h) block (λ i l. word_byte block previous_word i (omega arith));
        first = refl;
        last = refl;
        free = refl;
      }

  -- ---- the cells

  places : SamePlaces t h u h
  places =
      record {
        shape = refl;
        fields = field_same t u right long front;
        counts = λ block low high. counted block;
      }

  -- the same of the files' own numbers
  places_now : SamePlaces t h u (numbers_of u)
  places_now = rw numbers places

  links_now : SameLinks t h u (numbers_of u)
  links_now = rw numbers links

  others : (block place field : ℕ) → Other b p f block place field → (other : FieldKind) (w to : ℕ) →
      BothSteps t h block place field other w to → range u to w ≡ range t to w
  others block place field different other w to there =
      same_apart to w
      (⊎_elim inr inl (cells_apart t h its b p f kind width at here block place field other w to there different))

  cells : (block place field : ℕ) → Other b p f block place field →
      (cell_of u block place field ≡ cell_of t block place field)
      × (read_of u block place field ≡ read_of t block place field)
  cells block place field different =
      let same = others block place field different in (
        cell_of_same t u right also places_now block place field same,
        read_same t u right also places_now block place field same,
      )

  -- a blob is another cell, as this one is none
  blobs : is_blob kind ≡ false → (mb : List ℕ) (block place field : ℕ) →
      (blob_of u mb block place field ≡ blob_of t mb block place field)
      × (blob_bytes u mb (blob_of u mb block place field) ≡ blob_bytes t mb (blob_of t mb block place field))
  blobs plain mb block place field =
      blob_same t u right also places_now mb block place field (λ w to there. others block place field
      (λ x y z. apart_kinds x z there) Kin.Blob w to there)
    where
      apart_kinds : {w to : ℕ} → b ≡ block → f ≡ field → BothSteps t h block place field Kin.Blob w to → ⊥
      apart_kinds {w} x z there =
          let e : field_is kind width here.offset ≡ field_is Kin.Blob w there.offset =
          sym here.field ∙ rw (x, z) there.field in
          let d : ◌≡◌ {A = Field} (record { kind = kind; width = width; offset = here.offset })
          (record { kind = Kin.Blob; width = w; offset = there.offset }) = cc in
          no_blob kind (ap (λ (a : Field). a.kind) d) plain

  -- ---- the table check

  counts_now : SameCounts t h u (numbers_of u)
  counts_now = rw numbers (record { count = counted; records = refl })

  key_there : h.key_fields < f → (block n i : ℕ) → count_in t (shape_of h) block ≡ Some n → i < n →
      range u (record_at (shape_of h) block i) h.key_length
      ≡ range t (record_at (shape_of h) block i) h.key_length
  unfolding count_in
  key_there behind zero n i e l =
      same_apart (record_at (shape_of h) 1 i) h.key_length
      (key_apart t h its b p f kind width at here behind 1 i n (omega arith) e l)
  key_there behind (suc block) n i e l =
      same_apart (record_at (shape_of h) (suc block) i) h.key_length
      (key_apart t h its b p f kind width at here behind (suc block) i n (omega arith) e l)

  keys : h.key_fields < f → SameKeys t h u h
  keys behind = record { fields = refl; keys = key_there behind }

  marks : (m : List ℕ) → table_marks u m ≡ table_marks t m
  marks = table_marks_same t u right also links_now

  check : h.key_fields < f → (room : ℕ) → table_answer u room ≡ table_answer t room
  check behind = table_answer_same t u right also links_now counts_now (rw numbers (keys behind))

  -- the cell means what its new bytes mean, wherever they stand
  means : (after : List ℕ) → width ≤ length after → s ≡ take width after →
      read_of u b p f ≡ answer_of after (cell_at kind after 0 width)
  unfolding read_of
  means after room e =
      let now = both_same places_now b p f kind width at here in
      let inside : at + width ≤ length u = omega (arith, place.inside, long) in
      let part : range u at width ≡ s = rw (← wide) (replace_inside t at s fits) in
      let new : (i : ℕ) → i < width → byte u (at + i) ≡ byte after (0 + i) = λ i l.
      sym (range_byte u at width i l)
      ∙ ap (λ (r : List ℕ). byte r i) (part ∙ e)
      ∙ get_or-take width after i 0 l
      ∙ ap (byte after) (sym (zero-add i)) in
      ap (answer_of u) (sym (steps_cell u b p f also kind width at now))
      ∙ cell_same u after at 0 width inside (omega arith) new kind

-- ---- with the bytes of a value that was written

module _ (t : List ℕ) (b p f : ℕ) (right : header_refusal t ≡ kept) (there : HasCell t (numbers_of t) b p f) (code : ℕ)
    (coded : kind_of code there.width ≡ Some there.kind) (value : Content) (before after : List ℕ)
    (wrote : ReadsBack code there.width value before after) where
  abbrev now : List ℕ
  now = with_cell t there.at there.width after

  room : there.width ≤ length after
  room = omega (arith, wrote.room, wrote.long)

  wide : length (take there.width after) ≡ there.width
  wide = length-take-le there.width after room

  -- a value written for a code and width of the cell's kind
  pub cell_replaced : Replaced t b p f value now
  cell_replaced =
      let kind = there.kind in
      let width = there.width in
      let at = there.at in
      let here = there.steps in
      let s = take width after in
      let same : wrote.kind ≡ kind = let c = wrote.coded in cc in
      let reads : answer_of after (cell_at kind after 0 width) ≡ (0, value) = rw same at wrote.reads in
      record {
        long = long t b p f kind width at right here s wide;
        front = front_range t b p f kind width at right here s wide;
        header = answer_same t now right (long t b p f kind width at right here s wide)
            (front t b p f kind width at right here s wide);
        heads = heads t b p f kind width at right here s wide;
        links = links_same t (numbers_of t) now (numbers_of now) (links_now t b p f kind width at right here s wide);
        counts = (counts_now t b p f kind width at right here s wide).count;
        cell = means t b p f kind width at right here s wide after room refl ∙ reads;
        others = cells t b p f kind width at right here s wide;
        blobs = blobs t b p f kind width at right here s wide there.no_blob;
        marks = marks t b p f kind width at right here s wide;
        check = check t b p f kind width at right here s wide;
      }

-- by what the calls answer and promise: reading the cell answers a value or 11, and a value that was written by the
-- field's own code and width reads back, as writing promises where it does not refuse
pub replaced_by_answers : (t : List ℕ) (b p f : ℕ) → ByBytes (cell_of t b p f)
    → (value : Content) (before after : List ℕ)
    → ReadsBack (field_code t f) (field_width t f) value before after
    → Replaced t b p f value (with_cell t (cell_start t b p f) (field_width t f) after)
replaced_by_answers t b p f answer value before after =
    let told = answer_tells t b p f answer in
    let there = told.1 in
    let l = located t (numbers_of t) (accepted t told.0) b f there.kind there.width there.steps.offset
    there.steps.field p there.at there.steps.place in
    let code = field_code t f in
    rw (← l.wide, ← l.begins) (cell_replaced t b p f told.0 there code l.stored value before after)
