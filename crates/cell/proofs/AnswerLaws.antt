-- What an answer tells: reading gives a value or 11 exactly where the table keeps rules 1 to 7 and has the cell at that
-- block, place and field, and it is no blob's; a refusal hands out nothing. Assumes nothing.
use Prim.Native.Nat.{ℕ}
use mathlib.Core.Path.{◌≡◌, refl, sym, ap, ◌∙◌}
use mathlib.Core.Bool.{Bool, true, false, true≢false}
use mathlib.Core.List.{List, []}
use mathlib.Core.Logic.{inl, inr, ⊎_elim}
use Rattle.std.specs.Prelude.{Option, Some, None, Result, Ok, Err}
use Rattle.words.proofs.Cases.{apart}
use Rattle.header.specs.Refusals.{kept, number, one_of, header_refusals}
use Rattle.header.specs.declared.refusal.Refusal.{Refusal}
use Rattle.header.specs.declared.refusal.Refusal.TheVariants.{NoMeaning, BlobCell, BadArgument}
use Rattle.header.specs.Kinds.{is_blob}
use Rattle.header.specs.Header.{header_refusal}
use Rattle.header.specs.Numbers.{numbers_of}
use Rattle.header.specs.declared.Header.{Header}
use Rattle.header.specs.declared.kind.FieldKind.{FieldKind}
use Rattle.header.specs.declared.field.Field.{Field}
use Rattle.header.proofs.AcceptedLaws.{first_only}
use Rattle.header.proofs.RefusalLaws.{one_of_not}
use Rattle.blocks.specs.Shape.{shape_of}
use Rattle.cell.specs.Values.{Cell, nothing, answer_of, text_of}
use Rattle.cell.specs.Locating.{field_at, place_at, place_refusals, BothSteps}
use Rattle.cell.specs.Reading.{cell_at, place_cell, field_cell, block_cell, cell_of, read_of, ByBytes}
use Rattle.cell.specs.Reading.{HasCell}
use Rattle.cell.proofs.Exits.{no_cell, refused_alike}
use Rattle.cell.proofs.ReadingLaws.{cell_blob, block_cell_lem, cell_accepted}
use Rattle.cell.proofs.RefusalLaws.{place_holds, cell_at_holds}

-- another refusal is no answer by the bytes
not_bytes : {X : Type 0} (r : Refusal) → (r ≡ NoMeaning → ⊥) → ByBytes (Err r) → X
not_bytes r other answer = ⊎_elim (λ e. no_cell e.1) (λ e. absurd (other (refused_alike e))) answer

-- ---- behind 1 to 7

module _ (t : List ℕ) (h : Header) (b p f : ℕ) where
  by_kind : (kind : FieldKind) (width at : ℕ) → BothSteps t h b p f kind width at → (k : Bool) → is_blob kind ≡ k
      → ByBytes (cell_at kind t at width) → HasCell t h b p f
  by_kind kind width at c false k answer =
      record { kind = kind; width = width; at = at; steps = c; no_blob = k }
  by_kind kind width at c true k answer =
      not_bytes BlobCell (λ e. apart (cc e)) (rw (← cell_blob kind t at width k) at answer)

  by_field : (d : Option Field) → field_at t h b f ≡ d → ByBytes (field_cell t (shape_of h) b p d) → HasCell t h b p f
  unfolding field_cell place_cell one_of number
  by_field None e answer = not_bytes BadArgument (λ e. apart (cc e)) answer
  by_field (Some d) e answer =
      place_holds
      (λ (a : Result ℕ Refusal). place_at t (shape_of h) b p d.offset ≡ a → ByBytes (place_cell t d.kind d.width a)
      → HasCell t h b p f)
      (λ at q. by_kind d.kind d.width at (record { offset = d.offset; field = e; place = q }) (is_blob d.kind) refl)
      (λ r w q. not_bytes r (one_of_not r place_refusals NoMeaning w refl)) t (shape_of h) b p d.offset refl answer

  pub block_tells : ByBytes (block_cell t h b p f) → HasCell t h b p f
  unfolding block_cell
  block_tells answer = by_field (field_at t h b f) refl answer

  pub block_answers : HasCell t h b p f → ByBytes (block_cell t h b p f)
  block_answers c =
      let s = c.steps in
      rw (← block_cell_lem t h b p f c.kind c.width s.offset s.field c.at s.place)
      (cell_at_holds ByBytes (λ v. inl (v, refl)) (inr refl) c.kind
      (λ e. absurd (true≢false (sym e ∙ c.no_blob))) t c.at c.width)

-- ---- of the call

module _ (t : List ℕ) (b p f : ℕ) where
  -- a value or 11 tells that the table keeps rules 1 to 7, and has the cell
  pub answer_tells : ByBytes (cell_of t b p f) → (header_refusal t ≡ kept) × HasCell t (numbers_of t) b p f
  unfolding cell_of one_of header_refusals number
  answer_tells answer =
      let others = block_cell t (numbers_of t) b p f in
      ⊎_elim
      (λ e.
      let k = first_only t Err others (Ok e.0) (λ r w q. no_cell q) e.1 in
      (k.0, block_tells t (numbers_of t) b p f (inl (e.0, k.1))))
      (λ e.
      let k = first_only t Err others (Err NoMeaning)
      (λ r w q. one_of_not r header_refusals NoMeaning w refl (refused_alike q)) e in
      (k.0, block_tells t (numbers_of t) b p f (inr k.1)))
      answer

  -- where it does, the answer is a value or 11
  pub cell_answers : header_refusal t ≡ kept → HasCell t (numbers_of t) b p f → ByBytes (cell_of t b p f)
  cell_answers right c = rw (← cell_accepted t b p f right) (block_answers t (numbers_of t) b p f c)

-- ---- a refusal hands out no cell: neither a value nor a text

refused_content : (s : List ℕ) (c : Cell) → ((answer_of s c).0 ≡ 0 → ⊥) → (answer_of s c).1 ≡ nothing
unfolding answer_of
refused_content s (Ok v) h = absurd (h refl)
refused_content s (Err r) h = refl

pub refused_no_cell : (t : List ℕ) (b p f : ℕ) → ((read_of t b p f).0 ≡ 0 → ⊥) →
    ((read_of t b p f).1 ≡ nothing) × (text_of (read_of t b p f).1 ≡ [])
unfolding read_of text_of
refused_no_cell t b p f h =
    let e = refused_content t (cell_of t b p f) h in
    (e, ap text_of e)
