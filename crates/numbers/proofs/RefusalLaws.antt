-- Which numbers the calls in lent numbers answer, and what a refusal leaves: by the laws of what they call, behind 1 to
-- 7 and 14. Assumes nothing.
use Rattle.std.proofs.Common.{◌≡◌, ℕ, ◌*◌, true, ◌&&◌, leb, List, [], ◌∷◌, ◌++◌, length, get_or, refl}
use Rattle.std.specs.Prelude.{Option, Some, None, Result, Ok, Err}
use Rattle.words.specs.declared.part.Part.{Part}
use Rattle.words.proofs.Cases.{either}
use Rattle.header.specs.Refusals.{number, one_of, among, header_refusals}
use Rattle.header.specs.declared.refusal.Refusal.{Refusal}
use Rattle.header.specs.declared.refusal.Refusal.TheVariants.{BadArgument, ShortBuffer}
use Rattle.header.specs.Numbers.{numbers_of, field_of}
use Rattle.header.specs.Names.{name_in}
use Rattle.header.specs.declared.field.Field.{Field}
use Rattle.header.proofs.RefusalLaws.{one_of_more, among_back}
use Rattle.blocks.specs.Shape.{shape_of, has_block}
use Rattle.blocks.specs.declared.Shape.{Shape}
use Rattle.cell.specs.Values.{Cell}
use Rattle.cell.specs.Locating.{place_at, place_refusals}
use Rattle.cell.specs.Reading.{block_cell, cell_refusals}
use Rattle.cell.specs.Writing.{write_of, write_refusals}
use Rattle.cell.proofs.RefusalLaws.{place_holds, cell_holds, write_refusals_lem}
use Rattle.cursor.specs.Cursor.{Stepped, start_of, start_refusals, step_of, step_refusals}
use Rattle.cursor.specs.Rules.{Answered, refusing}
use Rattle.cursor.specs.declared.Cursor.{Cursor}
use Rattle.cursor.specs.declared.Step.{Step}
use Rattle.cursor.specs.declared.Step.TheVariants.{Record, End}
use Rattle.cursor.proofs.AnswerLaws.{start_answers, step_answers}
use Rattle.numbers.specs.Lent.{cleared, in_front, given, room_first, numbered, is_one, Refuses}
use Rattle.numbers.specs.Header.{header_list, header_count, header_numbers, named_field, field_given, field_count}
use Rattle.numbers.specs.Header.{stored_code, field_in, field_numbers}
use Rattle.numbers.specs.Cells.{cell_given, cell_count, cell_numbers, cells_list, record_place}
use Rattle.numbers.specs.Cells.{record_given, record_in, record_numbers}
use Rattle.numbers.specs.Cursor.{cursor_in, came, put_step, refusal_only, start_given, start_lent, step_given}
use Rattle.numbers.specs.Cursor.{step_lent}
use Rattle.numbers.specs.Given.{content_given, write_given}
use Rattle.numbers.proofs.LentLaws.{one_numbered, one_behind, among_numbered, room_holds}

-- ---- header, field, cell, record

-- what a call gives that answers numbers or one of some refusals
answered : (refusals : List Refusal) (lent : List ℕ) (a : Result (List ℕ) Refusal) → among refusals a ≡ true →
    Refuses refusals lent (given lent a)
unfolding given in_front cleared among is_one
answered refusals lent (Ok its) w = record { number_right = refl; zeros = λ h. absurd (h refl) }
answered refusals lent (Err r) w =
    record {
      number_right = one_behind (0 ∷ []) (numbered refusals) (number r) (one_numbered refusals r w);
      zeros = λ h. refl;
    }

-- a call with refusals of its own, behind 1 to 7 and 14
room_among : (own : List Refusal) (t : List ℕ) (room count : ℕ) (others : Result (List ℕ) Refusal) →
    among own others ≡ true → among (header_refusals ++ ShortBuffer ∷ own) (room_first t room count others) ≡ true
unfolding among
room_among own t room count others w =
    room_holds t room count others own
    (λ (a : Result (List ℕ) Refusal). among (header_refusals ++ ShortBuffer ∷ own) a ≡ true) (λ r v. v)
    (λ a. among_back others header_refusals (ShortBuffer ∷ own) (among_back others (ShortBuffer ∷ []) own w))

pub room_refuses : (own : List Refusal) (lent t : List ℕ) (count : ℕ) (others : Result (List ℕ) Refusal) →
    among own others ≡ true
    → Refuses (header_refusals ++ ShortBuffer ∷ own) lent (given lent (room_first t (length lent) count others))
room_refuses own lent t count others w =
    answered (header_refusals ++ ShortBuffer ∷ own) lent _ (room_among own t (length lent) count others w)

-- 1 to 7, 14
pub header_refuses : (t lent : List ℕ) → Refuses (header_refusals ++ ShortBuffer ∷ []) lent (header_numbers t lent)
unfolding header_numbers among
header_refuses t lent = room_refuses [] lent t header_count (Ok (header_list (numbers_of t))) refl

-- 13 for no such field, by the field and by its name
field_among : (t : List ℕ) (f code : ℕ) (d : Option Field) →
    among (BadArgument ∷ []) (field_given code d (name_in t (numbers_of t) f)) ≡ true
unfolding field_given named_field name_in among one_of number
field_among t f code None = refl
field_among t f code (Some d) =
    either (λ (name : Result Part Refusal). among (BadArgument ∷ []) (named_field code d name) ≡ true)
    (leb 1 f && leb f (numbers_of t).fields) _ _ refl refl

-- 1 to 7, 14, 13
pub field_refuses : (t : List ℕ) (f : ℕ) (lent : List ℕ) →
    Refuses (header_refusals ++ ShortBuffer ∷ BadArgument ∷ []) lent (field_numbers t f lent)
unfolding field_numbers
field_refuses t f lent =
    let h = numbers_of t in
    room_refuses (BadArgument ∷ []) lent t field_count (field_in t h f)
    (field_among t f (stored_code t h f) (field_of t h f))

-- 1 to 7, 14, 13, 9, 12, 11
pub cell_refuses : (t : List ℕ) (b p f : ℕ) (lent : List ℕ) →
    Refuses (header_refusals ++ ShortBuffer ∷ cell_refusals) lent (cell_numbers t b p f lent)
unfolding cell_numbers cell_given among
cell_refuses t b p f lent =
    room_refuses cell_refusals lent t cell_count (cell_given (block_cell t (numbers_of t) b p f))
    (cell_holds (λ (c : Cell). among cell_refusals (cell_given c) ≡ true) (λ v. refl) (λ r w. w) t (numbers_of t) b p f)

-- 1 to 7, 14, 13, 9
pub record_refuses : (t : List ℕ) (b p : ℕ) (lent : List ℕ) →
    Refuses (header_refusals ++ ShortBuffer ∷ place_refusals) lent (record_numbers t b p lent)
unfolding record_numbers record_place record_given among one_of number
record_refuses t b p lent =
    let h = numbers_of t in
    let g = shape_of h in
    let cells = cells_list t h b p h.fields in
    let Holds : Result ℕ Refusal → Type 0 = λ r. among place_refusals (record_given cells r) ≡ true in
    room_refuses place_refusals lent t (cell_count * h.fields) (record_in t h b p)
    (either Holds (has_block g b) (place_at t g b p 0) (Err BadArgument)
    (place_holds Holds (λ at. refl) (λ r w. w) t g b p 0) refl)

-- ---- writing: 13, 12, 14, 11

pub written_refusals : (code width what value : ℕ) (bytes buffer : List ℕ) →
    is_one (0 ∷ numbered write_refusals) (write_given code width what value bytes buffer).0 ≡ true
unfolding write_given
written_refusals code width what value bytes buffer =
    among_numbered write_refusals (write_of code width (content_given what value bytes) buffer).0
    (write_refusals_lem code width (content_given what value bytes) buffer)

-- ---- cursors: a record came, 0 at the end, or a refusal

abbrev Among : List Refusal → ℕ × List ℕ → Type 0
Among own answer = is_one (came ∷ 0 ∷ numbered (header_refusals ++ ShortBuffer ∷ own)) answer.0 ≡ true

module _ (own : List Refusal) where
  refusal_among : (r : Refusal) → one_of (header_refusals ++ ShortBuffer ∷ own) r ≡ true →
      is_one (came ∷ 0 ∷ numbered (header_refusals ++ ShortBuffer ∷ own)) (number r) ≡ true
  refusal_among r w =
      one_behind (came ∷ 0 ∷ []) (numbered (header_refusals ++ ShortBuffer ∷ own)) (number r)
      (one_numbered (header_refusals ++ ShortBuffer ∷ own) r w)

  -- a cursor's own answer, which has no 14
  module _ (t lent : List ℕ) (g : Shape) (back : Cursor) where
    start_among : (s : Stepped) → Answered (header_refusals ++ own) t g back s →
        Among own (start_given lent (refusal_only s))
    unfolding start_given put_step refusal_only cleared is_one
    start_among (Ok (Record c)) w = refl
    start_among (Ok (End c)) w = refl
    start_among (Err r) (refusing w) = refusal_among _ (one_of_more _ header_refusals (ShortBuffer ∷ []) own w)

    step_among : (s : Stepped) → Answered (header_refusals ++ own) t g back s →
        Among own (step_given lent (refusal_only s))
    unfolding step_given put_step refusal_only is_one
    step_among (Ok (Record c)) w = refl
    step_among (Ok (End c)) w = refl
    step_among (Err r) (refusing w) = refusal_among _ (one_of_more _ header_refusals (ShortBuffer ∷ []) own w)

-- 1 to 7, 14, 8, 9
pub started_refusals : (t lent : List ℕ) →
    is_one (came ∷ 0 ∷ numbered (header_refusals ++ ShortBuffer ∷ start_refusals)) (start_lent t lent).0 ≡ true
unfolding start_lent start_given cleared
started_refusals t lent =
    room_holds t (length lent) 1 (refusal_only (start_of t)) start_refusals
    (λ (a : Result Step Refusal). Among start_refusals (start_given lent a)) (refusal_among start_refusals)
    (λ a. start_among start_refusals t lent _ _ (start_of t) (start_answers t))

-- 1 to 7, 14, 13, 9, 8
pub stepped_refusals : (t lent : List ℕ) →
    is_one (came ∷ 0 ∷ numbered (header_refusals ++ ShortBuffer ∷ step_refusals)) (step_lent t lent).0 ≡ true
unfolding step_lent step_given
stepped_refusals t lent =
    let c = cursor_in (get_or lent 0 0) in
    room_holds t (length lent) 1 (refusal_only (step_of t c)) step_refusals
    (λ (a : Result Step Refusal). Among step_refusals (step_given lent a)) (refusal_among step_refusals)
    (λ a. step_among step_refusals t lent _ c (step_of t c) (step_answers t c))
