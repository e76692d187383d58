-- A record came, by the answer's number: then a cursor on a record is in front, and comes back from its number. By
-- this: that number is no refusal's. Assumes nothing.
use Rattle.std.proofs.Common.{◌≡◌, ℕ, ◌<◌, List, [], ◌++◌, length, get_or, refl, arith}
use Rattle.std.specs.Prelude.{Result, Ok, Err}
use Rattle.header.specs.Refusals.{header_refusals}
use Rattle.header.specs.declared.refusal.Refusal.{Refusal}
use Rattle.header.specs.Numbers.{numbers_of}
use Rattle.header.specs.Rules.{Accepted}
use Rattle.blocks.specs.Shape.{shape_of}
use Rattle.blocks.proofs.ShapeLaws.{shape_blocks, sound}
use Rattle.blocks.proofs.CountLaws.{count_few}
use Rattle.cursor.specs.Cursor.{Stepped, at_end, start_of, start_refusals, step_of, step_refusals}
use Rattle.cursor.specs.Rules.{OnRecord, Answered, found}
use Rattle.cursor.specs.declared.Cursor.{Cursor}
use Rattle.cursor.specs.declared.Step.{Step}
use Rattle.cursor.specs.declared.Step.TheVariants.{Record, End}
use Rattle.cursor.proofs.AnswerLaws.{start_answers, step_answers}
use Rattle.numbers.specs.Lent.{cleared}
use Rattle.numbers.specs.Cursor.{cursor_in, came, with_cursor, put_step, refusal_only, start_given, start_lent}
use Rattle.numbers.specs.Cursor.{step_given, step_lent}
use Rattle.numbers.proofs.LentLaws.{number_small, room_holds}
use Rattle.numbers.proofs.CursorLaws.{cursor_back}

-- ---- a record came

-- a cursor on a record is in front, comes back from its number, and the numbers behind it are as they were lent
pub record InFront (t lent numbers : List ℕ) : Type 0 where
  pub cursor : Cursor
  pub on_record : OnRecord t (shape_of (numbers_of t)) cursor
  pub after : numbers ≡ with_cursor lent cursor
  pub back : cursor_in (get_or numbers 0 0) ≡ cursor

abbrev CameOn : List ℕ → List ℕ → ℕ × List ℕ → Type 0
CameOn t lent answer = answer.0 ≡ came → InFront t lent answer.1

module _ (t lent : List ℕ) (a : Accepted t (numbers_of t)) where
  -- a cursor on a record has 16 bits a part
  place_few : (c : Cursor) → OnRecord t (shape_of (numbers_of t)) c → c.place < 65536
  unfolding shape_of
  place_few c o =
      let h = numbers_of t in
      let few = count_few t (shape_of h) (sound t h a) c.block o.count o.counted in
      omega (arith, few, o.there, a.block_most)

  in_front_lem : (c : Cursor) → OnRecord t (shape_of (numbers_of t)) c → InFront t lent (with_cursor lent c)
  in_front_lem c o =
      let e = shape_blocks (numbers_of t) in
      record {
        cursor = c;
        on_record = o;
        after = refl;
        back =
            cursor_back c (omega (arith, a.blocks_most, o.high)) (place_few c o)
            (omega (arith, a.blocks_most, o.few_moves));
      }

  -- no refusal's number says that a record came
  start_came : (s : Stepped) → Answered (header_refusals ++ start_refusals) t (shape_of (numbers_of t)) at_end s →
      CameOn t lent (start_given lent (refusal_only s))
  unfolding start_given put_step refusal_only cleared
  start_came (Ok (Record c)) (found o) e = in_front_lem c o
  start_came (Ok (End c)) w e = absurd (omega arith)
  start_came (Err r) w e = absurd (omega (arith, e, number_small r.refusal))

  step_came : (back : Cursor) (s : Stepped)
      → Answered (header_refusals ++ step_refusals) t (shape_of (numbers_of t)) back s
      → CameOn t lent (step_given lent (refusal_only s))
  unfolding step_given put_step refusal_only
  step_came back (Ok (Record c)) (found o) e = in_front_lem c o
  step_came back (Ok (End c)) w e = absurd (omega arith)
  step_came back (Err r) w e = absurd (omega (arith, e, number_small r.refusal))

pub start_stands : (t lent : List ℕ) → (start_lent t lent).0 ≡ came → InFront t lent (start_lent t lent).1
unfolding start_lent start_given cleared
start_stands t lent =
    room_holds t (length lent) 1 (refusal_only (start_of t)) []
    (λ (a : Result Step Refusal). CameOn t lent (start_given lent a))
    (λ r w e. absurd (omega (arith, e, number_small r)))
    (λ a. start_came t lent a (start_of t) (start_answers t))

pub step_stands : (t lent : List ℕ) → (step_lent t lent).0 ≡ came → InFront t lent (step_lent t lent).1
unfolding step_lent step_given
step_stands t lent =
    let c = cursor_in (get_or lent 0 0) in
    room_holds t (length lent) 1 (refusal_only (step_of t c)) []
    (λ (a : Result Step Refusal). CameOn t lent (step_given lent a))
    (λ r w e. absurd (omega (arith, e, number_small r)))
    (λ a. step_came t lent a c (step_of t c) (step_answers t c))
