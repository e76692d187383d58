-- Stepping ends, on any bytes and from any cursor: a record comes at a later place of its block or after more moves,
-- and there are no more places than a block has bytes, and fewer moves than blocks. Assumes nothing.
use Prim.Native.Nat.{ℕ, zero, suc, ◌-◌, ◌≤◌, ◌<◌}
use mathlib.Core.Path.{◌≡◌, refl}
use mathlib.Core.List.{List}
use Rattle.std.specs.Prelude.{Ok, Err}
use native.Mathlib.Omega.{arith}
use Rattle.header.specs.Numbers.{numbers_of}
use Rattle.header.specs.declared.refusal.Refusal.{Refusal}
use Rattle.header.proofs.AcceptedLaws.{first_holds}
use Rattle.blocks.specs.Shape.{shape_of, Sound}
use Rattle.blocks.specs.declared.Shape.{Shape}
use Rattle.blocks.proofs.ShapeLaws.{sound}
use Rattle.blocks.proofs.CountLaws.{count_few}
use Rattle.cursor.specs.Cursor.{Stepped, refused, at_end, start_of, step_of, start_in}
use Rattle.cursor.specs.Rules.{OnRecord, Answered, found, After, next_place, more_moves, Ends, by_end, by_refusal}
use Rattle.cursor.specs.Rules.{later}
use Rattle.cursor.specs.declared.Cursor.{Cursor}
use Rattle.cursor.specs.declared.Step.TheVariants.{Record, End}
use Rattle.cursor.proofs.AnswerLaws.{start_answers, step_answers, step_after}

module _ (t : List ℕ) where
  abbrev g : Shape
  g = shape_of (numbers_of t)

  -- an answer ends where every record that it may be does
  answer_ends : {refusals : List Refusal} (back : Cursor) (s : Stepped) → Answered refusals t g back s →
      ((d : Cursor) → s ≡ Ok (Record d) → OnRecord t g d → Ends t (Ok (Record d))) → Ends t s
  answer_ends back (Ok (Record c)) (found r) h = h c refl r
  answer_ends back (Ok (End c)) a h = by_end
  answer_ends back (Err r) a h = by_refusal

  module _ (w : Sound t g) where
    -- a place is below the block's size
    place_below : (c : Cursor) → OnRecord t g c → c.place < g.block_size
    place_below c r = omega (arith, r.there, count_few t g w c.block r.count r.counted)

    -- from a cursor on a record, where stepping ends after more moves than its own
    in_block : (more : ℕ) → ((d : Cursor) → OnRecord t g d → more ≤ d.moves → Ends t (Ok (Record d)))
        → (left : ℕ) (c : Cursor) → OnRecord t g c → suc c.moves ≡ more → g.block_size - c.place ≤ left
        → Ends t (Ok (Record c))
    in_block more ih zero c r e l = absurd (omega (arith, place_below c r))
    in_block more ih (suc left) c r e l =
        later (answer_ends c (step_of t c) (step_answers t c)
        (λ d s q. go d q (step_after t c d s) (in_block more ih left d q)))
      where
        go : (d : Cursor) → OnRecord t g d → After c d →
            (suc d.moves ≡ more → g.block_size - d.place ≤ left → Ends t (Ok (Record d))) → Ends t (Ok (Record d))
        go d q (next_place b m p) stays = stays (omega arith) (omega (arith, place_below c r))
        go d q (more_moves m) stays = ih d q (omega arith)

    -- from a cursor on a record, by how many moves are left
    by_moves : (left : ℕ) (c : Cursor) → OnRecord t g c → g.blocks - c.moves ≤ left → Ends t (Ok (Record c))
    by_moves zero c r l = absurd (omega (arith, r.few_moves))
    by_moves (suc left) c r l =
        in_block (suc c.moves) (λ d q m. by_moves left d q (omega (arith, r.few_moves, q.few_moves)))
        (g.block_size - c.place) c r refl (omega arith)

    record_ends : (d : Cursor) → OnRecord t g d → Ends t (Ok (Record d))
    record_ends d r = by_moves (g.blocks - d.moves) d r (omega arith)

  pub start_ends : Ends t (start_of t)
  unfolding start_of
  start_ends =
      first_holds t (λ (r : Refusal). refused r at_end) (start_in t (numbers_of t))
      (λ (s : Stepped). s ≡ start_of t → Ends t s) (λ r l e. by_refusal)
      (λ a e.
      answer_ends at_end _ (rw (← e) at (start_answers t)) (λ d s r. record_ends (sound t (numbers_of t) a) d r)) refl

  pub step_ends : (c : Cursor) → Ends t (step_of t c)
  unfolding step_of
  step_ends c =
      first_holds t (λ (r : Refusal). refused r c) _ (λ (s : Stepped). s ≡ step_of t c → Ends t s) (λ r l e. by_refusal)
      (λ a e. answer_ends c _ (rw (← e) at (step_answers t c)) (λ d s r. record_ends (sound t (numbers_of t) a) d r))
      refl
