-- A cursor comes back from its number, and what starting and stepping one in lent numbers answer: by the variants of a
-- step, and by rules 1 to 7, which a step has first already. Assumes nothing.
use Rattle.std.proofs.Common.{◌≡◌, ℕ, ◌+◌, ◌*◌, ◌/◌, ◌%◌, ◌<◌, ◌≤◌, Bool, true, false, cond, eqb, List, [], ◌∷◌, length}
use Rattle.std.proofs.Common.{get_or, drop, set, replicate, refl, not-suc-le-zero, arith, le-leb}
use Rattle.std.specs.Prelude.{Result, Ok, Err}
use Rattle.header.specs.Refusals.{Verdict}
use Rattle.header.specs.declared.refusal.Refusal.{Refusal}
use Rattle.header.specs.Header.{header_refusal}
use Rattle.header.specs.Answers.{header_first, unless_refused}
use Rattle.cursor.specs.Cursor.{Stepped, at_end, start_of, step_of, refused}
use Rattle.cursor.specs.declared.Cursor.{Cursor}
use Rattle.cursor.specs.declared.Step.{Step}
use Rattle.cursor.specs.declared.Step.TheVariants.{Record, End}
use Rattle.numbers.specs.Lent.{cleared, room_first}
use Rattle.numbers.specs.Cursor.{cursor_number, cursor_in, came, put_step, refusal_only, start_given, start_answer}
use Rattle.numbers.specs.Cursor.{start_lent, step_given, step_answer, step_lent}

-- ---- a cursor as one number

module _ (c : Cursor) where
  pub ended_number : c.ended ≡ true →
      0x10000 * c.block + 0x100000000 * c.place + 0x1000000000000 * c.moves ≡ cursor_number c
  unfolding cursor_number
  ended_number e = rw e (omega arith)

  pub standing_number : c.ended ≡ false →
      0x100 + (0x10000 * c.block + 0x100000000 * c.place + 0x1000000000000 * c.moves) ≡ cursor_number c
  unfolding cursor_number
  standing_number e = rw e (omega arith)

-- 1 where it has not ended, else 0
flag_small : (b : Bool) → cond b 0 1 ≤ 1
flag_small true = omega arith
flag_small false = omega arith

flag_back : (b : Bool) → eqb (cond b 0 1) 0 ≡ b
flag_back true = refl
flag_back false = refl

module _ (c : Cursor) (b : c.block < 65536) (p : c.place < 65536) (m : c.moves < 65536) where
  flag_part : cursor_number c / 0x100 % 0x100 ≡ cond c.ended 0 1
  unfolding cursor_number
  flag_part = omega (arith, flag_small c.ended)

  block_part : cursor_number c / 0x10000 % 0x10000 ≡ c.block
  unfolding cursor_number
  block_part = omega (arith, flag_small c.ended)

  place_part : cursor_number c / 0x100000000 % 0x10000 ≡ c.place
  unfolding cursor_number
  place_part = omega (arith, flag_small c.ended)

  moves_part : cursor_number c / 0x1000000000000 % 0x10000 ≡ c.moves
  unfolding cursor_number
  moves_part = omega (arith, flag_small c.ended)

-- a cursor of 16 bits a part comes back from its number
pub cursor_back : (c : Cursor) → c.block < 65536 → c.place < 65536 → c.moves < 65536 →
    cursor_in (cursor_number c) ≡ c
unfolding cursor_in
cursor_back c b p m =
    rw (block_part c b p m, place_part c b p m, moves_part c b p m, flag_part c b p m, flag_back c.ended)

-- an ended cursor, its numbers 0, is 0
pub end_is_zero : cursor_number at_end ≡ 0
unfolding cursor_number at_end
end_is_zero = refl

-- ---- what a step of a cursor gives, in lent numbers

-- a number put in front
set_front : (lent : List ℕ) (n : ℕ) → 1 ≤ length lent → set lent 0 n ≡ n ∷ drop 1 lent
set_front [] n l = absurd (not-suc-le-zero l)
set_front (x ∷ xs) n l = refl

module _ (lent : List ℕ) (some : 1 ≤ length lent) (s : Step) (c : Cursor) (n : ℕ) (is : n ≡ cursor_number c) where
  pub puts_record : s ≡ Record c → (came, set lent 0 n) ≡ put_step lent s
  unfolding put_step
  puts_record e = rw (e, is, set_front lent (cursor_number c) some)

  pub puts_end : s ≡ End c → (0, set lent 0 n) ≡ put_step lent s
  unfolding put_step
  puts_end e = rw (e, is, set_front lent (cursor_number c) some)

-- ---- with no number, and with one or more

module _ (t : List ℕ) where
  -- an answer that has 1 to 7 first need not try them twice
  first_twice : (back : Cursor) (others : Stepped) → let s =
      header_first t (λ (r : Refusal). refused r back) others in
      header_first t Err (refusal_only s) ≡ refusal_only s
  unfolding header_first unless_refused refusal_only
  first_twice back others = go (header_refusal t)
    where
      go : (v : Verdict) → let s = unless_refused v (λ (r : Refusal). refused r back) others in
          unless_refused v Err (refusal_only s) ≡ refusal_only s
      go (Ok none) = refl
      go (Err r) = refl

  module _ (room : ℕ) (some : 1 ≤ room) (back : Cursor) (others : Stepped) where
    behind_room : let s = header_first t (λ (r : Refusal). refused r back) others in
        room_first t room 1 (refusal_only s) ≡ refusal_only s
    unfolding room_first
    behind_room = rw (le-leb 1 room some) (first_twice back others)

  pub start_some : (room : ℕ) → 1 ≤ room → start_answer t room ≡ refusal_only (start_of t)
  unfolding start_of
  start_some room some = behind_room room some at_end _

  pub step_some : (lent : List ℕ) → 1 ≤ length lent →
      step_answer t lent ≡ refusal_only (step_of t (cursor_in (get_or lent 0 0)))
  unfolding step_of
  step_some lent some = behind_room (length lent) some (cursor_in (get_or lent 0 0)) _

-- ---- refused: the number modulo 256 is the refusal's

-- where an answer is a refusal, the lent numbers are these
abbrev Leaves : List ℕ → ℕ × List ℕ → Type 0
Leaves numbers answer = (answer.0 % 0x100 ≡ 0 → ⊥) → answer.1 ≡ numbers

start_leaves : (lent : List ℕ) (a : Result Step Refusal) → Leaves (replicate (length lent) 0) (start_given lent a)
unfolding start_given put_step cleared
start_leaves lent (Ok (Record c)) h = absurd (h refl)
start_leaves lent (Ok (End c)) h = absurd (h refl)
start_leaves lent (Err r) h = refl

step_leaves : (lent : List ℕ) (a : Result Step Refusal) → Leaves lent (step_given lent a)
unfolding step_given put_step
step_leaves lent (Ok (Record c)) h = absurd (h refl)
step_leaves lent (Ok (End c)) h = absurd (h refl)
step_leaves lent (Err r) h = refl

-- a refused start leaves every number 0
pub start_refused : (t lent : List ℕ) → ((start_lent t lent).0 % 0x100 ≡ 0 → ⊥) →
    (start_lent t lent).1 ≡ replicate (length lent) 0
unfolding start_lent
start_refused t lent = start_leaves lent (start_answer t (length lent))

-- a refused step leaves every number as it was
pub step_refused : (t lent : List ℕ) → ((step_lent t lent).0 % 0x100 ≡ 0 → ⊥) → (step_lent t lent).1 ≡ lent
unfolding step_lent
step_refused t lent = step_leaves lent (step_answer t lent)
