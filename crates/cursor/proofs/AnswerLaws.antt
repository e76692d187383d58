-- What each answer is, for any bytes and any cursor: a refusal hands back the cursor it was given, the end is one
-- with numbers 0, and a record is one that a block of the file counts, after the cursor that was stepped. Assumes
-- nothing.
use Prim.Native.Nat.{ℕ, zero, suc, ◌+◌, ◌-◌, ◌≤◌, ◌<◌}
use mathlib.Core.Path.{◌≡◌, refl, ap}
use mathlib.Core.Bool.{Bool, true, false}
use mathlib.Core.List.{List, ◌++◌}
use Rattle.std.specs.Prelude.{Option, Some, None, Ok}
use mathlib.Core.Logic.{⊎_elim}
use native.Mathlib.Numerals.{add-one}
use native.Mathlib.Omega.{arith}
use lib.Dec.{eqb}
use borrow.Author.Tests.{eqb-true, eqb-false}
use Rattle.words.proofs.Cases.{lt_or_ge, either, apart}
use Rattle.header.specs.Header.{header_refusal}
use Rattle.header.specs.Numbers.{numbers_of}
use Rattle.header.proofs.RefusalLaws.{one_of_front, one_of_back}
use Rattle.header.proofs.AcceptedLaws.{first_holds}
use Rattle.header.specs.Refusals.{kept, number, one_of, header_refusals}
use Rattle.header.specs.declared.refusal.Refusal.{Refusal}
use Rattle.header.specs.declared.refusal.Refusal.TheVariants.{ChainRule, WrongCount, BadArgument}
use Rattle.blocks.specs.Shape.{shape_of}
use Rattle.blocks.specs.Counts.{count_in}
use Rattle.blocks.specs.declared.Shape.{Shape}
use Rattle.chain.specs.Links.{next_of}
use Rattle.cursor.specs.Cursor.{Stepped, refused, at_end, standing, in_reach, first_from, start_in, start_of, step_in}
use Rattle.cursor.specs.Cursor.{step_of, start_refusals, step_refusals}
use Rattle.cursor.specs.Rules.{OnRecord, Answered, found, over, refusing, After, next_place, more_moves}
use Rattle.cursor.specs.declared.Cursor.{Cursor}
use Rattle.cursor.specs.declared.Step.TheVariants.{Record, End}
use Rattle.cursor.specs.declared.Refused.{Refused}
use Rattle.cursor.proofs.CursorLaws.{in_reach_lem, reach_block, reach_moves, from_end, from_outside, from_bad}
use Rattle.cursor.proofs.CursorLaws.{from_record, from_empty, step_outside, step_bad, step_past, step_stays}
use Rattle.cursor.proofs.CursorLaws.{step_moves, step_goes}

-- ---- what holds of every way in which an answer can come about, holds of the answer

module _ (t : List ℕ) (g : Shape) where
  -- the first record from a number on, reached after at least so many moves
  module _ (back : Cursor) (least : ℕ) (Holds : Stepped → Type 0) (at_end_lem : Holds (Ok (End at_end)))
      (outside : Holds (refused ChainRule back)) (bad : Holds (refused WrongCount back))
      (at_record : (b moves n : ℕ) → least ≤ moves → in_reach g b moves ≡ true → count_in t g b ≡ Some (suc n)
      → Holds (Ok (Record (standing b 0 moves)))) where
    turn : (moves b : ℕ) → least ≤ moves →
        (in_reach g b moves ≡ true → Holds (first_from t g back (moves + 1) (next_of t g b))) →
        Holds (first_from t g back moves b)
    turn moves b l ih = go (eqb b 0) refl
      where
        by_count_lem : (b ≡ 0 → ⊥) → in_reach g b moves ≡ true → (n : Option ℕ) → count_in t g b ≡ n →
            Holds (first_from t g back moves b)
        by_count_lem ne e None k = rw (from_bad t g back moves b ne e k) bad
        by_count_lem ne e (Some zero) k = rw (from_empty t g back moves b ne e 0 k refl) (ih e)
        by_count_lem ne e (Some (suc n)) k =
            rw (from_record t g back moves b ne e (suc n) k (λ z. omega arith)) (at_record b moves n l e k)

        by_entry : (b ≡ 0 → ⊥) → (c : Bool) → in_reach g b moves ≡ c → Holds (first_from t g back moves b)
        by_entry ne false e = rw (from_outside t g back moves b ne e) outside
        by_entry ne true e = by_count_lem ne e (count_in t g b) refl

        go : (c : Bool) → eqb b 0 ≡ c → Holds (first_from t g back moves b)
        go true e = rw (from_end t g back moves b (eqb-true b 0 e)) at_end_lem
        go false e = by_entry (eqb-false b 0 e) (in_reach g b moves) refl

    -- so many blocks may still be entered
    within : (left moves b : ℕ) → g.blocks - moves ≡ left → least ≤ moves → Holds (first_from t g back moves b)
    within zero moves b e l = turn moves b l (λ m. absurd (omega (arith, reach_moves g b moves m)))
    within (suc left) moves b e l =
        turn moves b l (λ m. within left (moves + 1) (next_of t g b) (omega arith) (omega arith))

    from_holds : (moves b : ℕ) → least ≤ moves → Holds (first_from t g back moves b)
    from_holds moves b l = within (g.blocks - moves) moves b refl l

  -- the record after that of a cursor which has not ended
  module _ (c : Cursor) (Holds : Stepped → Type 0) (unfit : Holds (refused BadArgument c))
      (bad : Holds (refused WrongCount c))
      (stays : (n : ℕ) → in_reach g c.block c.moves ≡ true → count_in t g c.block ≡ Some n → c.place + 1 < n
      → Holds (Ok (Record (standing c.block (c.place + 1) c.moves))))
      (moves : Holds (first_from t g c (c.moves + 1) (next_of t g c.block))) where
    in_holds : Holds (step_in t g c)
    in_holds = by_entry (in_reach g c.block c.moves) refl
      where
        by_place : in_reach g c.block c.moves ≡ true → (n : ℕ) → count_in t g c.block ≡ Some n →
            Holds (step_in t g c)
        by_place e n k =
            ⊎_elim
            (λ (l : c.place < n). ⊎_elim
            (λ (m : c.place + 1 < n). rw (step_stays t g c e n k m) (stays n e k m))
            (λ (m : n ≤ c.place + 1). rw (step_moves t g c e n k l m) moves)
            (lt_or_ge (c.place + 1) n))
            (λ (l : n ≤ c.place). rw (step_past t g c e n k l) unfit)
            (lt_or_ge c.place n)

        by_count_lem : in_reach g c.block c.moves ≡ true → (n : Option ℕ) → count_in t g c.block ≡ n →
            Holds (step_in t g c)
        by_count_lem e None k = rw (step_bad t g c e k) bad
        by_count_lem e (Some n) k = by_place e n k

        by_entry : (b : Bool) → in_reach g c.block c.moves ≡ b → Holds (step_in t g c)
        by_entry false e = rw (step_outside t g c e) unfit
        by_entry true e = by_count_lem e (count_in t g c.block) refl

-- 1 to 7 come first
module _ (t : List ℕ) (Holds : Stepped → Type 0) where
  start_holds : ((r : Refusal) → one_of header_refusals r ≡ true → Holds (refused r at_end)) →
      Holds (first_from t (shape_of (numbers_of t)) at_end 0 (numbers_of t).first) → Holds (start_of t)
  unfolding start_of start_in
  start_holds each from = first_holds t (λ (r : Refusal). refused r at_end) _ Holds each (λ a. from)

  step_holds : (c : Cursor) → ((r : Refusal) → one_of header_refusals r ≡ true → Holds (refused r c)) →
      Holds (Ok (End at_end)) → Holds (step_in t (shape_of (numbers_of t)) c) → Holds (step_of t c)
  unfolding step_of
  step_holds c each at_end_lem goes =
      first_holds t (λ (r : Refusal). refused r c) _ Holds each (λ a. either Holds c.ended _ _ at_end_lem goes)

-- ---- an answer is a record, the end, or a refusal

module _ (t : List ℕ) (g : Shape) where
  -- a record in a block in reach
  on_record : (b place moves : ℕ) → in_reach g b moves ≡ true → (n : ℕ) → count_in t g b ≡ Some n → place < n →
      OnRecord t g (standing b place moves)
  on_record b place moves e n k l =
      record {
        going = refl;
        low = (reach_block g b moves e).0;
        high = (reach_block g b moves e).1;
        few_moves = reach_moves g b moves e;
        count = n;
        counted = k;
        there = l;
      }

  -- with refusals of its own behind 1 to 7
  module _ (own : List Refusal) (back : Cursor) where
    abbrev Right : Stepped → Type 0
    Right = Answered (header_refusals ++ own) t g back

    by_rules : (r : Refusal) → one_of header_refusals r ≡ true → Right (refused r back)
    by_rules r w = refusing (one_of_front r header_refusals own w)

    by_own : (r : Refusal) → one_of own r ≡ true → Right (refused r back)
    by_own r w = refusing (one_of_back r header_refusals own w)

    from_answers : one_of own ChainRule ≡ true → one_of own WrongCount ≡ true → (moves b : ℕ) →
        Right (first_from t g back moves b)
    from_answers outside bad moves b =
        from_holds t g back 0 Right over (by_own ChainRule outside) (by_own WrongCount bad)
        (λ b m n l e k. found (on_record b 0 m e (suc n) k (omega arith)))
        moves b (omega arith)

pub start_answers : (t : List ℕ) →
    Answered (header_refusals ++ start_refusals) t (shape_of (numbers_of t)) at_end (start_of t)
unfolding one_of number
start_answers t =
    let g = shape_of (numbers_of t) in
    start_holds t (Right t g start_refusals at_end) (by_rules t g start_refusals at_end)
    (from_answers t g start_refusals at_end refl refl 0 (numbers_of t).first)

pub step_answers : (t : List ℕ) (c : Cursor) →
    Answered (header_refusals ++ step_refusals) t (shape_of (numbers_of t)) c (step_of t c)
unfolding one_of number
step_answers t c =
    let g = shape_of (numbers_of t) in
    step_holds t (Right t g step_refusals c) c (by_rules t g step_refusals c) over
    (in_holds t g c (Right t g step_refusals c) (by_own t g step_refusals c BadArgument refl)
    (by_own t g step_refusals c WrongCount refl)
    (λ n e k m. found (on_record t g c.block (c.place + 1) c.moves e n k m))
    (from_answers t g step_refusals c refl refl (c.moves + 1) (next_of t g c.block)))

-- ---- a record comes after the one before it

-- where an answer is a record, it comes after the cursor
abbrev Later : Cursor → Stepped → Type 0
Later c s = (d : Cursor) → s ≡ Ok (Record d) → After c d

no_record_at_end : (c k : Cursor) → Later c (Ok (End k))
no_record_at_end c k d e = apart cc

no_record_refused : (c : Cursor) (r : Refusal) (k : Cursor) → Later c (refused r k)
no_record_refused c r k d e = apart cc

record_is : (c d : Cursor) → ◌≡◌ {A = Stepped} (Ok (Record c)) (Ok (Record d)) → c ≡ d
record_is c d e = cc

pub step_after : (t : List ℕ) (c d : Cursor) → step_of t c ≡ Ok (Record d) → After c d
step_after t c =
    let g = shape_of (numbers_of t) in
    step_holds t (Later c) c (λ r l. no_record_refused c r c) (no_record_at_end c at_end)
    (in_holds t g c (Later c) (no_record_refused c BadArgument c) (no_record_refused c WrongCount c)
    (λ n e k m d f. rw (← (record_is (standing c.block (c.place + 1) c.moves) d f))
    (next_place refl refl (add-one c.place)))
    (from_holds t g c (c.moves + 1) (Later c) (no_record_at_end c at_end) (no_record_refused c ChainRule c)
    (no_record_refused c WrongCount c)
    (λ b m n l e k d f. rw (← (record_is (standing b 0 m) d f)) (more_moves (omega arith)))
    (c.moves + 1) (next_of t g c.block) (omega arith)))

-- ---- a cursor that was handed out is never refused with 13

-- an answer is no 13
abbrev Fits : Stepped → Type 0
Fits s = (d : Cursor) → s ≡ refused BadArgument d → ⊥

end_fits : (k : Cursor) → Fits (Ok (End k))
end_fits k d e = apart cc

record_fits : (k : Cursor) → Fits (Ok (Record k))
record_fits k d e = apart cc

refused_fits : (r : Refusal) (k : Cursor) → (r ≡ BadArgument → ⊥) → Fits (refused r k)
refused_fits r k ne d e =
    let q : ◌≡◌ {A = Refused} (record { refusal = r; cursor = k }) (record { refusal = BadArgument; cursor = d }) =
    cc in
    ne (ap (λ (x : Refused). x.refusal) q)

pub step_fits : (t : List ℕ) → header_refusal t ≡ kept → (c : Cursor) → OnRecord t (shape_of (numbers_of t)) c →
    (d : Cursor) → step_of t c ≡ refused BadArgument d → ⊥
step_fits t z c r =
    let g = shape_of (numbers_of t) in
    let e = in_reach_lem g c.block c.moves r.low r.high r.few_moves in
    rw (step_goes t c z r.going)
    (⊎_elim
    (λ (m : c.place + 1 < r.count). rw (step_stays t g c e r.count r.counted m)
    (record_fits (standing c.block (c.place + 1) c.moves)))
    (λ (m : r.count ≤ c.place + 1). rw (step_moves t g c e r.count r.counted r.there m)
    (from_holds t g c 0 Fits (end_fits at_end) (refused_fits ChainRule c (λ y. apart cc))
    (refused_fits WrongCount c (λ y. apart cc))
    (λ b m n l e k. record_fits (standing b 0 m))
    (c.moves + 1) (next_of t g c.block) (omega arith)))
    (lt_or_ge (c.place + 1) r.count))
