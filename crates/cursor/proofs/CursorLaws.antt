-- What starting and stepping answer, one law for each case. Assumes nothing.
use Prim.Native.Nat.{ℕ, zero, suc, ◌+◌, ◌-◌, ◌≤◌, ◌<◌}
use mathlib.Core.Path.{◌≡◌, refl, ap, ◌∙◌, sym}
use mathlib.Core.Bool.{true, false, cond, Bool}
use mathlib.Core.List.{List}
use Rattle.std.specs.Prelude.{Some, None, Result, Ok, Err}
use native.Mathlib.Numerals.{add-one}
use native.Mathlib.Omega.{arith}
use lib.Dec.{ltb}
use borrow.Author.Tests.{eq-eqb, ne_eqb, lt-ltb, le-ltb, ltb-true}
use Rattle.words.proofs.Conjunctions.{both, join}
use Rattle.header.specs.Header.{header_refusal}
use Rattle.header.specs.Numbers.{numbers_of}
use Rattle.header.specs.Answers.{header_first, header_answer}
use Rattle.header.specs.declared.Header.{Header}
use Rattle.header.proofs.VerdictLaws.{unless_kept}
use Rattle.header.proofs.AcceptedLaws.{read_numbers, first_kept, first_refused}
use Rattle.header.specs.Refusals.{kept}
use Rattle.header.specs.declared.refusal.Refusal.{Refusal}
use Rattle.header.specs.declared.refusal.Refusal.TheVariants.{ChainRule, WrongCount, BadArgument}
use Rattle.blocks.specs.Shape.{shape_of, has_block}
use Rattle.blocks.specs.Counts.{count_in}
use Rattle.blocks.specs.declared.Shape.{Shape}
use Rattle.blocks.proofs.ShapeLaws.{file_has, has_block_lem}
use Rattle.chain.specs.Links.{next_of}
use Rattle.cursor.specs.Cursor.{Stepped, refused, at_end, standing, in_reach, first_in, first_within, first_from}
use Rattle.cursor.specs.Cursor.{start_in, start_of, step_with, step_in, step_of}
use Rattle.cursor.specs.declared.Cursor.{Cursor}
use Rattle.cursor.specs.declared.Step.TheVariants.{Record, End}
use Rattle.table.specs.Table.{table_answer}
use Rattle.table.proofs.RuleLaws.{header_kept}

-- ---- a block in reach is in the file, and its move is not too many

module _ (g : Shape) (b moves : ℕ) (e : in_reach g b moves ≡ true) where
  parts : (has_block g b ≡ true) × (ltb moves g.blocks ≡ true)
  unfolding in_reach
  parts = both {a = has_block g b} {b = ltb moves g.blocks} e

  pub reach_block : (1 ≤ b) × (b ≤ g.blocks)
  reach_block = has_block_lem g b parts.0

  pub reach_moves : moves < g.blocks
  reach_moves = ltb-true moves g.blocks parts.1

pub in_reach_lem : (g : Shape) (b moves : ℕ) → 1 ≤ b → b ≤ g.blocks → moves < g.blocks → in_reach g b moves ≡ true
unfolding in_reach has_block
in_reach_lem g b moves low high few = join (file_has g.blocks b low high) (lt-ltb moves g.blocks few)

-- ---- the first record from number b on

module _ (t : List ℕ) (g : Shape) (back : Cursor) (moves b : ℕ) where
  pub from_end : b ≡ 0 → first_from t g back moves b ≡ Ok (End at_end)
  unfolding first_from first_within
  from_end e = go (g.blocks - moves)
    where
      go : (left : ℕ) → first_within t g back left moves b ≡ Ok (End at_end)
      go zero = rw (eq-eqb b 0 e)
      go (suc left) = rw (eq-eqb b 0 e)

  pub from_outside : (b ≡ 0 → ⊥) → in_reach g b moves ≡ false → first_from t g back moves b ≡ refused ChainRule back
  unfolding first_from first_within
  from_outside ne e = go (g.blocks - moves)
    where
      go : (left : ℕ) → first_within t g back left moves b ≡ refused ChainRule back
      go zero = rw (ne_eqb b 0 ne)
      go (suc left) = rw (ne_eqb b 0 ne, e)

  module _ (ne : b ≡ 0 → ⊥) (e : in_reach g b moves ≡ true) where
    -- a block in reach tells by its count
    entered : first_from t g back moves b
        ≡ first_in back b moves (count_in t g b) (first_from t g back (moves + 1) (next_of t g b))
    unfolding first_from first_within
    entered =
        let l : g.blocks - moves ≡ suc (g.blocks - (moves + 1)) = omega (arith, reach_moves g b moves e) in
        rw (l, ne_eqb b 0 ne, e, add-one)

    pub from_bad : count_in t g b ≡ None → first_from t g back moves b ≡ refused WrongCount back
    unfolding first_in
    from_bad k = entered ∙ rw k

    pub from_record : (n : ℕ) → count_in t g b ≡ Some n → (n ≡ 0 → ⊥) →
        first_from t g back moves b ≡ Ok (Record (standing b 0 moves))
    unfolding first_in
    from_record zero k h = absurd (h refl)
    from_record (suc n) k h = entered ∙ rw k

    pub from_empty : (n : ℕ) → count_in t g b ≡ Some n → n ≡ 0 →
        first_from t g back moves b ≡ first_from t g back (moves + 1) (next_of t g b)
    unfolding first_in
    from_empty n k h = entered ∙ rw (k, h)

-- ---- a cursor that has not ended

module _ (t : List ℕ) (g : Shape) (c : Cursor) where
  pub step_outside : in_reach g c.block c.moves ≡ false → step_in t g c ≡ refused BadArgument c
  unfolding step_in
  step_outside e = rw e

  module _ (e : in_reach g c.block c.moves ≡ true) where
    pub step_bad : count_in t g c.block ≡ None → step_in t g c ≡ refused WrongCount c
    unfolding step_in step_with
    step_bad k = rw (e, k)

    module _ (n : ℕ) (k : count_in t g c.block ≡ Some n) where
      pub step_past : n ≤ c.place → step_in t g c ≡ refused BadArgument c
      unfolding step_in step_with
      step_past l = rw (e, k, le-ltb c.place n l)

      pub step_stays : c.place + 1 < n → step_in t g c ≡ Ok (Record (standing c.block (c.place + 1) c.moves))
      unfolding step_in step_with
      step_stays l =
          let m : c.place < n = omega arith in
          let l' : suc c.place < n = rw add-one at l in
          rw (e, k, lt-ltb c.place n m, lt-ltb (suc c.place) n l', add-one)

      pub step_moves : c.place < n → n ≤ c.place + 1 →
          step_in t g c ≡ first_from t g c (c.moves + 1) (next_of t g c.block)
      unfolding step_in step_with
      step_moves m l =
          let l' : n ≤ suc c.place = rw add-one at l in
          rw (e, k, lt-ltb c.place n m, le-ltb (suc c.place) n l', add-one)

-- ---- 1 to 7 come first

module _ (t : List ℕ) where
  -- where they are kept
  pub step_goes : (c : Cursor) → header_refusal t ≡ kept → c.ended ≡ false →
      step_of t c ≡ step_in t (shape_of (numbers_of t)) c
  unfolding step_of header_first
  step_goes c e f = unless_kept (header_refusal t) _ _ e ∙ rw f

  -- of an accepted table
  module _ (room : ℕ) (e : table_answer t room ≡ kept) where
    pub start_accepted : start_of t ≡ first_from t (shape_of (numbers_of t)) at_end 0 (numbers_of t).first
    unfolding start_of start_in
    start_accepted = header_kept t room e _ _

    pub step_accepted : (c : Cursor) → c.ended ≡ false → step_of t c ≡ step_in t (shape_of (numbers_of t)) c
    unfolding step_of
    step_accepted c f = header_kept t room e _ _ ∙ rw f

  -- of a header that was read as r
  module _ (r : Result Header Refusal) (read : r ≡ header_answer t) where
    pub start_refused : {x : Refusal} → r ≡ Err x → start_of t ≡ refused x at_end
    unfolding start_of
    start_refused e = first_refused t r read (λ (x : Refusal). refused x at_end) (start_in t (numbers_of t)) e

    pub start_read : {h : Header} → r ≡ Ok h → start_of t ≡ first_from t (shape_of h) at_end 0 h.first
    unfolding start_of start_in
    start_read e =
        first_kept t r read (λ (x : Refusal). refused x at_end) (start_in t (numbers_of t)) e
        ∙ ap (λ (h : Header). first_from t (shape_of h) at_end 0 h.first) (sym (read_numbers t r read e))

    module _ (c : Cursor) where
      abbrev behind : Stepped
      behind = cond c.ended (Ok (End at_end)) (step_in t (shape_of (numbers_of t)) c)

      pub step_refused : {x : Refusal} → r ≡ Err x → step_of t c ≡ refused x c
      unfolding step_of
      step_refused e = first_refused t r read (λ (x : Refusal). refused x c) behind e

      pub step_ended : {h : Header} → r ≡ Ok h → c.ended ≡ true → step_of t c ≡ Ok (End at_end)
      unfolding step_of
      step_ended e f = first_kept t r read (λ (x : Refusal). refused x c) behind e ∙ rw f

      pub step_read : {h : Header} → r ≡ Ok h → c.ended ≡ false → step_of t c ≡ step_in t (shape_of h) c
      unfolding step_of
      step_read e f =
          first_kept t r read (λ (x : Refusal). refused x c) behind e
          ∙ ap (λ (b : Bool). cond b (Ok (End at_end)) (step_in t (shape_of (numbers_of t)) c)) f
          ∙ ap (λ (h : Header). step_in t (shape_of h) c) (sym (read_numbers t r read e))
