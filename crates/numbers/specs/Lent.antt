-- Answers in lent numbers: what a call answers, and what the buffer of numbers holds after it. Definitions only.
use Rattle.std.specs.Prelude.{◌≡◌, ℕ, Bool, true, false, cond, ◌||◌, List, [], ◌∷◌, ◌++◌, map, length, drop, replicate}
use Rattle.std.specs.Prelude.{◌≢◌, ◌==◌, nat_le, Result, Ok, Err}
use Rattle.header.specs.Refusals.{number}
use Rattle.header.specs.declared.refusal.Refusal.{Refusal}
use Rattle.header.specs.declared.refusal.Refusal.TheVariants.{ShortBuffer}
use Rattle.header.specs.Numbers.{numbers_of}
use Rattle.header.specs.Answers.{header_first}
use Rattle.header.specs.declared.Header.{Header}

-- refused: the refusal's number, and every lent number 0
unfoldable pub cleared : List ℕ → Refusal → ℕ × List ℕ
cleared lent refusal = (number refusal, replicate (length lent) 0)

-- no refusal: the answer's numbers in front, and those behind them as they were
unfoldable pub in_front : List ℕ → List ℕ → ℕ × List ℕ
in_front lent answer = (0, answer ++ drop (length answer) lent)

-- what a call gives that answers numbers or a refusal
unfoldable pub given : List ℕ → Result (List ℕ) Refusal → ℕ × List ℕ
given lent (Ok answer) = in_front lent answer
given lent (Err refusal) = cleared lent refusal

-- the order of a call that is lent a table and `room` numbers: 1 to 7 of the table, 14 for fewer numbers than the
-- answer has, then the call's own
unfoldable pub room_first : {A : Type 0} → List ℕ → ℕ → ℕ → Result A Refusal → Result A Refusal
room_first t room count others = header_first t Err (cond (nat_le count room) others (Err ShortBuffer))

-- the header of a table, behind 1 to 7 and 14
abbrev pub room_header : List ℕ → ℕ → ℕ → Result Header Refusal
room_header t room count = room_first t room count (Ok (numbers_of t))

-- ---- the refusals of a call

-- their numbers
abbrev pub numbered : List Refusal → List ℕ
numbered refusals = map number refusals

-- a number is one of these
unfoldable pub is_one : List ℕ → ℕ → Bool
is_one [] n = false
is_one (m ∷ ms) n = (n == m) || is_one ms n

-- an answer is 0 or one of these refusals, and where it is refused, every lent number is 0
pub record Refuses (refusals : List Refusal) (lent : List ℕ) (answer : ℕ × List ℕ) : Type 0 where
  pub number_right : is_one (0 ∷ numbered refusals) answer.0 ≡ true
  pub zeros : (answer.0 ≢ 0) → answer.1 ≡ replicate (length lent) 0
