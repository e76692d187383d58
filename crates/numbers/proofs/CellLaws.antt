-- A cell's four numbers, case by case. Assumes nothing.
use Rattle.std.proofs.Common.{◌≡◌, ℕ, ◌≤◌, Bool, true, false, cond, List, [], ◌∷◌, length, ℤ}
use Rattle.std.proofs.Common.{pos, negsuc, sym, refl, subst, arith, w64, of_z}
use lib.Ieee.{Float, binary64, to_bits}
use lib.Ieee.Scale.{finite}
use mir.Val.{bool_byte}
use Rattle.std.specs.Prelude.{Ok, Err, IfOk}
use Rattle.header.specs.Refusals.{number}
use Rattle.header.specs.declared.refusal.Refusal.{Refusal}
use Rattle.header.specs.Rules.{Accepted}
use Rattle.header.specs.declared.Header.{Header}
use Rattle.cell.specs.Values.{Cell}
use Rattle.cell.specs.Reading.{block_cell}
use Rattle.cell.specs.declared.value.Value.{Value}
use Rattle.cell.specs.declared.value.Value.TheVariants as Val
use Rattle.cell.proofs.PlaceLaws.{stands_in}
use Rattle.cell.proofs.Finite.{stands_finite}
use Rattle.numbers.specs.Cells.{signed_bits, value_list, cell_list, cell_given}
use Rattle.numbers.specs.Steps.{Finite, FiniteCell}

-- ---- a signed number

-- the machine's cast gives its 64 bits
pub bits_are : (z : ℤ) → of_z w64 z ≡ signed_bits z
unfolding signed_bits
bits_are (pos n) = refl
bits_are (negsuc n) = refl

-- ---- a value

-- what the machine has for a truth value
byte_of : (b : Bool) → bool_byte b ≡ cond b 1 0
byte_of true = refl
byte_of false = refl

module _ (v : Value) where
  pub blank_list : v ≡ Val.Blank → 1 ∷ 0 ∷ 0 ∷ 0 ∷ [] ≡ value_list v
  unfolding value_list
  blank_list e = rw e

  pub short_list : (z : ℤ) (n : ℕ) → v ≡ Val.Short z → n ≡ signed_bits z → 2 ∷ n ∷ 0 ∷ 0 ∷ [] ≡ value_list v
  unfolding value_list
  short_list z n e b = rw (e, b)

  pub long_list : (z : ℤ) (n : ℕ) → v ≡ Val.Long z → n ≡ signed_bits z → 3 ∷ n ∷ 0 ∷ 0 ∷ [] ≡ value_list v
  unfolding value_list
  long_list z n e b = rw (e, b)

  pub date_list : (d n : ℕ) → v ≡ Val.Date d → n ≡ d → 4 ∷ n ∷ 0 ∷ 0 ∷ [] ≡ value_list v
  unfolding value_list
  date_list d n e is = rw (e, is)

  pub number_list : (x : Float) → v ≡ Val.Number x → 5 ∷ to_bits binary64 x ∷ 0 ∷ 0 ∷ [] ≡ value_list v
  unfolding value_list
  number_list x e = rw e

  pub logical_list : (b : Bool) (n : ℕ) → v ≡ Val.Logical b → n ≡ bool_byte b → 6 ∷ n ∷ 0 ∷ 0 ∷ [] ≡ value_list v
  unfolding value_list
  logical_list b n e is = rw (e, is, byte_of b)

  pub text_list : (start len : ℕ) → v ≡ Val.Text start len → 7 ∷ start ∷ len ∷ 0 ∷ [] ≡ value_list v
  unfolding value_list
  text_list start len e = rw e

  pub number_finite : (x : Float) → v ≡ Val.Number x → Finite v → finite x ≡ true
  unfolding Finite
  number_finite x e f = subst Finite e f

  -- a value has four numbers
  pub four_numbers : length (value_list v) ≡ 4
  unfolding value_list
  four_numbers = go v
    where
      go : (v : Value) → length (value_list v) ≡ 4
      go Val.Blank = refl
      go (Val.Short z) = refl
      go (Val.Long z) = refl
      go (Val.Date d) = refl
      go (Val.Number x) = refl
      go (Val.Logical b) = refl
      go (Val.Text start len) = refl

-- ---- a cell

module _ (c : Cell) where
  pub is_list : (v : Value) (n : List ℕ) → c ≡ Ok v → n ≡ value_list v → n ≡ cell_list c
  unfolding cell_list
  is_list v n e l = rw e l

  pub refused_list : (r : Refusal) (n : ℕ) → c ≡ Err r → n ≡ number r → 0 ∷ n ∷ 0 ∷ 0 ∷ [] ≡ cell_list c
  unfolding cell_list
  refused_list r n e l = rw (e, l)

  pub its_finite : (v : Value) → c ≡ Ok v → FiniteCell c → Finite v
  unfolding FiniteCell
  its_finite v e f = subst FiniteCell e f

  -- a cell alone
  pub given_value : (v : Value) → c ≡ Ok v → cell_given c ≡ Ok (value_list v)
  unfolding cell_given
  given_value v e = rw e

  pub given_refusal : (r : Refusal) → c ≡ Err r → cell_given c ≡ Err r
  unfolding cell_given
  given_refusal r e = rw e

pub cell_four : (c : Cell) → length (cell_list c) ≡ 4
unfolding cell_list
cell_four (Ok v) = four_numbers v
cell_four (Err r) = refl

pub given_long : (c : Cell) → IfOk (cell_given c) (λ its. length its ≤ 4)
unfolding cell_given
given_long (Ok v) = omega (arith, four_numbers v)
given_long (Err r) = tt

-- a cell that is read is finite
pub read_cell_finite : (t : List ℕ) (h : Header) → Accepted t h → (b p f : ℕ) (c : Cell) → c ≡ block_cell t h b p f →
    FiniteCell c
unfolding FiniteCell Finite
read_cell_finite t h a b p f (Err r) e = tt
read_cell_finite t h a b p f (Ok Val.Blank) e = tt
read_cell_finite t h a b p f (Ok (Val.Short z)) e = tt
read_cell_finite t h a b p f (Ok (Val.Long z)) e = tt
read_cell_finite t h a b p f (Ok (Val.Date d)) e = tt
read_cell_finite t h a b p f (Ok (Val.Number x)) e =
    stands_finite x t h b p f (stands_in t h a b p f (Val.Number x) (sym e))
read_cell_finite t h a b p f (Ok (Val.Logical l)) e = tt
read_cell_finite t h a b p f (Ok (Val.Text start len)) e = tt
