-- Request 03: which of two values is less, and what the order of two cells' bytes says of that. Definitions only.
use Rattle.std.specs.Prelude.{ℕ, ◌≡◌, true, false, cond, List, ◌⊎◌, ℤ, pos, Float, length}
use Rattle.std.specs.Int.Signed.{lt_z}
use Rattle.std.specs.Float.{fin}
use Rattle.std.specs.Float.Ieee.{lt, eq}
use Rattle.words.specs.Numbers.{Bytes}
use Rattle.words.specs.Order.{order}
use Rattle.words.specs.Zeros.{all_zero}
use Rattle.std.specs.declared.cmp.Ordering.TheVariants.{Less}
use Rattle.header.specs.declared.kind.FieldKind.{FieldKind}
use Rattle.header.specs.declared.kind.FieldKind.TheVariants as Kin
use Rattle.cell.specs.declared.value.Value.{Value}
use Rattle.cell.specs.declared.value.Value.TheVariants as Val

-- ---- what is compared

-- a blank; a whole number (short, long, date); a double (number, currency); text and logical are not compared
pub data Amount : Type 0 where
  none : Amount
  blank : Amount
  whole : ℤ → Amount
  double : Float → Amount

unfoldable pub amount_of : Value → Amount
amount_of Val.Blank = blank
amount_of (Val.Short z) = whole z
amount_of (Val.Long z) = whole z
amount_of (Val.Date d) = whole (pos d)
amount_of (Val.Number x) = double x
amount_of (Val.Logical b) = none
amount_of (Val.Text start len) = none

-- an amount, or blank where the w bytes at an offset are all zero
abbrev pub unless_blank : List ℕ → ℕ → ℕ → Amount → Amount
unless_blank s at w x = cond (all_zero s at w) blank x

-- the kinds whose cells are compared; number has currency too
pub data Compared : FieldKind → Type 0 where
  dates : Compared Kin.Date
  shorts : Compared Kin.Short
  longs : Compared Kin.Long
  numbers : Compared Kin.Number

-- ---- less and equal

-- one is less than another: doubles as IEEE has it; a blank is less than every whole number and every double
pub data LessThan : Amount → Amount → Type 0 where
  blank_whole : {z : ℤ} → LessThan blank (whole z)
  blank_double : {y : Float} → LessThan blank (double y)
  wholes : {x y : ℤ} → lt_z x y ≡ true → LessThan (whole x) (whole y)
  doubles : {x y : Float} → lt x y ≡ true → LessThan (double x) (double y)

-- both are equal: doubles as IEEE has it, so negative zero and zero are
pub data EqualTo : Amount → Amount → Type 0 where
  blanks : EqualTo blank blank
  same_whole : {z : ℤ} → EqualTo (whole z) (whole z)
  same_double : {x y : Float} → eq x y ≡ true → EqualTo (double x) (double y)

-- one is not greater than another
abbrev pub AtMost : Amount → Amount → Type 0
AtMost x y = LessThan x y ⊎ EqualTo x y

-- ---- the order of bytes

-- bytes come just before others: no bytes of their length stand between them
pub record JustBefore (a b : List ℕ) : Type 0 where
  pub earlier : order a b ≡ Less
  pub none_between : (c : List ℕ) → Bytes c → length c ≡ length a → order a c ≡ Less → order c b ≡ Less → ⊥

-- negative zero and zero
abbrev pub negative_zero : Amount
negative_zero = double (fin true 0 (pos 0))

abbrev pub positive_zero : Amount
positive_zero = double (fin false 0 (pos 0))

-- x is negative zero and y is zero, with neighbouring bytes
pub record TwoZeros (x y : Amount) (a b : List ℕ) : Type 0 where
  pub negative : x ≡ negative_zero
  pub positive : y ≡ positive_zero
  pub neighbours : JustBefore a b

-- bytes a and b of two cells, which read as the amounts x and y, are ordered as these
pub record OrderedAs (x y : Amount) (a b : List ℕ) : Type 0 where
  -- of the lesser the bytes come earlier
  pub less : LessThan x y → order a b ≡ Less
  -- of equal ones the bytes are equal, except for the two zeros, which are neighbours
  pub equal : EqualTo x y → (a ≡ b) ⊎ (TwoZeros x y a b ⊎ TwoZeros y x b a)
  -- and back: what comes earlier is less, except for the two zeros; what has equal bytes is the same, and equal
  pub earlier : order a b ≡ Less → LessThan x y ⊎ TwoZeros x y a b
  pub same : a ≡ b → (x ≡ y) × EqualTo x y

-- the same of two whole numbers, of which neither is one of the two zeros
pub record WholesOrderedAs (x y : ℤ) (a b : List ℕ) : Type 0 where
  pub less : lt_z x y ≡ true → order a b ≡ Less
  pub equal : x ≡ y → a ≡ b
  pub earlier : order a b ≡ Less → lt_z x y ≡ true
  pub same : a ≡ b → x ≡ y
