-- Which kind a value is of, and the width that it then has. Assumes nothing.
use mathlib.Core.Path.{◌≡◌, refl, sym, ◌∙◌, subst}
use mathlib.Core.Bool.{Bool, true, false, cond, ◌&&◌, true≢false}
use mathlib.Core.List.{List}
use Prim.Native.Nat.{ℕ, ◌+◌}
use native.Mathlib.Omega.{arith}
use denote.Enum.Bare.{sameb}
use lib.Dec.{leb}
use lib.IntN.{ℤ}
use lib.Ieee.{Float}
use lib.ListN.{length}
use borrow.Author.Tests.{leb-true}
use Rattle.words.specs.Order.{range}
use Rattle.words.proofs.Conjunctions.{both}
use Rattle.header.specs.declared.kind.FieldKind.{FieldKind}
use Rattle.header.specs.declared.kind.FieldKind.TheVariants as Kin
use Rattle.header.specs.contracts.kind.FieldKind.{the_type}
use Rattle.header.specs.Kinds.{Permitted}
use Rattle.cell.specs.Values.{Content, nothing, blank, short, long, date, number, logical, text, value_part, content_of}
use Rattle.cell.specs.Writing.{of_kind}
use Rattle.cell.specs.Steps.{TextInside}
use Rattle.cell.specs.declared.value.Value.{Value}
use Rattle.cell.specs.declared.value.Value.TheVariants as Val

-- ---- the tests of a kind

pub blank_kind : (kind : FieldKind) → true ≡ of_kind blank kind
unfolding of_kind
blank_kind kind = refl

pub short_kind : (z : ℤ) (kind : FieldKind) → sameb the_type kind Kin.Short ≡ of_kind (short z) kind
unfolding of_kind
short_kind z Kin.Short = refl
short_kind z kind = refl

pub long_kind : (z : ℤ) (kind : FieldKind) → sameb the_type kind Kin.Long ≡ of_kind (long z) kind
unfolding of_kind
long_kind z Kin.Long = refl
long_kind z kind = refl

pub date_kind : (d : ℕ) (kind : FieldKind) → sameb the_type kind Kin.Date ≡ of_kind (date d) kind
unfolding of_kind
date_kind d Kin.Date = refl
date_kind d kind = refl

pub number_kind : (x : Float) (kind : FieldKind) → sameb the_type kind Kin.Number ≡ of_kind (number x) kind
unfolding of_kind
number_kind x Kin.Number = refl
number_kind x kind = refl

pub logical_kind : (b : Bool) (kind : FieldKind) → sameb the_type kind Kin.Logical ≡ of_kind (logical b) kind
unfolding of_kind
logical_kind b Kin.Logical = refl
logical_kind b kind = refl

text_kind : (s : List ℕ) (kind : FieldKind) → sameb the_type kind Kin.Text ≡ of_kind (text s) kind
unfolding of_kind
text_kind s Kin.Text = refl
text_kind s kind = refl

-- a text is of the text kind, where it is a part of the lent bytes
pub of_kind_text : (s : List ℕ) (start len : ℕ) (kind : FieldKind)
    → (leb (start + len) (length s) && sameb the_type kind Kin.Text) ≡ of_kind (content_of s (Val.Text start len)) kind
unfolding content_of of_kind
of_kind_text s start len kind = go (leb (start + len) (length s))
  where
    go : (b : Bool)
        → (b && sameb the_type kind Kin.Text) ≡ of_kind (cond b (text (range s start len)) nothing) kind
    go true = text_kind (range s start len) kind
    go false = refl

-- ---- the kind that a value is of

-- a value's own kind; of a blank, and of what is no part of the lent bytes, the one that is asked for
unfoldable pub own : Content → FieldKind → FieldKind
own nothing kind = kind
own blank kind = kind
own (short z) kind = Kin.Short
own (long z) kind = Kin.Long
own (date d) kind = Kin.Date
own (number x) kind = Kin.Number
own (logical b) kind = Kin.Logical
own (text s) kind = Kin.Text

-- a value is of no kind but its own
pub same_kind : (c : Content) (kind : FieldKind) → of_kind c kind ≡ true → kind ≡ own c kind
unfolding own of_kind
same_kind nothing kind e = refl
same_kind blank kind e = refl
same_kind (short z) Kin.Short e = refl
same_kind (long z) Kin.Long e = refl
same_kind (date d) Kin.Date e = refl
same_kind (number x) Kin.Number e = refl
same_kind (logical b) Kin.Logical e = refl
same_kind (text s) Kin.Text e = refl
same_kind content kind e = absurd (true≢false (sym e))

-- the width that this kind permits
pub same_width : (c : Content) (kind : FieldKind) (w : ℕ) → of_kind c kind ≡ true → Permitted kind w
    → Permitted (own c kind) w
same_width c kind w e p = subst (λ (k : FieldKind). Permitted k w) (same_kind c kind e) p

-- a value of a kind has its text inside the lent bytes
pub of_kind_inside : (s : List ℕ) (v : Value) (kind : FieldKind) → of_kind (content_of s v) kind ≡ true → TextInside s v
unfolding value_part
of_kind_inside s Val.Blank kind e = omega arith
of_kind_inside s (Val.Short z) kind e = omega arith
of_kind_inside s (Val.Long z) kind e = omega arith
of_kind_inside s (Val.Date d) kind e = omega arith
of_kind_inside s (Val.Number x) kind e = omega arith
of_kind_inside s (Val.Logical b) kind e = omega arith
of_kind_inside s (Val.Text start len) kind e =
    leb-true (start + len) (length s)
    (both {a = leb (start + len) (length s)} {b = sameb the_type kind Kin.Text} (of_kind_text s start len kind ∙ e)).0

-- the tests of a kind
pub ruleset kind_tests = (blank_kind, short_kind, long_kind, date_kind, number_kind, logical_kind, of_kind_text)
