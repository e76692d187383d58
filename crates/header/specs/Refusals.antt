-- The refusals of document 01 and of what joined it: their numbers, and how they enter an answer. Definitions only.
use Rattle.std.specs.Prelude.{ℕ, Bool, true, false, cond, ◌||◌, List, [], ◌∷◌, eqb, Result, Ok, Err}
use Rattle.header.specs.declared.refusal.Refusal.{Refusal}
use Rattle.header.specs.declared.refusal.Refusal.TheVariants.{TooShort, NotATable, UnknownVersion, Encrypted}
use Rattle.header.specs.declared.refusal.Refusal.TheVariants.{HeaderLimit, WrongLength, FieldRule, ChainRule}
use Rattle.header.specs.declared.refusal.Refusal.TheVariants.{WrongCount, KeyOrder, NoMeaning, BlobCell, BadArgument}
use Rattle.header.specs.declared.refusal.Refusal.TheVariants.{ShortBuffer, UnfitBlob, IndexTooShort, NotAnIndex}
use Rattle.header.specs.declared.refusal.Refusal.TheVariants.{IndexVersion, IndexLimit, IndexLength, IndexTree}

-- the number of a refusal
unfoldable pub number : Refusal → ℕ
-- table rules; 14 is tried between 7 and 8
number TooShort = 1
number NotATable = 2
number UnknownVersion = 3
number Encrypted = 4
number HeaderLimit = 5
number WrongLength = 6
number FieldRule = 7
number ChainRule = 8
number WrongCount = 9
number KeyOrder = 10
-- cells, arguments and lent buffers
number NoMeaning = 11
number BlobCell = 12
number BadArgument = 13
number ShortBuffer = 14
number UnfitBlob = 18
-- the index file
number IndexTooShort = 21
number NotAnIndex = 22
number IndexVersion = 23
number IndexLimit = 25
number IndexLength = 26
number IndexTree = 27

-- what rules answer: that they are kept, or a refusal
abbrev pub Verdict : Type 0
Verdict = Result (Unit {0}) Refusal

abbrev pub kept : Verdict
kept = Ok (tt {0})

-- an answer's number: 0 where it is no refusal
unfoldable pub answer_number : {A : Type 0} → Result A Refusal → ℕ
answer_number (Ok result) = 0
answer_number (Err refusal) = number refusal

-- the refusal of a rule that is broken, or what the rules after it answer
abbrev pub first_broken : Bool → Refusal → Verdict → Verdict
first_broken rule refusal others = cond rule others (Err refusal)

-- ---- the refusals that a call has

-- a refusal is one of these
unfoldable pub one_of : List Refusal → Refusal → Bool
one_of [] r = false
one_of (s ∷ ss) r = eqb (number r) (number s) || one_of ss r

-- an answer is a result, or refuses with one of these
unfoldable pub among : {A : Type 0} → List Refusal → Result A Refusal → Bool
among refusals (Ok result) = true
among refusals (Err refusal) = one_of refusals refusal

-- those of rules 1 to 7
unfoldable pub header_refusals : List Refusal
header_refusals = TooShort ∷ NotATable ∷ UnknownVersion ∷ Encrypted ∷ HeaderLimit ∷ WrongLength ∷ FieldRule ∷ []
