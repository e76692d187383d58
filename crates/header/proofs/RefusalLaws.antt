-- Rules 1 to 7 answer that they are kept or one of their own refusals, by the order in which they are tried; and lists
-- of refusals, put one behind another. Assumes nothing.
use Prim.Native.Nat.{ℕ, ◌≤◌}
use mathlib.Core.Path.{◌≡◌, refl, sym, ◌∙◌, ap}
use mathlib.Core.Bool.{Bool, true, false, cond, ◌||◌, true≢false}
use mathlib.Core.List.{List, [], ◌∷◌, ◌++◌}
use native.Mathlib.Omega.{arith}
use lib.Dec.{eqb}
use lib.ListN.{length}
use borrow.Author.Tests.{ne_eqb}
use Rattle.std.specs.Prelude.{Result, Ok, Err}
use Rattle.words.proofs.Cases.{either}
use Rattle.header.specs.Refusals.{number, Verdict, kept, one_of, among, header_refusals}
use Rattle.header.specs.Stored.{stored_of, encryption_at}
use Rattle.header.specs.Fields.{fields_right}
use Rattle.header.specs.Header.{long_enough, is_table, known_version, unencrypted, limits_kept, stored_length}
use Rattle.header.specs.Header.{limits_verdict, fields_verdict, header_verdict, header_refusal}
use Rattle.header.specs.Answers.{unless_refused}
use Rattle.header.specs.declared.refusal.Refusal.{Refusal}
use Rattle.header.specs.declared.refusal.Refusal.TheVariants.{TooShort, NotATable, UnknownVersion, Encrypted}
use Rattle.header.specs.declared.refusal.Refusal.TheVariants.{HeaderLimit, WrongLength, FieldRule, ChainRule}
use Rattle.header.specs.declared.refusal.Refusal.TheVariants.{WrongCount, KeyOrder, NoMeaning, BlobCell, BadArgument}
use Rattle.header.specs.declared.refusal.Refusal.TheVariants.{ShortBuffer, UnfitBlob, IndexTooShort, NotAnIndex}
use Rattle.header.specs.declared.refusal.Refusal.TheVariants.{IndexVersion, IndexLimit, IndexLength, IndexTree}

-- ---- numbers

-- none is 0
pub refusal_least : (r : Refusal) → 1 ≤ number r
unfolding number
refusal_least TooShort = omega arith
refusal_least NotATable = omega arith
refusal_least UnknownVersion = omega arith
refusal_least Encrypted = omega arith
refusal_least HeaderLimit = omega arith
refusal_least WrongLength = omega arith
refusal_least FieldRule = omega arith
refusal_least ChainRule = omega arith
refusal_least WrongCount = omega arith
refusal_least KeyOrder = omega arith
refusal_least NoMeaning = omega arith
refusal_least BlobCell = omega arith
refusal_least BadArgument = omega arith
refusal_least ShortBuffer = omega arith
refusal_least UnfitBlob = omega arith
refusal_least IndexTooShort = omega arith
refusal_least NotAnIndex = omega arith
refusal_least IndexVersion = omega arith
refusal_least IndexLimit = omega arith
refusal_least IndexLength = omega arith
refusal_least IndexTree = omega arith

-- the refusal of a number
abbrev numbered : ℕ → Refusal
numbered n =
    cond (eqb n 1) TooShort
    (cond (eqb n 2) NotATable
    (cond (eqb n 3) UnknownVersion
    (cond (eqb n 4) Encrypted
    (cond (eqb n 5) HeaderLimit
    (cond (eqb n 6) WrongLength
    (cond (eqb n 7) FieldRule
    (cond (eqb n 8) ChainRule
    (cond (eqb n 9) WrongCount
    (cond (eqb n 10) KeyOrder
    (cond (eqb n 11) NoMeaning
    (cond (eqb n 12) BlobCell
    (cond (eqb n 13) BadArgument
    (cond (eqb n 14) ShortBuffer
    (cond (eqb n 18) UnfitBlob
    (cond (eqb n 21) IndexTooShort
    (cond (eqb n 22) NotAnIndex
    (cond (eqb n 23) IndexVersion
    (cond (eqb n 25) IndexLimit
    (cond (eqb n 26) IndexLength
    IndexTree)))))))))))))))))))

numbered_is : (r : Refusal) → numbered (number r) ≡ r
unfolding number
numbered_is TooShort = refl
numbered_is NotATable = refl
numbered_is UnknownVersion = refl
numbered_is Encrypted = refl
numbered_is HeaderLimit = refl
numbered_is WrongLength = refl
numbered_is FieldRule = refl
numbered_is ChainRule = refl
numbered_is WrongCount = refl
numbered_is KeyOrder = refl
numbered_is NoMeaning = refl
numbered_is BlobCell = refl
numbered_is BadArgument = refl
numbered_is ShortBuffer = refl
numbered_is UnfitBlob = refl
numbered_is IndexTooShort = refl
numbered_is NotAnIndex = refl
numbered_is IndexVersion = refl
numbered_is IndexLimit = refl
numbered_is IndexLength = refl
numbered_is IndexTree = refl

-- two refusals have two numbers
pub number_same : (r s : Refusal) → number r ≡ number s → r ≡ s
number_same r s e = sym (numbered_is r) ∙ ap (λ (n : ℕ). numbered n) e ∙ numbered_is s

-- ---- lists

or_right : (b c : Bool) → c ≡ true → (b || c) ≡ true
or_right true c w = refl
or_right false c w = w

or_more : (b c d : Bool) → (c ≡ true → d ≡ true) → (b || c) ≡ true → (b || d) ≡ true
or_more true c d more w = refl
or_more false c d more w = more w

-- a refusal of a list is one of a longer list: with others behind it, before it, or put into it
module _ (r : Refusal) where
  pub one_of_front : (front back : List Refusal) → one_of front r ≡ true → one_of (front ++ back) r ≡ true
  unfolding one_of
  one_of_front [] back w = absurd (true≢false (sym w))
  one_of_front (s ∷ front) back w = or_more (eqb (number r) (number s)) _ _ (one_of_front front back) w

  pub one_of_back : (front back : List Refusal) → one_of back r ≡ true → one_of (front ++ back) r ≡ true
  unfolding one_of
  one_of_back [] back w = w
  one_of_back (s ∷ front) back w = or_right (eqb (number r) (number s)) _ (one_of_back front back w)

  pub one_of_more : (front others back : List Refusal) → one_of (front ++ back) r ≡ true →
      one_of (front ++ (others ++ back)) r ≡ true
  unfolding one_of
  one_of_more [] others back w = one_of_back others back w
  one_of_more (s ∷ front) others back w = or_more (eqb (number r) (number s)) _ _ (one_of_more front others back) w

  -- one that is not the first is one of the rest
  pub one_of_rest : (s : Refusal) (ss : List Refusal) → (r ≡ s → ⊥) → one_of (s ∷ ss) r ≡ true → one_of ss r ≡ true
  unfolding one_of
  one_of_rest s ss h w = rw (ne_eqb (number r) (number s) (λ e. h (number_same r s e))) at w

  -- and it is none that the list does not have
  pub one_of_not : (ss : List Refusal) (s : Refusal) → one_of ss r ≡ true → one_of ss s ≡ false → r ≡ s → ⊥
  one_of_not ss s w h e = true≢false (sym w ∙ ap (one_of ss) e ∙ h)

-- an answer among the refusals of a list is among those of a longer list
module _ {A : Type 0} where
  pub among_front : (a : Result A Refusal) (front back : List Refusal) → among front a ≡ true →
      among (front ++ back) a ≡ true
  unfolding among
  among_front (Ok x) front back w = refl
  among_front (Err r) front back w = one_of_front r front back w

  pub among_back : (a : Result A Refusal) (front back : List Refusal) → among back a ≡ true →
      among (front ++ back) a ≡ true
  unfolding among
  among_back (Ok x) front back w = refl
  among_back (Err r) front back w = one_of_back r front back w

  pub among_more : (a : Result A Refusal) (front others back : List Refusal) → among (front ++ back) a ≡ true →
      among (front ++ (others ++ back)) a ≡ true
  unfolding among
  among_more (Ok x) front others back w = refl
  among_more (Err r) front others back w = one_of_more r front others back w

  -- where it refuses, it is with one of them
  pub among_is : (refusals : List Refusal) (a : Result A Refusal) {r : Refusal} → among refusals a ≡ true → a ≡ Err r →
      one_of refusals r ≡ true
  unfolding among
  among_is refusals a w e = rw e at w

pub among_refused : (A : Type 0) (refusals : List Refusal) (r : Refusal) → one_of refusals r ≡ true →
    among {A = A} refusals (Err r) ≡ true
unfolding among
among_refused A refusals r w = w

-- what each of a verdict's refusals has, and what comes after it where it is kept, every answer by that verdict has
pub unless_holds : {A : Type 0} (refusals : List Refusal) (v : Verdict) (refused : Refusal → A) (others : A)
    (Holds : A → Type 0) → among refusals v ≡ true → ((r : Refusal) → one_of refusals r ≡ true → Holds (refused r))
    → (v ≡ kept → Holds others) → Holds (unless_refused v refused others)
unfolding unless_refused among
unless_holds refusals (Ok tt) refused others Holds w each whole = whole refl
unless_holds refusals (Err r) refused others Holds w each whole = each r w

-- an answer that is seen as a result or a refusal, by a verdict, has the verdict's refusals or those of what comes
-- after it
pub unless_among_as : {A B : Type 0} (answer : A → Result B Refusal) (refusals own : List Refusal) (v : Verdict)
    (refused : Refusal → A) (others : A) → ((r : Refusal) → answer (refused r) ≡ Err r) → among refusals v ≡ true
    → (v ≡ kept → among own (answer others) ≡ true)
    → among (refusals ++ own) (answer (unless_refused v refused others)) ≡ true
unless_among_as {B = B} answer refusals own v refused others same w after =
    unless_holds refusals v refused others (λ a. among (refusals ++ own) (answer a) ≡ true) w
    (λ r k. rw (same r) (among_refused B (refusals ++ own) r (one_of_front r refusals own k)))
    (λ e. among_back (answer others) refusals own (after e))

-- and so a result or a refusal
pub unless_among : {A : Type 0} (refusals own : List Refusal) (v : Verdict) (others : Result A Refusal) →
    among refusals v ≡ true → (v ≡ kept → among own others ≡ true)
    → among (refusals ++ own) (unless_refused v Err others) ≡ true
unless_among refusals own v others w after =
    unless_among_as (λ a. a) refusals own v Err others (λ r. refl) w after

-- ---- rules 1 to 7

abbrev Among : Verdict → Type 0
Among v = among header_refusals v ≡ true

pub header_refusals_lem : (t : List ℕ) → among header_refusals (header_refusal t) ≡ true
unfolding number one_of among header_refusals header_verdict limits_verdict fields_verdict
header_refusals_lem t =
    let s = stored_of t in
    either Among (long_enough (length t)) _ _
    (either Among (is_table s) _ _
    (either Among (known_version s.version) _ _
    (either Among (unencrypted t (encryption_at s.version)) _ _
    (either Among (limits_kept s) _ _
    (either Among (stored_length (length t) s) _ _
    (either Among (fields_right t s) _ _ refl refl) refl) refl) refl) refl) refl) refl
