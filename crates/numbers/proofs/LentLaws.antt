-- Lent numbers refused or answered, and the rules that come first, one law for each answer. Assumes nothing.
use Rattle.std.proofs.Common.{◌≡◌, ℕ, ◌+◌, ◌<◌, ◌≤◌, Bool, true, false, cond, ◌||◌, eqb, leb, List, [], ◌∷◌, ◌++◌}
use Rattle.std.proofs.Common.{Bor, length, drop, replicate, sym, refl, ap, ◌∙◌, arith, leb-true, le-leb, true≢false}
use native.Mathlib.Nat.{le_trans}
use lib.Seq.{sets-eq}
use borrow.Author.Tests.{lt-leb}
use Rattle.std.specs.Prelude.{Result, Ok, Err, IfOk, OnOk, IsErrAnd}
use Rattle.std.proofs.lemmas.Result.{err_from_is_err_and}
use Rattle.words.proofs.Cases.{apart, either}
use Rattle.header.specs.Refusals.{Verdict, number, kept, answer_number, one_of, among, header_refusals}
use Rattle.header.specs.declared.refusal.Refusal.{Refusal}
use Rattle.header.specs.declared.refusal.Refusal.TheVariants.{TooShort, NotATable, UnknownVersion, Encrypted}
use Rattle.header.specs.declared.refusal.Refusal.TheVariants.{HeaderLimit, WrongLength, FieldRule, ChainRule}
use Rattle.header.specs.declared.refusal.Refusal.TheVariants.{WrongCount, KeyOrder, NoMeaning, BlobCell, BadArgument}
use Rattle.header.specs.declared.refusal.Refusal.TheVariants.{ShortBuffer, UnfitBlob, IndexTooShort, NotAnIndex}
use Rattle.header.specs.declared.refusal.Refusal.TheVariants.{IndexVersion, IndexLimit, IndexLength, IndexTree}
use Rattle.header.specs.Header.{header_refusal}
use Rattle.header.specs.Numbers.{numbers_of}
use Rattle.header.specs.Answers.{unless_refused, header_first, header_answer}
use Rattle.header.specs.Rules.{Accepted}
use Rattle.header.specs.declared.Header.{Header}
use Rattle.header.proofs.AcceptedLaws.{first_kept, first_refused, first_holds}
use Rattle.header.proofs.RefusalLaws.{one_of_front, one_of_back, refusal_least}
use Rattle.buffer.specs.Pieces.{Wrote}
use Rattle.numbers.specs.Lent.{cleared, in_front, room_first, room_header, numbered, is_one}

module _ (lent out : List ℕ) where
  pub all_cleared : (refusal : Refusal) (n : ℕ) → n ≡ number refusal → out ≡ replicate (length lent) 0 →
      (n, out) ≡ cleared lent refusal
  unfolding cleared
  all_cleared refusal n is e = rw (is, e)

  pub put_in_front : (its : List ℕ) (end : ℕ) → length its ≤ length lent → Wrote lent 0 its out end
      → ◌≡◌ {A = ℕ × List ℕ} (0, out) (in_front lent its)
  unfolding in_front
  put_in_front its end l w =
      let o : 0 + length its ≡ length its = omega arith in
      ap (λ (x : List ℕ). (0, x))
      (w.puts ∙ sets-eq its lent 0 (omega (arith, l)) ∙ ap (λ (j : ℕ). its ++ drop j lent) o)

-- ---- refusals

-- two refusals that answer the same are the same
pub same_refusal : {A : Type 0} {x r : Refusal} → ◌≡◌ {A = Result A Refusal} (Err x) (Err r) → x ≡ r
same_refusal e = cc

-- a refusal's number has 8 bits
pub number_small : (r : Refusal) → number r < 256
unfolding number
number_small TooShort = omega arith
number_small NotATable = omega arith
number_small UnknownVersion = omega arith
number_small Encrypted = omega arith
number_small HeaderLimit = omega arith
number_small WrongLength = omega arith
number_small FieldRule = omega arith
number_small ChainRule = omega arith
number_small WrongCount = omega arith
number_small KeyOrder = omega arith
number_small NoMeaning = omega arith
number_small BlobCell = omega arith
number_small BadArgument = omega arith
number_small ShortBuffer = omega arith
number_small UnfitBlob = omega arith
number_small IndexTooShort = omega arith
number_small NotAnIndex = omega arith
number_small IndexVersion = omega arith
number_small IndexLimit = omega arith
number_small IndexLength = omega arith
number_small IndexTree = omega arith

-- an answer that has 0 is no refusal
pub zero_kept : (v : Verdict) → answer_number v ≡ 0 → v ≡ kept
unfolding answer_number
zero_kept (Ok tt) e = refl
zero_kept (Err r) e = absurd (omega (arith, refusal_least r))

-- a refusal of a list has a number of the list's
or_either : (b c d : Bool) → (c ≡ true → d ≡ true) → (b || c) ≡ true → (b || d) ≡ true
or_either true c d more w = refl
or_either false c d more w = more w

or_behind : (b c : Bool) → c ≡ true → (b || c) ≡ true
or_behind true c w = refl
or_behind false c w = w

pub one_numbered : (refusals : List Refusal) (r : Refusal) → one_of refusals r ≡ true →
    is_one (numbered refusals) (number r) ≡ true
unfolding one_of is_one
one_numbered [] r w = absurd (true≢false (sym w))
one_numbered (s ∷ ss) r w = or_either (eqb (number r) (number s)) _ _ (one_numbered ss r) w

-- and of others before it
pub one_behind : (front back : List ℕ) (n : ℕ) → is_one back n ≡ true → is_one (front ++ back) n ≡ true
unfolding is_one
one_behind [] back n w = w
one_behind (m ∷ front) back n w = or_behind (eqb n m) _ (one_behind front back n w)

-- an answer has 0 or the number of one of its refusals
pub among_numbered : {A : Type 0} (refusals : List Refusal) (a : Result A Refusal) → among refusals a ≡ true →
    is_one (0 ∷ numbered refusals) (answer_number a) ≡ true
unfolding among answer_number is_one
among_numbered refusals (Ok x) w = refl
among_numbered refusals (Err r) w = or_behind (eqb (number r) 0) _ (one_numbered refusals r w)

-- ---- the rules that come first

module _ {A : Type 0} (t : List ℕ) (room count : ℕ) (others : Result A Refusal) where
  -- of a header that was read as r
  module _ (r : Result Header Refusal) (read : r ≡ header_answer t) where
    abbrev behind : Result A Refusal
    behind = cond (leb count room) others (Err ShortBuffer)

    pub room_refused : {x : Refusal} → r ≡ Err x → room_first t room count others ≡ Err x
    unfolding room_first
    room_refused e = first_refused t r read Err behind e

    module _ {h : Header} (e : r ≡ Ok h) where
      pub room_short : room < count → room_first t room count others ≡ Err ShortBuffer
      unfolding room_first
      room_short l =
          let s : behind ≡ Err ShortBuffer = rw (lt-leb count room l) in
          first_kept t r read Err behind e ∙ s

      pub room_kept : count ≤ room → room_first t room count others ≡ others
      unfolding room_first
      room_kept l =
          let s : behind ≡ others = rw (le-leb count room l) in
          first_kept t r read Err behind e ∙ s

  -- of a header that was read behind them
  pub room_err : {x : Refusal} → Err x ≡ room_header t room count → room_first t room count others ≡ Err x
  unfolding room_first header_first unless_refused
  room_err {x} e = go (header_refusal t) (leb count room) e
    where
      go : (v : Verdict) (b : Bool) → ◌≡◌ {A = Result Header Refusal} (Err x)
          (unless_refused v Err (cond b (Ok (numbers_of t)) (Err ShortBuffer)))
          → unless_refused v Err (cond b others (Err ShortBuffer)) ≡ Err x
      go (Err r) b f = ap Err (sym (same_refusal f))
      go (Ok none) true f = apart cc
      go (Ok none) false f = ap Err (sym (same_refusal f))

  room_ok : {h : Header} → Ok h ≡ room_header t room count →
      (h ≡ numbers_of t) × (room_first t room count others ≡ others)
  unfolding room_first header_first unless_refused
  room_ok {h} e = go (header_refusal t) refl (leb count room) refl e
    where
      go : (v : Verdict) → header_refusal t ≡ v → (b : Bool) → leb count room ≡ b
          → ◌≡◌ {A = Result Header Refusal} (Ok h)
          (unless_refused v Err (cond b (Ok (numbers_of t)) (Err ShortBuffer)))
          → (h ≡ numbers_of t) × (room_first t room count others ≡ others)
      go (Err r) k b l f = apart cc
      go (Ok none) k true l f = let same : h ≡ numbers_of t = cc in (same, rw (k, l))
      go (Ok none) k false l f = apart cc

module _ {A : Type 0} (t : List ℕ) (room count : ℕ) (others : Result A Refusal) where
  -- an answer behind them that is a result
  pub room_back : {x : A} → Ok x ≡ room_first t room count others →
      (header_refusal t ≡ kept) × (count ≤ room) × (others ≡ Ok x)
  unfolding room_first header_first unless_refused
  room_back {x} e = go (header_refusal t) refl (leb count room) refl e
    where
      go : (v : Verdict) → header_refusal t ≡ v → (b : Bool) → leb count room ≡ b
          → Ok x ≡ unless_refused v Err (cond b others (Err ShortBuffer))
          → (header_refusal t ≡ kept) × (count ≤ room) × (others ≡ Ok x)
      go (Err r) k b l f = apart cc
      go (Ok none) k true l f = (k, leb-true count room l, sym f)
      go (Ok none) k false l f = apart cc

  -- and where they are kept, what comes behind them
  pub room_on : header_refusal t ≡ kept → count ≤ room → room_first t room count others ≡ others
  unfolding room_first header_first unless_refused
  room_on k l = rw (k, le-leb count room l)

  -- what is answered has room
  pub room_there : (a : Result A Refusal) → a ≡ room_first t room count others → OnOk a (count ≤ room)
  room_there (Err r) e = tt
  room_there (Ok x) e = (room_back e).1

  -- what each refusal has of 1 to 7, 14 and the call's own, and what the call itself answers, every answer has that
  -- has the rules and the room first
  pub room_holds : (own : List Refusal) (Holds : Result A Refusal → Type 0) →
      ((r : Refusal) → one_of (header_refusals ++ ShortBuffer ∷ own) r ≡ true → Holds (Err r))
      → (Accepted t (numbers_of t) → Holds others) → Holds (room_first t room count others)
  unfolding room_first one_of number
  room_holds own Holds refusals whole =
      first_holds t Err _ Holds (λ r w. refusals r (one_of_front r header_refusals (ShortBuffer ∷ own) w))
      (λ a. either Holds (leb count room) _ _ (whole a)
      (refusals ShortBuffer (one_of_back ShortBuffer header_refusals (ShortBuffer ∷ own) refl)))

-- what is asked of a table that was opened behind them is the answer
pub room_asked : {A : Type 0} (asked : List ℕ → Header → Result A Refusal) (lent : Bor (List ℕ)) (room count : ℕ)
    (h : Header) → Ok h ≡ room_header lent.now room count → (bytes : Bor (List ℕ)) → bytes ≡ lent
    → asked bytes.now h ≡ room_first lent.now room count (asked lent.now (numbers_of lent.now))
room_asked asked lent room count h e bytes same =
    let r = room_ok lent.now room count (asked lent.now (numbers_of lent.now)) e in
    ap (λ (b : Bor (List ℕ)). asked b.now h) same ∙ ap (asked lent.now) r.0 ∙ sym r.1

-- a refusal behind them is one of others that refuse the same
pub room_other : {A B : Type 0} (t : List ℕ) (room count : ℕ) (us : Result A Refusal) (vs : Result B Refusal)
    {x : Refusal} → ((r : Refusal) → us ≡ Err r → vs ≡ Err r) → Err x ≡ room_first t room count us
    → room_first t room count vs ≡ Err x
unfolding room_first header_first unless_refused
room_other t room count us vs {x} same e = go (header_refusal t) (leb count room) e
  where
    go : (v : Verdict) (b : Bool) → Err x ≡ unless_refused v Err (cond b us (Err ShortBuffer))
        → unless_refused v Err (cond b vs (Err ShortBuffer)) ≡ Err x
    go (Err r) b f = ap Err (sym (same_refusal f))
    go (Ok none) true f = same x (sym f)
    go (Ok none) false f = ap Err (sym (same_refusal f))

-- what is answered has room
pub room_long : (t : List ℕ) (room count : ℕ) (others a : Result (List ℕ) Refusal) →
    a ≡ room_first t room count others → IfOk others (λ its. length its ≤ count) → IfOk a (λ its. length its ≤ room)
unfolding room_first header_first unless_refused
room_long t room count others (Err r) e long = tt
room_long t room count others (Ok its) e long = go (header_refusal t) (leb count room) refl e
  where
    go : (v : Verdict) (b : Bool) → leb count room ≡ b → Ok its ≡ unless_refused v Err (cond b others (Err ShortBuffer))
        → length its ≤ room
    go (Err r) b l f = apart cc
    go (Ok none) true l f = le_trans ((rw (← f) at long)) (leb-true count room l)
    go (Ok none) false l f = apart cc

-- where a `?` leaves, its refusal is the answer
pub leaves : {A : Type 0} (a : Result A Refusal) {x : Refusal} → IsErrAnd a (λ y. y ≡ x) → a ≡ Err x
leaves a e = let p = err_from_is_err_and a e in p.1 ∙ ap Err p.2
