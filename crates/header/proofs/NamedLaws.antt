-- The name of a field: none for no such field, else a part of the header. Assumes nothing.
use Prim.Native.Nat.{ℕ, suc, ◌+◌, ◌-◌, ◌≤◌, ◌<◌}
use mathlib.Core.Path.{◌≡◌, refl, sym, ◌∙◌, ap, subst}
use mathlib.Core.Bool.{Bool, true, false, cond, ◌&&◌}
use mathlib.Core.List.{List, [], ◌∷◌, ◌++◌}
use native.Mathlib.Omega.{arith}
use lib.Dec.{leb}
use lib.ListN.{length}
use borrow.Author.Tests.{le-leb, lt-leb, leb-true, leb-false}
use Rattle.words.specs.Order.{range}
use Rattle.header.specs.Refusals.{number, one_of, among, header_refusals}
use Rattle.header.specs.declared.refusal.Refusal.TheVariants.{BadArgument}
use Rattle.header.specs.Fields.{name_length, names_fit, name_start}
use Rattle.header.specs.Numbers.{numbers_of}
use Rattle.header.specs.Names.{name_at, name_in, name_of, name_bytes, name_begin}
use Rattle.header.specs.Rules.{Accepted}
use Rattle.header.specs.declared.Header.{Header}
use Rattle.header.specs.declared.refusal.Refusal.{Refusal}
use Rattle.words.specs.declared.part.Part.{Part}
use Rattle.std.specs.Prelude.{Result, Ok, Err}
use Rattle.header.proofs.NameLaws.{fit_fewer, fit_last, fit_ends}
use Rattle.header.proofs.AcceptedLaws.{first_holds, first_among}

-- a part of the table as an answer
abbrev part_at : ℕ → ℕ → Result Part Refusal
part_at start len = Ok (record { start = start; len = len })

module _ (t : List ℕ) (h : Header) (f : ℕ) where
  pub name_low : f < 1 → name_in t h f ≡ Err BadArgument
  unfolding name_in
  name_low l = rw (lt-leb 1 f l)

  pub name_high : h.fields < f → name_in t h f ≡ Err BadArgument
  unfolding name_in
  name_high l = go (leb 1 f)
    where
      go : (b : Bool) → cond (b && leb f h.fields) (name_at t (name_start t (f - 1) h.names)) (Err BadArgument)
          ≡ Err BadArgument
      go true = rw (lt-leb f h.fields l)
      go false = refl

  pub name_here : 1 ≤ f → f ≤ h.fields → name_in t h f ≡ name_at t (name_start t (f - 1) h.names)
  unfolding name_in
  name_here l m = rw (le-leb 1 f l, le-leb f h.fields m)

-- ---- of an accepted table

module _ (t : List ℕ) (h : Header) (a : Accepted t h) (f : ℕ) (low : 1 ≤ f) (high : f ≤ h.fields) where
  -- the names up to this one fit
  pub names_to : names_fit t h.header_size (suc (f - 1)) h.names ≡ true
  names_to =
      fit_fewer t h.header_size (suc (f - 1)) h.fields h.names (omega arith)
      a.named

  pub name_fit : names_fit t h.header_size 1 (name_start t (f - 1) h.names) ≡ true
  name_fit = fit_last t h.header_size (f - 1) h.names names_to

  pub name_ends : name_start t (f - 1) h.names + name_length t (name_start t (f - 1) h.names) < h.header_size
  name_ends = (fit_ends t h.header_size 0 (name_start t (f - 1) h.names) name_fit).1

  -- where it begins, and its length
  module _ (start : ℕ) (is : start ≡ name_start t (f - 1) h.names) where
    pub start_fit : names_fit t h.header_size 1 start ≡ true
    start_fit = rw is name_fit

    pub name_is : (len : ℕ) → len ≡ name_length t start → part_at start len ≡ name_in t h f
    name_is len l = ap (part_at start) l ∙ ap (name_at t) is ∙ sym (name_here t h f low high)

-- ---- of any bytes

-- a name is a part of the table
unfoldable pub NameInside : List ℕ → Result Part Refusal → Type 0
NameInside t (Ok part) = part.start + part.len ≤ length t
NameInside t (Err refusal) = Unit {0}

refused_inside : (t : List ℕ) (refusal : Refusal) → NameInside t (Err refusal)
unfolding NameInside
refused_inside t refusal = tt

module _ (t : List ℕ) (h : Header) (a : Accepted t h) (f : ℕ) where
  in_inside : NameInside t (name_in t h f)
  unfolding NameInside
  in_inside = go (leb 1 f) refl (leb f h.fields) refl
    where
      go : (p : Bool) → leb 1 f ≡ p → (q : Bool) → leb f h.fields ≡ q → NameInside t (name_in t h f)
      go false u q v = rw (name_low t h f (leb-false 1 f u)) (refused_inside t BadArgument)
      go true u false v = rw (name_high t h f (leb-false f h.fields v)) (refused_inside t BadArgument)
      go true u true v =
          let low = leb-true 1 f u in
          let high = leb-true f h.fields v in
          rw (name_here t h f low high) (omega (arith, name_ends t h a f low high, a.whole))

pub name_inside : (t : List ℕ) (f : ℕ) → NameInside t (name_of t f)
unfolding name_of
name_inside t f =
    first_holds t Err (name_in t (numbers_of t) f) (NameInside t) (λ r l. refused_inside t r)
    (λ a. in_inside t (numbers_of t) a f)

-- a refused name hands out no part
pub refused_no_name : (t : List ℕ) (f : ℕ) (r : Refusal) → name_of t f ≡ Err r →
    (name_bytes t (name_of t f) ≡ []) × (name_begin (name_of t f) ≡ 0)
unfolding name_bytes name_begin
refused_no_name t f r e = (ap (name_bytes t) e, ap name_begin e)

-- it is refused with one of rules 1 to 7, or with 13
pub name_refusals : (t : List ℕ) (f : ℕ) → among (header_refusals ++ BadArgument ∷ []) (name_of t f) ≡ true
unfolding name_of name_in among one_of number
name_refusals t f =
    first_among t (BadArgument ∷ []) (name_in t (numbers_of t) f)
    (λ a. go (leb 1 f && leb f (numbers_of t).fields))
  where
    go : (b : Bool) →
        among (BadArgument ∷ []) (cond b (name_at t (name_start t (f - 1) (numbers_of t).names)) (Err BadArgument))
        ≡ true
    go true = refl
    go false = refl

-- ---- the part that is handed out

module _ (t : List ℕ) (f : ℕ) where
  pub at_inside : (part : Part) → Ok part ≡ name_of t f → part.start + part.len ≤ length t
  unfolding NameInside
  at_inside part e = let p : NameInside t (Ok part) = subst (NameInside t) (sym e) (name_inside t f) in p

  pub no_bytes : (r : Refusal) → Err r ≡ name_of t f →
      (name_bytes t (name_of t f) ≡ []) × (name_begin (name_of t f) ≡ 0)
  no_bytes r e = refused_no_name t f r (sym e)

  pub its_bytes : (part : Part) → Ok part ≡ name_of t f →
      (name_bytes t (name_of t f) ≡ range t part.start part.len) × (name_begin (name_of t f) ≡ part.start)
  unfolding name_bytes name_begin
  its_bytes part e = (ap (name_bytes t) (sym e), ap name_begin (sym e))
