-- How a verdict enters an answer: refused with its refusal, or, where the rules are kept, what comes after them.
-- Assumes nothing.
use mathlib.Core.Path.{◌≡◌, refl}
use mathlib.Core.Bool.{Bool, true, false, cond}
use Rattle.std.specs.Prelude.{Result, Ok, Err}
use Rattle.words.proofs.Cases.{apart}
use Rattle.header.specs.Refusals.{Verdict, kept}
use Rattle.header.specs.Answers.{unless_refused}
use Rattle.header.specs.declared.refusal.Refusal.{Refusal}

module _ {A : Type 0} (v : Verdict) (refused : Refusal → A) (others : A) where
  pub unless_kept : v ≡ kept → unless_refused v refused others ≡ others
  unfolding unless_refused
  unless_kept e = rw e

  pub unless_refused_lem : {r : Refusal} → v ≡ Err r → unless_refused v refused others ≡ refused r
  unfolding unless_refused
  unless_refused_lem e = rw e

-- of an answer by a verdict that is a result, the verdict is kept and the result is what comes after it
pub unless_ok : {A : Type 0} (v : Verdict) (others : Result A Refusal) {a : A} → unless_refused v Err others ≡ Ok a →
    (v ≡ kept) × (others ≡ Ok a)
unfolding unless_refused
unless_ok (Ok tt) others e = (refl, e)
unless_ok (Err r) others e = apart cc

-- of two verdicts, the first that is not kept: kept where both are
pub unless_zero : (v others : Verdict) → unless_refused v Err others ≡ kept → (v ≡ kept) × (others ≡ kept)
unless_zero v others e = unless_ok v others e

-- a rule that is kept leaves the answer to the rules after it; a broken one refuses
pub kept_of : (b : Bool) (r : Refusal) (rest : Verdict) → cond b rest (Err r) ≡ kept → (b ≡ true) × (rest ≡ kept)
kept_of true r rest e = (refl, e)
kept_of false r rest e = apart cc
