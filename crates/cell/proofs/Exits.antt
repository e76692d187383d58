-- Where `?` leaves early: an answer that is refused, or an option that is missing. Assumes nothing.
use mathlib.Core.Path.{◌≡◌, refl, ap, ◌∙◌}
use Rattle.std.specs.Prelude.{Option, Some, None, Result, Ok, Err, IsErrAnd}
use Rattle.std.specs.Option.{ok_or}
use Rattle.std.proofs.lemmas.Result.{err_from_is_err_and}
use Rattle.words.proofs.Cases.{apart}
use Rattle.header.specs.declared.refusal.Refusal.{Refusal}

-- a refusal is not a value
pub no_cell : {A X : Type 0} {r : Refusal} {a : A} → Err r ≡ Ok a → X
no_cell h = apart (cc h)

-- two answers that are the same refuse alike
pub refused_alike : {A : Type 0} {r s : Refusal} → ◌≡◌ {A = Result A Refusal} (Err r) (Err s) → r ≡ s
refused_alike h = cc

-- the answer of `?` at a refusal
pub refused_early : {B : Type 0} (r : Refusal) (answer : Result B Refusal) → IsErrAnd answer (λ s. s ≡ r)
    → answer ≡ Err r
refused_early r answer h = let p = err_from_is_err_and answer h in p.1 ∙ ap Err p.2

-- the answer of `ok_or(e)?` at an option that is missing
pub missing_early : {A B : Type 0} (o : Option A) (e r : Refusal) (answer : Result B Refusal)
    → ◌≡◌ {A = Result A Refusal} (Err r) (ok_or o e) → IsErrAnd answer (λ s. s ≡ r) → (o ≡ None) × (answer ≡ Err e)
missing_early None e r answer h i = (refl, refused_early r answer i ∙ ap Err (refused_alike h))
missing_early (Some a) e r answer h i = no_cell h
