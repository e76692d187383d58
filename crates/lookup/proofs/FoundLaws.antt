-- The numbers of a lookup: a refusal hands out its number and no place, any other answer is told by them. Assumes
-- nothing.
use Rattle.std.specs.Prelude.{Option, Some, None, Result, Ok, Err}
use mathlib.Core.Path.{◌≡◌, refl}
use native.Mathlib.Omega.{arith}
use Rattle.header.specs.declared.refusal.Refusal.{Refusal}
use Rattle.lookup.specs.Found.{lookup_of, found_at}
use Rattle.lookup.specs.Rules.{NoPlace}
use Rattle.lookup.specs.declared.found.Found.{Found}

pub refused_no_place : (f : Result (Option Found) Refusal) → ((lookup_of f).refusal ≡ 0 → ⊥) → NoPlace (lookup_of f)
unfolding lookup_of
refused_no_place (Ok (Some found)) h = absurd (h refl)
refused_no_place (Ok None) h = absurd (h refl)
refused_no_place (Err r) h = (refl, refl, refl)

-- ---- the numbers of an answer that is no refusal

pub no_refusal : (r : Option Found) → (lookup_of (Ok r)).refusal ≡ 0
unfolding lookup_of
no_refusal (Some found) = refl
no_refusal None = refl

pub number_absent : (r : Option Found) → (lookup_of (Ok r)).found ≡ 0 → r ≡ None
unfolding lookup_of
number_absent (Some found) z = absurd (omega arith)
number_absent None z = refl

pub number_found : (r : Option Found) → (lookup_of (Ok r)).found ≡ 1 →
    r ≡ found_at (lookup_of (Ok r)).block (lookup_of (Ok r)).place
unfolding lookup_of
number_found (Some found) z = refl
number_found None z = absurd (omega arith)
