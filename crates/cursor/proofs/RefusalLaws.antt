-- With which refusals starting and stepping a cursor refuse. Assumes nothing.
use Prim.Native.Nat.{ℕ}
use mathlib.Core.Path.{◌≡◌, ap}
use mathlib.Core.Bool.{true}
use mathlib.Core.List.{List, ◌++◌}
use Rattle.std.specs.Prelude.{Err}
use Rattle.header.specs.Refusals.{one_of, header_refusals}
use Rattle.header.specs.declared.refusal.Refusal.{Refusal}
use Rattle.blocks.specs.declared.Shape.{Shape}
use Rattle.words.proofs.Cases.{apart}
use Rattle.cursor.specs.Cursor.{Stepped, start_of, start_refusals, step_of, step_refusals}
use Rattle.cursor.specs.Rules.{Answered, found, over, refusing}
use Rattle.cursor.specs.declared.Cursor.{Cursor}
use Rattle.cursor.specs.declared.Refused.{Refused}
use Rattle.cursor.proofs.AnswerLaws.{start_answers, step_answers}

refusal_among : {refusals : List Refusal} {t : List ℕ} {g : Shape} {back : Cursor} (r : Refused) (s : Stepped) →
    Answered refusals t g back s → s ≡ Err r → one_of refusals r.refusal ≡ true
refusal_among r s (found o) e = apart cc
refusal_among r s over e = apart cc
refusal_among {refusals} {back = back} r s (refusing {r = x} w) e =
    let q : ◌≡◌ {A = Refused} (record { refusal = x; cursor = back }) r = cc in
    rw (ap (λ (y : Refused). y.refusal) q) at w

-- 1 to 7, then 8, 9
pub start_refusals_lem : (t : List ℕ) (r : Refused) → start_of t ≡ Err r →
    one_of (header_refusals ++ start_refusals) r.refusal ≡ true
start_refusals_lem t r e = refusal_among r (start_of t) (start_answers t) e

-- 1 to 7, then 13, 9, 8
pub step_refusals_lem : (t : List ℕ) (c : Cursor) (r : Refused) → step_of t c ≡ Err r →
    one_of (header_refusals ++ step_refusals) r.refusal ≡ true
step_refusals_lem t c r e = refusal_among r (step_of t c) (step_answers t c) e
