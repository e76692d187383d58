-- The field area: a pair judged, widths added up, offsets. Assumes nothing.
use Prim.Native.Nat.{ℕ, zero, suc, ◌+◌, ◌*◌, ◌≤◌, ◌<◌}
use mathlib.Core.Path.{◌≡◌, refl, sym, ◌∙◌}
use mathlib.Core.Bool.{Bool, true, false, cond, not, ◌&&◌}
use mathlib.Core.List.{List}
use mathlib.Core.Logic.{⊎_elim}
use native.Mathlib.Nat.{eq-or-lt_of_le}
use native.Mathlib.Numerals.{add-one}
use native.Mathlib.Omega.{arith}
use lib.Dec.{leb}
use lib.ListN.{length, get_or, set, replicate, length-set, length-replicate}
use lib.Seq.{get_or-set_same, get_or-set_other}
use Rattle.words.specs.Each.{each}
use Rattle.words.specs.Numbers.{Bytes}
use Rattle.words.proofs.EachLaws.{each_more, each_fails}
use Rattle.header.specs.Kinds.{is_blob}
use Rattle.header.specs.Stored.{area_at}
use Rattle.header.specs.Fields.{allowed, width_at, pair_right, width_sum, offsets_of}
use Rattle.header.specs.Steps.{judged_if}
use Rattle.header.specs.declared.kind.FieldKind.{FieldKind}
use Rattle.std.specs.Prelude.{Option, Some, None}
use Rattle.header.specs.Header.{most_fields}
use Rattle.header.proofs.JudgedLaws.{judged_some, judged_none}

-- the field area begins at 58 or 78
pub area_most : (version : ℕ) → area_at version ≤ 0x78
area_most version = go (leb version 0x04)
  where
    go : (t : Bool) → cond t 0x58 0x78 ≤ 0x78
    go true = omega arith
    go false = omega arith

-- ---- a pair

pub width_unknown : (keyed : Bool) (k : Option FieldKind) (w : ℕ) → k ≡ None → judged_if (allowed keyed k) w ≡ None
unfolding judged_if allowed
width_unknown keyed k w e = rw e

pub width_known : (keyed : Bool) (k : Option FieldKind) (kind : FieldKind) (w : ℕ) (t : Bool) → k ≡ Some kind →
    (keyed && is_blob kind) ≡ t → judged_if (allowed keyed k) w ≡ judged_if (not t) w
unfolding allowed
width_known keyed k kind w t e f = rw (e, f)

-- ---- widths added up

pub sum_more : (t : List ℕ) (area f : ℕ) → width_sum t area (f + 1) ≡ width_sum t area f + width_at t area f
unfolding width_sum
sum_more t area f = rw add-one

pub sum_small : (t : List ℕ) (area f : ℕ) → Bytes t → width_sum t area f ≤ 255 * f
unfolding width_sum
sum_small t area zero h = omega arith
sum_small t area (suc f) h = omega (arith, sum_small t area f h, h (area + 2 * f + 1))

pub offsets_more : (t : List ℕ) (area f : ℕ) →
    set (offsets_of t area f) (f + 1) (width_sum t area (f + 1)) ≡ offsets_of t area (f + 1)
unfolding offsets_of
offsets_more t area f = rw add-one

pub offsets_length : (t : List ℕ) (area n : ℕ) → length (offsets_of t area n) ≡ 256
unfolding offsets_of
offsets_length t area zero = length-replicate {A = ℕ} 256 0
offsets_length t area (suc n) =
    length-set (offsets_of t area n) (suc n) (width_sum t area (suc n)) ∙ offsets_length t area n

-- the pass over the pairs after f of them
abbrev pub Added : List ℕ → ℕ → ℕ → ℕ → List ℕ → ℕ → ℕ → Type 0
Added t area keys n offsets sum f =
    (sum ≡ width_sum t area f) × (each (pair_right t area keys) f ≡ true) × (offsets ≡ offsets_of t area f)

pub added_none : (t : List ℕ) (area keys n : ℕ) (offsets : List ℕ) → offsets ≡ replicate 256 0 →
    Added t area keys n offsets 0 0
unfolding width_sum each offsets_of
added_none t area keys n offsets e = (refl, refl, e)

module _ (t : List ℕ) (area keys n : ℕ) (offsets : List ℕ) (sum f : ℕ) (p : Added t area keys n offsets sum f)
    (l : f < n) where
  pub added_more : (width : ℕ) → judged_if (pair_right t area keys f) (width_at t area f) ≡ Some width →
      Added t area keys n (set offsets (f + 1) (sum + width)) (sum + width) (f + 1)
  added_more width e =
      let q = judged_some (pair_right t area keys f) (width_at t area f) width e in
      let s : sum + width ≡ width_sum t area (f + 1) = rw (p.0, q.1) (sym (sum_more t area f)) in
      (s, each_more (pair_right t area keys) f p.1 q.0, rw (p.2, s) (offsets_more t area f))

  pub added_broken : judged_if (pair_right t area keys f) (width_at t area f) ≡ None →
      each (pair_right t area keys) n ≡ false
  added_broken e =
      each_fails (pair_right t area keys) n f l (judged_none (pair_right t area keys f) (width_at t area f) e)

  -- a width is a byte
  pub added_byte : Bytes t → (width : ℕ) → judged_if (pair_right t area keys f) (width_at t area f) ≡ Some width →
      width < 256
  added_byte h width e =
      rw (judged_some (pair_right t area keys f) (width_at t area f) width e).1 (h (area + 2 * f + 1))

  -- the sum fits a word
  pub added_small : Bytes t → n ≤ most_fields → (width : ℕ) → width < 256 → sum + width < 65536
  added_small h m width w = omega (arith, p.0, sum_small t area f h)

-- ---- offsets found

-- place i of the offsets of n fields is the widths of the first i fields added up
pub offset_at : (t : List ℕ) (area n i : ℕ) → n ≤ most_fields → i ≤ n →
    get_or (offsets_of t area n) i 0 ≡ width_sum t area i
unfolding offsets_of width_sum
offset_at t area zero i m l = let e : i ≡ 0 = omega arith in rw e
offset_at t area (suc n) i m l = ⊎_elim here (before (λ k. offset_at t area n i (omega arith) k)) (eq-or-lt_of_le l)
  where
    here : i ≡ suc n → get_or (offsets_of t area (suc n)) i 0 ≡ width_sum t area i
    here e =
        rw e (get_or-set_same (offsets_of t area n) (suc n) (width_sum t area (suc n)) 0
        (omega (arith, offsets_length t area n)))

    before : (i ≤ n → get_or (offsets_of t area n) i 0 ≡ width_sum t area i) → i < suc n →
        get_or (offsets_of t area (suc n)) i 0 ≡ width_sum t area i
    before ih k =
        get_or-set_other (offsets_of t area n) (suc n) i (width_sum t area (suc n)) 0 (λ e. omega arith)
        ∙ ih (omega arith)
