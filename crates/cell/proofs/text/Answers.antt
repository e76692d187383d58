-- `text` meets its contract: the part ends inside the table, and its bytes are the text's. Assumes nothing.
use native.Mathlib.Omega.{arith}
use mathlib.Core.Path.{◌≡◌, sym, ap, ◌∙◌}
use Prim.Native.Nat.{ℕ, ◌+◌, ◌-◌}
use Rattle.std.specs.Prelude.{Ok}
use lib.ListN.{take, drop}
use Rattle.words.specs.Order.{behind}
use Rattle.cell.proofs.PlaceLaws.{HandedOut, text_handed_out, refused_handed_out, other_handed_out}
use Rattle.cell.proofs.text.Goals as goal
use Rattle.cell.proofs.text.Goals.{In-Text}

pub returns-in_default : goal.returns-in_default
returns-in_default c =
    let v = c.args in
    let q = refused_handed_out v.table.now v.block v.place v.field (sym c.read.ensures.value ∙ c.in_default.is) in
    let z : v.table.ref_ptr.1 ≡ 0 + v.table.ref_ptr.1 = omega arith in
    record {
      result_value = q.bytes;
      ref_ptr_value = ap (λ (n : ℕ). (v.table.ref_ptr.0, n)) z ∙ ap (behind v.table.ref_ptr) q.begins;
    }

pub returns-in_default-value : goal.returns-in_default-value
returns-in_default-value c =
    let v = c.args in
    let q = other_handed_out v.table.now v.block v.place v.field c.in-Ok.value (sym c.read.ensures.value ∙ c.in-Ok.is)
    c.in_default-value.not-Text in
    let z : v.table.ref_ptr.1 ≡ 0 + v.table.ref_ptr.1 = omega arith in
    record {
      result_value = q.bytes;
      ref_ptr_value = ap (λ (n : ℕ). (v.table.ref_ptr.0, n)) z ∙ ap (behind v.table.ref_ptr) q.begins;
    }

-- the text is the part that the value names
its : (c : In-Text) → let v = c.args in
    HandedOut v.table.now v.block v.place v.field c.in-Text.start c.in-Text.len
its c =
    let v = c.args in
    text_handed_out v.table.now v.block v.place v.field c.in-Text.start c.in-Text.len
    (sym c.read.ensures.value ∙ c.in-Ok.is ∙ ap Ok c.in-Text.is)

pub overflow_add-result : goal.overflow_add-result
overflow_add-result c = omega (arith, (its (goal.at.overflow_add-result c).In-Text).inside)

pub slice_bounds-result-end-2 : goal.slice_bounds-result-end-2
slice_bounds-result-end-2 c = omega (arith, (its (goal.at.slice_bounds-result-end-2 c).In-Text).inside)

pub returns : goal.returns
returns c =
    let v = c.args in
    let start = c.in-Text.start in
    let len = c.in-Text.len in
    let q = its (goal.at.returns c).In-Text in
    let l : start + len - start ≡ len = omega arith in
    record {
      result_value = ap (λ (n : ℕ). take n (drop start v.table.now)) l ∙ q.bytes;
      ref_ptr_value = ap (behind v.table.ref_ptr) q.begins;
    }
