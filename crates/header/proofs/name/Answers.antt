-- `name` meets its contract: the part ends inside the table, and is the name's. Assumes nothing.
use mathlib.Core.Path.{◌≡◌, sym, ap, ◌∙◌}
use Prim.Native.Nat.{ℕ, ◌+◌, ◌-◌, ◌≤◌}
use native.Mathlib.Omega.{arith}
use lib.ListN.{length, take, drop}
use Rattle.words.specs.Order.{behind}
use Rattle.header.proofs.NamedLaws.{at_inside, no_bytes, its_bytes}
use Rattle.header.proofs.name.Goals as goal
use Rattle.header.proofs.name.Goals.{In-Ok}

pub returns-in_default : goal.returns-in_default
returns-in_default c =
    let v = c.args in
    let q = no_bytes v.t.now v.field _ (sym c.in_default.is ∙ c.find_name.ensures) in
    let z : v.t.ref_ptr.1 ≡ 0 + v.t.ref_ptr.1 = omega arith in
    record {
      result_value = sym q.0;
      ref_ptr_value = ap (λ (n : ℕ). (v.t.ref_ptr.0, n)) z ∙ ap (behind v.t.ref_ptr) (sym q.1);
    }

inside : (c : In-Ok) → c.in-Ok.part.start + c.in-Ok.part.len ≤ length c.args.t.now
inside c = at_inside c.args.t.now c.args.field c.in-Ok.part (sym c.in-Ok.is ∙ c.find_name.ensures)

pub overflow_add-result : goal.overflow_add-result
overflow_add-result c = omega (arith, inside (goal.at.overflow_add-result c).In-Ok)

pub slice_bounds-result-end-2 : goal.slice_bounds-result-end-2
slice_bounds-result-end-2 c = omega (arith, inside (goal.at.slice_bounds-result-end-2 c).In-Ok)

pub returns : goal.returns
returns c =
    let v = c.args in
    let start = c.in-Ok.part.start in
    let len = c.in-Ok.part.len in
    let q = its_bytes v.t.now v.field c.in-Ok.part (sym c.in-Ok.is ∙ c.find_name.ensures) in
    let l : start + len - start ≡ len = omega arith in
    record {
      result_value = ap (λ (n : ℕ). take n (drop start v.t.now)) l ∙ sym q.0;
      ref_ptr_value = ap (behind v.t.ref_ptr) (sym q.1);
    }
