-- `walk` meets its contract: 1 to 7, 13, 21 to 26, then the walk from the root. Assumes nothing.
use Rattle.std.specs.Prelude.{Result, Ok, Err}
use Rattle.std.proofs.lemmas.Result.{err_from_is_err_and}
use mathlib.Core.Path.{◌≡◌, refl, sym, ap, ◌∙◌}
use mathlib.Core.Bool.{true}
use Rattle.header.specs.declared.refusal.Refusal.{Refusal}
use Rattle.header.specs.declared.refusal.Refusal.TheVariants.{BadArgument}
use Rattle.header.specs.Numbers.{numbers_of}
use Rattle.header.proofs.AcceptedLaws.{read_numbers, numbers_accepted}
use Rattle.blocks.specs.Shape.{shape_of}
use Rattle.lookup.specs.Sought.{key_fits}
use Rattle.index.specs.Header.{index_of}
use Rattle.index.specs.Walk.{found_after, walk_key, walk_of, walked_numbers, walk_numbers}
use Rattle.index.specs.declared.walking.Walked.{Walked}
use Rattle.index.proofs.WalkLaws.{walks, walk_refused_first, walk_behind, key_unfit, index_refused}
use Rattle.index.proofs.AcceptedLaws.{accepted_index}
use Rattle.index.proofs.WalkLaws.{walk_rootless, walk_rooted, walkable}
use Rattle.index.proofs.walking.walk.Goals as goal
use Rattle.index.proofs.walking.walk.Goals.{Else-not-key_fits, In_ok-table, In_ok-i, After-of}

pub returns-in_err-table : goal.returns-in_err-table
returns-in_err-table c =
    let v = c.args in
    let p = err_from_is_err_and c.from_residual.result c.from_residual.ensures.1 in
    let e = walks v.table.now v.index.now v.key.now c.from_residual.result
    (p.1 ∙ ap Err p.2
    ∙ sym (walk_refused_first v.table.now v.index.now v.key.now _ c.in_err-table.ensures.its_header refl)) in
    record { value = e.0; result_value = e.1 }

-- where the table's header is accepted

header : (c : In_ok-table) → c.in_ok-table.table.header ≡ numbers_of c.args.table.now
header c = read_numbers c.args.table.now _ c.in_ok-table.ensures.its_header refl

-- the table's file has its shape
shape : (c : After-of) → c.of.result.shape ≡ shape_of (numbers_of c.args.table.now)
shape c =
    let header = read_numbers c.args.table.now _ c.in_ok-table.ensures.its_header refl in
    c.of.ensures.shape ∙ ap shape_of header

-- what is answered behind it
answers : (c : In_ok-table) → let v = c.args in (w : Result Walked Refusal)
    → w ≡ walk_key v.table.now (numbers_of v.table.now) v.index.now v.key.now
    → (w ≡ walk_of v.table.now v.index.now v.key.now)
    × (walked_numbers w ≡ walk_numbers v.table.now v.index.now v.key.now)
answers c w e =
    let v = c.args in
    walks v.table.now v.index.now v.key.now w
    (e ∙ sym (walk_behind v.table.now v.index.now v.key.now _ c.in_ok-table.ensures.its_header refl))

pub returns-then-not-key_fits : goal.returns-then-not-key_fits
returns-then-not-key_fits c =
    let v = c.args in
    let at = (goal.at.returns-then-not-key_fits c).In_ok-table in
    let unfit = rw (header at) at (sym c.key_fits.ensures ∙ c.if-not-key_fits.true) in
    let e = answers at (Err BadArgument) (sym (key_unfit v.table.now v.index.now v.key.now unfit)) in
    record { value = e.0; result_value = e.1 }

-- where the key fits

fits : (c : Else-not-key_fits) → key_fits (numbers_of c.args.table.now) c.args.key.now ≡ true
fits c =
    let header = read_numbers c.args.table.now _ c.in_ok-table.ensures.its_header refl in
    rw header at (sym c.key_fits.ensures ∙ c.if-not-key_fits.false)

pub returns-in_err-i : goal.returns-in_err-i
returns-in_err-i c =
    let v = c.args in
    let h = (goal.at.returns-in_err-i c).In_ok-table in
    let p = err_from_is_err_and c.from_residual-in_err-i.result c.from_residual-in_err-i.ensures.1 in
    let index = rw (header h) at c.in_err-i.ensures in
    let e = answers h c.from_residual-in_err-i.result
    (p.1 ∙ ap Err p.2
    ∙ sym (index_refused v.table.now v.index.now v.key.now (fits (goal.at.returns-in_err-i c).Else-not-key_fits) _
    (sym index))) in
    record { value = e.0; result_value = e.1 }

-- the index's header is read for the table's key length
index : (c : In_ok-i) → index_of c.args.index.now (numbers_of c.args.table.now).key_length ≡ Ok c.in_ok-i.i
index c =
    let header = read_numbers c.args.table.now _ c.in_ok-table.ensures.its_header refl in
    sym (rw header at c.in_ok-i.ensures)

pub returns-then-i-eq0 : goal.returns-then-i-eq0
unfolding found_after
returns-then-i-eq0 c =
    let v = c.args in
    let p = goal.at.returns-then-i-eq0 c in
    let e = answers p.In_ok-table _ (sym (walk_rootless v.table.now v.index.now v.key.now (fits p.Else-not-key_fits)
    c.in_ok-i.i (index p.In_ok-i) c.if-i-eq0.true)) in
    record { value = e.0; result_value = e.1 }

pub invariant_of-index : goal.invariant_of-index
invariant_of-index c =
    let at = (goal.at.invariant_of-index c).In_ok-i in
    record { sound = (accepted_index c.args.index.now _ c.in_ok-i.i (index at)).sound }

pub walk_tree-requires : goal.walk_tree-requires
walk_tree-requires c =
    let v = c.args in
    let p = goal.at.walk_tree-requires c in
    rw (shape p.After-of)
    (walkable v.table.now v.index.now v.key.now (fits p.Else-not-key_fits) c.in_ok-i.i (index p.In_ok-i)
    (numbers_accepted v.table.now _ c.in_ok-table.ensures.its_header refl))

pub returns : goal.returns
returns c =
    let v = c.args in
    let p = goal.at.returns c in
    let bytes = c.of.ensures.bytes ∙ c.in_ok-table.ensures.its_bytes in
    let tree = rw (bytes, shape p.After-of) at c.walk_tree.ensures in
    let e = answers p.In_ok-table c.walk_tree.result
    (tree ∙ sym (walk_rooted v.table.now v.index.now v.key.now (fits p.Else-not-key_fits) c.in_ok-i.i (index p.In_ok-i)
    c.if-i-eq0.false)) in
    record { value = e.0; result_value = e.1 }
