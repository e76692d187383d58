-- `body` meets its contract: the unit, the block, what it states, and that the blob ends inside it. No sum wraps: base,
-- begin and length have 32 bits each. Assumes nothing.
use native.Mathlib.Omega.{arith}
use mathlib.Core.Path.{◌≡◌, sym, ◌∙◌}
use Rattle.std.specs.Prelude.{Some, Err}
use borrow.Author.Rules.{rules}
use Rattle.header.specs.declared.refusal.Refusal.TheVariants.{UnfitBlob}
use Rattle.blob.specs.Mb.{low_byte, base_of, stated_at}
use Rattle.blob.specs.Blob.{Answer}
use Rattle.blob.specs.Steps.{size_in}
use Rattle.blob.proofs.MbLaws.{size_some}
use Rattle.blob.proofs.BlobLaws.{body_off, body_outside, body_nothing, body_fits, body_unfit}
use Rattle.blob.proofs.mb.body.Goals as goal
use Rattle.blob.proofs.mb.body.Goals.{In_ok-size, In_ok-stated}

pub returns-then-base-ne0 : goal.returns-then-base-ne0
returns-then-base-ne0 c = let v = c.args in body_off v.mb.now v.offset v.len c.if-base-ne0.true

pub returns-in_err-size : goal.returns-in_err-size
returns-in_err-size c =
    let v = c.args in
    let q : ◌≡◌ {A = Answer} c.from_residual.result (Err UnfitBlob) = search rules in
    q ∙ body_outside v.mb.now v.offset v.len (sym c.size_in.ensures ∙ c.in_err-size.ensures.ok_part)

-- there is a block
block : (c : In_ok-size) → let v = c.args in size_in v.mb.now (base_of v.offset) ≡ Some c.in_ok-size.size
block c = sym c.size_in.ensures ∙ c.in_ok-size.ensures.ok_part

pub stated_at-requires : goal.stated_at-requires
stated_at-requires c =
    let v = c.args in
    let p = size_some v.mb.now (base_of v.offset) (block c) in
    omega (arith, p.0, p.1)

pub returns-in_err-stated : goal.returns-in_err-stated
returns-in_err-stated c =
    let v = c.args in
    let q : ◌≡◌ {A = Answer} c.from_residual-in_err-stated.result (Err UnfitBlob) = search rules in
    q
    ∙ body_nothing v.mb.now v.offset v.len c.if-base-ne0.false (block (goal.at.returns-in_err-stated c).In_ok-size)
    (sym c.stated_at.ensures ∙ c.in_err-stated.ensures.ok_part)

-- and it states a blob
stated : (c : In_ok-stated) → let v = c.args in
    stated_at v.mb.now (base_of v.offset) (low_byte v.offset) ≡ Some c.in_ok-stated.stated
stated c = sym c.stated_at.ensures ∙ c.in_ok-stated.ensures.ok_part

pub returns-then-stated-len : goal.returns-then-stated-len
returns-then-stated-len c =
    let v = c.args in
    let s = c.in_ok-stated.stated in
    let p = goal.at.returns-then-stated-len c in
    body_fits v.mb.now v.offset v.len c.if-base-ne0.false (block p.In_ok-size) s.begin s.len (stated p.In_ok-stated)
    c.if-stated-len.true

pub returns : goal.returns
returns c =
    let v = c.args in
    let s = c.in_ok-stated.stated in
    let p = goal.at.returns c in
    body_unfit v.mb.now v.offset v.len c.if-base-ne0.false (block p.In_ok-size) s.begin s.len (stated p.In_ok-stated)
    c.if-stated-len.false
