-- `blob_at` meets its contract: zeros, the leader, or the MB file. Assumes nothing.
use mathlib.Core.Path.{sym, ap, ◌∙◌, subst}
use Prim.Native.Nat.{ℕ, ◌≤◌, ◌<◌}
use Rattle.std.specs.Prelude.{Ok}
use Rattle.blob.specs.Leader.{leader_size, offset_at}
use Rattle.blob.specs.Blob.{Answer, part, body_of}
use Rattle.blob.specs.declared.answer.Blob.TheVariants.{InTable}
use Rattle.blob.proofs.BlobLaws.{blob_blank, blob_leader, blob_body}
use Rattle.blob.proofs.leader.blob_at.Goals as goal

pub returns-then-all_zero : goal.returns-then-all_zero
returns-then-all_zero c =
    let v = c.args in
    blob_blank v.table.now v.mb.now v.at v.width (sym c.all_zero.ensures ∙ c.if-all_zero.true)

pub returns-then-len-leader : goal.returns-then-len-leader
returns-then-len-leader c =
    let v = c.args in
    let l = c.long-len.ensures in
    let z = sym c.all_zero.ensures ∙ c.if-all_zero.false in
    ap {B = Answer} (λ (n : ℕ). Ok (InTable (part v.at n))) l
    ∙ blob_leader v.table.now v.mb.now v.at v.width z
    (subst (λ (n : ℕ). n ≤ leader_size v.width) l c.if-len-leader.true)

pub returns : goal.returns
returns c =
    let v = c.args in
    let l = c.long-len.ensures in
    let z = sym c.all_zero.ensures ∙ c.if-all_zero.false in
    c.body.ensures
    ∙ ap (λ (o : ℕ). body_of v.mb.now o c.long-len.result) c.long.ensures
    ∙ ap (λ (n : ℕ). body_of v.mb.now (offset_at v.table.now v.at v.width) n) l
    ∙ blob_body v.table.now v.mb.now v.at v.width z
    (subst (λ (n : ℕ). leader_size v.width < n) l c.if-len-leader.false)
