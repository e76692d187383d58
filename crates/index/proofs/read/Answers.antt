-- `read` meets its contract: each test decides the next rule of the definition. Assumes nothing.
use Rattle.std.specs.Prelude.{Ok}
use mathlib.Core.Path.{◌≡◌, sym, ap, ◌∙◌}
use mathlib.Core.Bool.{true}
use lib.ListN.{length}
use borrow.Author.Tests.{le-leb, lt-leb}
use Rattle.header.specs.Header.{known_version}
use Rattle.index.specs.Stored.{stored_of}
use Rattle.index.specs.Header.{least_index, long_enough, is_index, limits_kept}
use Rattle.index.proofs.RuleLaws.{limits_give}
use Rattle.index.proofs.HeaderLaws.{broken_21, broken_22, broken_23, broken_25, broken_26, all_kept}
use Rattle.index.proofs.read.Goals as goal
use Rattle.index.proofs.read.Goals.{After-read_stored-s, Else-not-is_index, Else-not-known_version}
use Rattle.index.proofs.read.Goals.{Else-not-limits_kept}

-- ---- where a test is passed, its rule is kept

kept21 : (c : After-read_stored-s) → long_enough c.args.index.now ≡ true
unfolding long_enough
kept21 c = le-leb least_index (length c.args.index.now) c.if-index-lt-LEAST_LENGTH.false

kept22 : (c : Else-not-is_index) → is_index (stored_of c.args.index.now) ≡ true
kept22 c = sym (rw c.read_stored-s.ensures at c.is_index.ensures) ∙ c.if-not-is_index.false

kept23 : (c : Else-not-known_version) → known_version (stored_of c.args.index.now).version ≡ true
kept23 c = sym (rw c.read_stored-s.ensures at c.known_version.ensures) ∙ c.if-not-known_version.false

kept25 : (c : Else-not-limits_kept) → limits_kept c.args.key_length (stored_of c.args.index.now) ≡ true
kept25 c = sym (rw c.read_stored-s.ensures at c.limits_kept.ensures) ∙ c.if-not-limits_kept.false

-- ---- the answers

pub returns-then-index-lt-LEAST_LENGTH : goal.returns-then-index-lt-LEAST_LENGTH
unfolding long_enough
returns-then-index-lt-LEAST_LENGTH c =
    let v = c.args in
    sym (broken_21 v.index.now v.key_length
    (lt-leb least_index (length v.index.now) c.if-index-lt-LEAST_LENGTH.true))

pub returns-then-not-is_index : goal.returns-then-not-is_index
returns-then-not-is_index c =
    let v = c.args in
    let p = goal.at.returns-then-not-is_index c in
    sym (broken_22 v.index.now v.key_length (kept21 p.After-read_stored-s)
    (sym (rw c.read_stored-s.ensures at c.is_index.ensures) ∙ c.if-not-is_index.true))

pub returns-then-not-known_version : goal.returns-then-not-known_version
returns-then-not-known_version c =
    let v = c.args in
    let p = goal.at.returns-then-not-known_version c in
    sym (broken_23 v.index.now v.key_length (kept21 p.After-read_stored-s) (kept22 p.Else-not-is_index)
    (sym (rw c.read_stored-s.ensures at c.known_version.ensures) ∙ c.if-not-known_version.true))

pub returns-then-not-limits_kept : goal.returns-then-not-limits_kept
returns-then-not-limits_kept c =
    let v = c.args in
    let p = goal.at.returns-then-not-limits_kept c in
    sym (broken_25 v.index.now v.key_length (kept21 p.After-read_stored-s) (kept22 p.Else-not-is_index)
    (kept23 p.Else-not-known_version)
    (sym (rw c.read_stored-s.ensures at c.limits_kept.ensures) ∙ c.if-not-limits_kept.true))

pub returns-then-not-is_length_right : goal.returns-then-not-is_length_right
returns-then-not-is_length_right c =
    let v = c.args in
    let p = goal.at.returns-then-not-is_length_right c in
    sym (broken_26 v.index.now v.key_length (kept21 p.After-read_stored-s) (kept22 p.Else-not-is_index)
    (kept23 p.Else-not-known_version) (kept25 p.Else-not-limits_kept)
    (sym (rw c.read_stored-s.ensures at c.is_length_right.ensures) ∙ c.if-not-is_length_right.true))

pub accepted-requires : goal.accepted-requires
accepted-requires c =
    let v = c.args in
    let kept = kept25 (goal.at.accepted-requires c).Else-not-limits_kept in
    rw c.read_stored-s.ensures (limits_give v.key_length (stored_of v.index.now) kept).units_most

pub returns : goal.returns
returns c =
    let v = c.args in
    let p = goal.at.returns c in
    ap Ok (rw c.read_stored-s.ensures at c.accepted.ensures)
    ∙ sym (all_kept v.index.now v.key_length (kept21 p.After-read_stored-s) (kept22 p.Else-not-is_index)
    (kept23 p.Else-not-known_version) (kept25 p.Else-not-limits_kept)
    (sym (rw c.read_stored-s.ensures at c.is_length_right.ensures) ∙ c.if-not-is_length_right.false))
