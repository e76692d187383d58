-- The table of field kinds: a code and a width looked up in it, and its rows. Assumes nothing.
use Prim.Native.Nat.{ℕ, ◌≤◌, ◌<◌}
use mathlib.Core.Path.{◌≡◌, refl, sym, ◌∙◌}
use mathlib.Core.Bool.{Bool, true, false, cond, not, ◌&&◌, true≢false}
use mathlib.Core.List.Memᴰ
use mathlib.Core.List.{List, [], ◌∷◌, Memᴰ}
use mathlib.Core.Logic.{◌⊎◌, inl, inr}
use native.Mathlib.Nat.{le_antisymm}
use native.Mathlib.Omega.{arith}
use lib.Dec.{eqb, leb}
use borrow.Author.Tests.{eq-eqb, ne_eqb, eqb-true, eqb-false, le-leb, lt-leb, leb-true, leb-false, not-true}
use Rattle.words.proofs.Conjunctions.{both}
use Rattle.header.specs.Kinds.{Row, row, kinds, permit, kind_in, kind_of, is_blob, Permitted}
use Rattle.header.specs.Rules.{GoodPair}
use Rattle.header.specs.declared.kind.FieldKind.{FieldKind}
use Rattle.header.specs.declared.kind.FieldKind.TheVariants.{Text, Date, Short, Long, Number, Logical, Blob}
use Rattle.std.specs.Prelude.{Option, Some, None}
use Rattle.std.specs.Bool.{then_some}

-- ---- a width within its limits, or not

pub permit_within : (kind : FieldKind) (width least most : ℕ) → least ≤ width → width ≤ most →
    permit kind width least most ≡ Some kind
unfolding permit
permit_within kind width least most l m = rw (le-leb least width l, le-leb width most m)

pub permit_is : (kind : FieldKind) (width least most : ℕ) →
    then_some (leb least width && leb width most) kind ≡ permit kind width least most
unfolding permit
permit_is kind width least most = go (leb least width && leb width most)
  where
    go : (b : Bool) → then_some b kind ≡ cond b (Some kind) None
    go true = refl
    go false = refl

pub permit_narrow : (kind : FieldKind) (width least most : ℕ) → width < least → permit kind width least most ≡ None
unfolding permit
permit_narrow kind width least most l = rw (lt-leb least width l)

pub permit_wide : (kind : FieldKind) (width least most : ℕ) → most < width → permit kind width least most ≡ None
unfolding permit
permit_wide kind width least most m = go (leb least width)
  where
    go : (t : Bool) → cond (t && leb width most) (Some kind) None ≡ None
    go true = rw (lt-leb width most m)
    go false = refl

-- ---- a code that no row has

pub unknown_code : (code width : ℕ) →
    (code ≡ 0x01 → ⊥) → (code ≡ 0x02 → ⊥) → (code ≡ 0x03 → ⊥) → (code ≡ 0x04 → ⊥) → (code ≡ 0x05 → ⊥) →
    (code ≡ 0x06 → ⊥) → (code ≡ 0x09 → ⊥) → (code ≡ 0x0C → ⊥) → (code ≡ 0x0D → ⊥) → (code ≡ 0x0E → ⊥) →
    (code ≡ 0x0F → ⊥) → (code ≡ 0x10 → ⊥) → kind_of code width ≡ None
unfolding kind_of kind_in kinds
unknown_code code width text date short long currency number logical memo binary formatted ole graphic =
    simp (
      ne_eqb code 0x01 text,
      ne_eqb code 0x02 date,
      ne_eqb code 0x03 short,
      ne_eqb code 0x04 long,
      ne_eqb code 0x05 currency,
      ne_eqb code 0x06 number,
      ne_eqb code 0x09 logical,
      ne_eqb code 0x0C memo,
      ne_eqb code 0x0D binary,
      ne_eqb code 0x0E formatted,
      ne_eqb code 0x0F ole,
      ne_eqb code 0x10 graphic,
    )

-- a row that permits no width
pub permit_none : (kind : FieldKind) (width : ℕ) → permit kind width 1 0 ≡ None
permit_none kind width = go (leb 1 width) refl
  where
    go : (t : Bool) → leb 1 width ≡ t → permit kind width 1 0 ≡ None
    go true e = permit_wide kind width 1 0 (omega (arith, leb-true 1 width e))
    go false e = permit_narrow kind width 1 0 (omega (arith, leb-false 1 width e))

-- ---- what a kind says of the width

permit_gives : (kind found : FieldKind) (width least most : ℕ) → permit kind width least most ≡ Some found →
    (kind ≡ found) × (least ≤ width) × (width ≤ most)
unfolding permit
permit_gives kind found width least most e = go (leb least width) refl (leb width most) refl e
  where
    go : (p : Bool) → leb least width ≡ p → (q : Bool) → leb width most ≡ q →
        cond (p && q) (Some kind) None ≡ Some found → (kind ≡ found) × (least ≤ width) × (width ≤ most)
    go true a true b f = (cc, leb-true least width a, leb-true width most b)
    go true a false b f = let z : ◌≡◌ {A = ℕ} 0 1 = cc in absurd (omega arith)
    go false a q b f = let z : ◌≡◌ {A = ℕ} 0 1 = cc in absurd (omega arith)

-- what every row permits
Every : (FieldKind → ℕ → Type 0) → List Row → Type 0
Every holds [] = Unit
Every holds (row code kind least most ∷ rows) =
    ((width : ℕ) → least ≤ width → width ≤ most → holds kind width) × Every holds rows

in_rows : (holds : FieldKind → ℕ → Type 0) (rows : List Row) → Every holds rows → (code width : ℕ) (kind : FieldKind) →
    kind_in rows code width ≡ Some kind → holds kind width
unfolding Every kind_in
in_rows holds [] all code width kind e = let z : ◌≡◌ {A = ℕ} 0 1 = cc in absurd (omega arith)
in_rows holds (row its k least most ∷ rows) all code width kind e =
    go (eqb code its) e (in_rows holds rows all.1 code width kind)
  where
    go : (b : Bool) → cond b (permit k width least most) (kind_in rows code width) ≡ Some kind →
        (kind_in rows code width ≡ Some kind → holds kind width) → holds kind width
    go true f ih =
        let p = permit_gives k kind width least most f in
        rw p.0 at (all.0 width p.1 p.2)
    go false f ih = ih f

-- a pair that the table has is of a width that its kind permits
pub kind_width : (code width : ℕ) (kind : FieldKind) → kind_of code width ≡ Some kind → Permitted kind width
unfolding kind_of kinds Permitted Every
kind_width code width kind e =
    let only : (n w : ℕ) → n ≤ w → w ≤ n → w ≡ n = λ n w l m. le_antisymm m l in
    in_rows Permitted kinds (
      λ w l m. (l, m),
      (
        only 4,
        (
          only 2,
          (
            only 4,
            (
              only 8,
              (
                only 8,
                (
                  only 1,
                  (
                    λ w l m. (omega arith, m),
                    (λ w l m. (l, m), (λ w l m. (l, m), (λ w l m. (l, m), (λ w l m. (l, m), tt)))),
                  ),
                ),
              ),
            ),
          ),
        ),
      ),
    ) code width kind e

-- no kind permits a width of 0
permitted_some : (kind : FieldKind) (width : ℕ) → Permitted kind width → 1 ≤ width
unfolding Permitted
permitted_some Text w p = p.0
permitted_some Date w p = omega arith
permitted_some Short w p = omega arith
permitted_some Long w p = omega arith
permitted_some Number w p = omega arith
permitted_some Logical w p = omega arith
permitted_some Blob w p = omega arith

pub known_width : (code width : ℕ) → (kind_of code width ≡ None → ⊥) → 1 ≤ width
known_width code width h = go (kind_of code width) refl
  where
    go : (k : Option FieldKind) → kind_of code width ≡ k → 1 ≤ width
    go None e = absurd (h e)
    go (Some kind) e = permitted_some kind width (kind_width code width kind e)

-- ---- the table by its rows: a pair has a kind exactly when a row permits it

-- no row has a code
without : ℕ → List Row → Bool
without code [] = true
without code (row its kind least most ∷ rows) = not (eqb code its) && without code rows

-- no two rows have the same code
distinct : List Row → Bool
distinct [] = true
distinct (row code kind least most ∷ rows) = without code rows && distinct rows

-- the code of a row is not one that no row has
apart : (its code : ℕ) (kind : FieldKind) (least most : ℕ) (rows : List Row) → without its rows ≡ true →
    Memᴰ (row code kind least most) rows → eqb code its ≡ false
unfolding without
apart its code kind least most [] w m = absurd (Memᴰ.not-nil m)
apart its code kind least most (row one k l n ∷ rows) w m =
    let p = both {a = not (eqb its one)} {b = without its rows} w in
    go p.0 (apart its code kind least most rows p.1) (Memᴰ.cases_cons m)
  where
    go : not (eqb its one) ≡ true → (Memᴰ (row code kind least most) rows → eqb code its ≡ false) →
        (row code kind least most ≡ row one k l n) ⊎ Memᴰ (row code kind least most) rows → eqb code its ≡ false
    go ne ih (inl e) =
        let same : code ≡ one = cc in
        ne_eqb code its (λ f. eqb-false its one (not-true (eqb its one) ne) (sym f ∙ same))
    go ne ih (inr later) = ih later

-- a row of some rows that permits a pair
record RowFor (rows : List Row) (code width : ℕ) (kind : FieldKind) : Type 0 where
  least : ℕ
  most : ℕ
  listed : Memᴰ (row code kind least most) rows
  low : least ≤ width
  high : width ≤ most

row_gives : (rows : List Row) (code width : ℕ) (kind : FieldKind) → kind_in rows code width ≡ Some kind →
    RowFor rows code width kind
unfolding kind_in
row_gives [] code width kind e = let z : ◌≡◌ {A = ℕ} 0 1 = cc in absurd (omega arith)
row_gives (row its k l m ∷ rows) code width kind e = go (eqb code its) refl e (row_gives rows code width kind)
  where
    go : (b : Bool) → eqb code its ≡ b → cond b (permit k width l m) (kind_in rows code width) ≡ Some kind →
        (kind_in rows code width ≡ Some kind → RowFor rows code width kind) →
        RowFor (row its k l m ∷ rows) code width kind
    go true f g ih =
        let p = permit_gives k kind width l m g in
        let same : row code kind l m ≡ row its k l m = rw (eqb-true code its f, p.0) in
        record { least = l; most = m; listed = Memᴰ.head same; low = p.1; high = p.2 }
    go false f g ih =
        let r = ih g in
        record {
          least = r.least;
          most = r.most;
          listed = Memᴰ.tail r.listed;
          low = r.low;
          high = r.high;
        }

row_takes : (rows : List Row) → distinct rows ≡ true → (code width : ℕ) (kind : FieldKind) (least most : ℕ) →
    Memᴰ (row code kind least most) rows → least ≤ width → width ≤ most → kind_in rows code width ≡ Some kind
unfolding kind_in distinct
row_takes [] d code width kind least most m low high = absurd (Memᴰ.not-nil m)
row_takes (row its k l n ∷ rows) d code width kind least most m low high =
    let p = both {a = without its rows} {b = distinct rows} d in
    go (row_takes rows p.1 code width kind least most) (apart its code kind least most rows p.0)
    (Memᴰ.cases_cons m)
  where
    go : (Memᴰ (row code kind least most) rows → least ≤ width → width ≤ most →
        kind_in rows code width ≡ Some kind) → (Memᴰ (row code kind least most) rows → eqb code its ≡ false) →
        (row code kind least most ≡ row its k l n) ⊎ Memᴰ (row code kind least most) rows →
        cond (eqb code its) (permit k width l n) (kind_in rows code width) ≡ Some kind
    go ih ne (inl e) =
        let code_same : code ≡ its = cc in
        let kind_same : kind ≡ k = cc in
        let least_same : least ≡ l = cc in
        let most_same : most ≡ n = cc in
        rw (eq-eqb code its code_same, ← kind_same, ← least_same, ← most_same)
        (permit_within kind width least most low high)
    go ih ne (inr later) = rw (ne later) (ih later low high)

-- the codes of the table are distinct
kinds_distinct : distinct kinds ≡ true
unfolding kinds distinct without
kinds_distinct = refl

module _ (code width : ℕ) (kind : FieldKind) where
  pub kind_gives : kind_of code width ≡ Some kind → GoodPair code width kind
  unfolding kind_of
  kind_gives e =
      let r = row_gives kinds code width kind e in
      record { least = r.least; most = r.most; listed = r.listed; wide_enough = r.low; narrow_enough = r.high }

  pub kind_takes : GoodPair code width kind → kind_of code width ≡ Some kind
  unfolding kind_of
  kind_takes p =
      row_takes kinds kinds_distinct code width kind p.least p.most p.listed p.wide_enough
      p.narrow_enough

  -- a pair that the table permits is not unknown
  pub pair_known : GoodPair code width kind → kind_of code width ≡ None → ⊥
  pair_known p e = let k = kind_takes p in let z : ◌≡◌ {A = ℕ} 0 1 = cc in omega arith

-- ---- blobs

-- they are one kind
pub blob_kind : (kind : FieldKind) → is_blob kind ≡ true → kind ≡ Blob
unfolding is_blob
blob_kind Text e = absurd (true≢false (sym e))
blob_kind Date e = absurd (true≢false (sym e))
blob_kind Short e = absurd (true≢false (sym e))
blob_kind Long e = absurd (true≢false (sym e))
blob_kind Number e = absurd (true≢false (sym e))
blob_kind Logical e = absurd (true≢false (sym e))
blob_kind Blob e = refl
