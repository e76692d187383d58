-- The records of some blocks: how many, where each is; good counts; and the key rule, test and proposition.
-- Assumes nothing.
use Rattle.std.specs.Prelude.{Option, Some, None}
use Prim.Native.Nat.{ℕ, zero, suc, ◌+◌, ◌-◌, ◌≤◌, ◌<◌}
use mathlib.Core.Path.{◌≡◌, refl, sym, ap, ◌∙◌}
use mathlib.Core.Bool.{true, false≢true}
use mathlib.Core.List.{List, [], ◌∷◌, ◌++◌, append_assoc}
use mathlib.Core.Logic.{⊎_elim}
use native.Mathlib.Nat.{not-suc-le-zero, eq-or-lt_of_le, add-zero, zero-add}
use native.Mathlib.Omega.{arith}
use lib.ListN.{length, get_or, length-append, get_or-append}
use lib.Seq.{get_or-append-add}
use Rattle.words.specs.Order.{is_less, order}
use Rattle.std.specs.declared.cmp.Ordering.TheVariants.{Less}
use Rattle.words.proofs.Cases.{lt_or_ge}
use Rattle.words.proofs.Conjunctions.{both, join}
use Rattle.words.proofs.OrderLaws.{is_less_lem, less_trans}
use Rattle.blocks.specs.Counts.{count_in}
use Rattle.blocks.specs.declared.Shape.{Shape}
use Rattle.chain.proofs.ListLaws.{every_gives}
use Rattle.table.specs.Records.{Position, held, places_from, records_in}
use Rattle.table.specs.Counts.{is_good, counts_good, total}
use Rattle.table.specs.Keys.{ascend_from, ascend}
use Rattle.table.specs.Rules.{Ascending, Counted}

-- ---- how many

places_length : (b place n : ℕ) → length (places_from b place n) ≡ n
unfolding places_from
places_length b place zero = refl
places_length b place (suc n) = ap suc (places_length b (suc place) n)

-- there are as many records as the counts add up to
pub records_total : (t : List ℕ) (g : Shape) (bs : List ℕ) → length (records_in t g bs) ≡ total t g bs
unfolding records_in total
records_total t g [] = refl
records_total t g (b ∷ bs) =
    length-append (places_from b 0 (held (count_in t g b))) (records_in t g bs)
    ∙ rw (places_length b 0 (held (count_in t g b)), records_total t g bs)

-- the records of some blocks and of others after them
pub records_append : (t : List ℕ) (g : Shape) (bs cs : List ℕ) →
    records_in t g (bs ++ cs) ≡ records_in t g bs ++ records_in t g cs
unfolding records_in
records_append t g [] cs = refl
records_append t g (b ∷ bs) cs =
    rw (records_append t g bs cs) (sym (append_assoc (places_from b 0 (held (count_in t g b))) (records_in t g bs)
    (records_in t g cs)))

-- ---- counts

good_not_bad : (c : Option ℕ) → is_good c ≡ true → c ≡ None → ⊥
unfolding is_good
good_not_bad c e f = false≢true (rw f at e)

-- a good count is one of records
pub good_count : (c : Option ℕ) → is_good c ≡ true → c ≡ Some (held c)
unfolding is_good held
good_count (Some n) e = refl
good_count None e = absurd (false≢true e)

-- where every count is good, none is bad
pub counts_give : (t : List ℕ) (g : Shape) (bs : List ℕ) → counts_good t g bs ≡ true → (i : ℕ) → i < length bs →
    count_in t g (get_or bs i 0) ≡ None → ⊥
counts_give t g bs e i l =
    good_not_bad (count_in t g (get_or bs i 0)) (every_gives (λ (b : ℕ). is_good (count_in t g b)) bs e i l)

-- ---- keys

from_gives : (before : List ℕ) (keys : List (List ℕ)) → ascend_from before keys ≡ true → Ascending (before ∷ keys)
unfolding ascend_from
from_gives before [] e i l = absurd (omega arith)
from_gives before (key ∷ keys) e zero l =
    is_less_lem (order before key) (both {a = is_less (order before key)} {b = ascend_from key keys} e).0
from_gives before (key ∷ keys) e (suc i) l =
    from_gives key keys (both {a = is_less (order before key)} {b = ascend_from key keys} e).1 i (omega arith)

from_takes : (before : List ℕ) (keys : List (List ℕ)) → Ascending (before ∷ keys) → ascend_from before keys ≡ true
unfolding ascend_from
from_takes before [] h = refl
from_takes before (key ∷ keys) h =
    join (ap is_less (h 0 (omega arith))) (from_takes key keys (λ i l. h (suc i) (omega arith)))

-- keys pass the test exactly when each is less than the one after it
pub ascend_gives : (keys : List (List ℕ)) → ascend keys ≡ true → Ascending keys
unfolding ascend
ascend_gives [] e i l = absurd (omega arith)
ascend_gives (key ∷ keys) e i l = from_gives key keys e i l

pub ascend_takes : (keys : List (List ℕ)) → Ascending keys → ascend keys ≡ true
unfolding ascend
ascend_takes [] h = refl
ascend_takes (key ∷ keys) h = from_takes key keys h

-- and then of any two the earlier is less
pub ascending_pairs : (keys : List (List ℕ)) → Ascending keys → (i j : ℕ) → i < j → j < length keys →
    order (get_or keys i []) (get_or keys j []) ≡ Less
ascending_pairs keys h i zero l m = absurd (not-suc-le-zero l)
ascending_pairs keys h i (suc j) l m =
    ⊎_elim
    (λ (e : i ≡ j). rw e (h j m))
    (λ (k : i < j). less_trans (get_or keys i []) (get_or keys j []) (get_or keys (suc j) [])
    (ascending_pairs keys h i j k (omega arith)) (h j m))
    (eq-or-lt_of_le {n = i} {m = j} (omega arith))

-- ---- where each is

places_at : (b place n i : ℕ) (d : Position) → i < n →
    get_or (places_from b place n) i d ≡ record { block = b; place = place + i }
unfolding places_from
places_at b place zero i d l = absurd (not-suc-le-zero l)
places_at b place (suc n) zero d l = rw add-zero
places_at b place (suc n) (suc i) d l =
    let e : suc place + i ≡ place + suc i = omega arith in places_at b (suc place) n i d (omega arith) ∙ rw e

module _ (t : List ℕ) (g : Shape) (b : ℕ) (bs : List ℕ) where
  first_counted : (i : ℕ) → i < held (count_in t g b) → Counted t g (b ∷ bs) (record { block = b; place = 0 + i })
  first_counted i l = record { index = 0; inside = omega arith; block_there = refl; place_below = rw zero-add l }

  later_counted : (p : Position) → Counted t g bs p → Counted t g (b ∷ bs) p
  later_counted p w =
      record {
        index = suc w.index;
        inside = omega (arith, w.inside);
        block_there = w.block_there;
        place_below = w.place_below;
      }

-- every record is one that its block counts
pub record_where : (t : List ℕ) (g : Shape) (bs : List ℕ) (i : ℕ) (d : Position) → i < length (records_in t g bs) →
    Counted t g bs (get_or (records_in t g bs) i d)
unfolding records_in
record_where t g [] i d l = absurd (not-suc-le-zero l)
record_where t g (b ∷ bs) i d l =
    let n = held (count_in t g b) in
    let own = places_from b 0 n in
    let size : length own ≡ n = places_length b 0 n in
    let more : length (own ++ records_in t g bs) ≡ length own + length (records_in t g bs) = length-append own
    (records_in t g bs) in
    ⊎_elim
    (λ (h : i < n). rw (get_or-append own (records_in t g bs) d i (rw size h), places_at b 0 n i d h)
    (first_counted t g b bs i h))
    (λ (h : n ≤ i). let e : i ≡ length own + (i - n) = omega arith in
    rw (ap (λ (k : ℕ). get_or (own ++ records_in t g bs) k d) e ∙ get_or-append-add own (records_in t g bs) (i - n) d)
    (later_counted t g b bs (get_or (records_in t g bs) (i - n) d) (record_where t g bs (i - n) d (omega arith))))
    (lt_or_ge i n)
