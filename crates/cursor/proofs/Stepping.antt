-- Over an accepted table stepping from the start gives every record, in chain order, and then the end. Assumes nothing.
use Prim.Native.Nat.{ℕ, zero, suc, ◌+◌, ◌≤◌}
use mathlib.Core.Path.{◌≡◌, refl, ap}
use mathlib.Core.Bool.{true}
use mathlib.Core.List.{List, [], ◌∷◌, ◌++◌}
use Rattle.std.specs.Prelude.{Some, Ok}
use native.Mathlib.Nat.{zero-add}
use native.Mathlib.Numerals.{add-one}
use native.Mathlib.Omega.{arith}
use lib.ListN.{length}
use Rattle.header.specs.Refusals.{kept}
use Rattle.header.specs.Numbers.{numbers_of}
use Rattle.blocks.specs.Shape.{shape_of}
use Rattle.blocks.specs.Counts.{count_in}
use Rattle.blocks.specs.declared.Shape.{Shape}
use Rattle.blocks.proofs.ShapeLaws.{shape_blocks}
use Rattle.chain.specs.Links.{next_of, used_of}
use Rattle.chain.specs.Rules.{GoodChain}
use Rattle.chain.proofs.GoodChainLaws.{Block, good_none, good_some}
use Rattle.table.specs.Records.{Position, held, places_from, records_in, records_of}
use Rattle.table.specs.Table.{table_answer}
use Rattle.table.specs.Rules.{AcceptedTable}
use Rattle.table.proofs.GoodChainLaws.{good_begins}
use Rattle.table.proofs.OnceLaws.{record_once, record_no_more}
use Rattle.table.proofs.RuleLaws.{accepted_table}
use Rattle.cursor.specs.Cursor.{Stepped, at_end, standing, in_reach, first_from, start_of, step_of}
use Rattle.cursor.specs.Rules.{position_of, Gives, none, one, EveryRecord}
use Rattle.cursor.specs.declared.Cursor.{Cursor}
use Rattle.cursor.specs.declared.Step.TheVariants.{Record}
use Rattle.cursor.proofs.CursorLaws.{in_reach_lem, from_end, from_record, from_empty, step_stays, step_moves}
use Rattle.cursor.proofs.CursorLaws.{start_accepted, step_accepted}

module _ (t : List ℕ) (room : ℕ) (accepted : table_answer t room ≡ kept) where
  abbrev g : Shape
  g = shape_of (numbers_of t)

  -- from a place of a block on: its n + 1 records that are left, then what comes after the block
  places_give : (b moves count : ℕ) → in_reach g b moves ≡ true → count_in t g b ≡ Some count
      → (rest : List Position) → ((back : Cursor) → Gives t (first_from t g back (moves + 1) (next_of t g b)) rest)
      → (n place : ℕ) → place + suc n ≡ count
      → Gives t (Ok (Record (standing b place moves))) (places_from b place (suc n) ++ rest)
  unfolding places_from
  places_give b moves count e k rest after zero place s =
      let c = standing b place moves in
      one {c = c} {ps = rest} (rw (
        step_accepted t room accepted c refl,
        step_moves t g c e count k (omega arith)
            (omega arith),
      ) (after c))
  places_give b moves count e k rest after (suc n) place s =
      let c = standing b place moves in
      one {c = c} {ps = places_from b (suc place) (suc n) ++ rest}
      (rw (step_accepted t room accepted c refl, step_stays t g c e count k (omega arith), add-one)
      (places_give b moves count e k rest after n (suc place) (omega arith)))

  -- from a number of the chain on
  chain_gives : (bs : List ℕ) (b moves : ℕ) → GoodChain t g b bs → moves + length bs ≤ g.blocks → (back : Cursor) →
      Gives t (first_from t g back moves b) (records_in t g bs)
  unfolding records_in held places_from
  chain_gives [] b moves c l back = rw (from_end t g back moves b (good_none t g b c)) none
  chain_gives (x ∷ bs) b moves c l back =
      let p = good_some t g b x bs c in
      rw (p.0, p.1.counted) (by_count_lem p.1 (in_reach_lem g x moves p.1.low p.1.high (omega arith))
      (λ back. chain_gives bs (next_of t g x) (moves + 1) p.1.onward (omega arith) back))
    where
      by_count_lem : (q : Block t g x bs) → in_reach g x moves ≡ true →
          ((back : Cursor) → Gives t (first_from t g back (moves + 1) (next_of t g x)) (records_in t g bs))
          → Gives t (first_from t g back moves x) (places_from x 0 q.count ++ records_in t g bs)
      by_count_lem q e after = go q.count q.counted
        where
          ne : x ≡ 0 → ⊥
          ne z = omega (arith, q.low)

          go : (n : ℕ) → count_in t g x ≡ Some n →
              Gives t (first_from t g back moves x) (places_from x 0 n ++ records_in t g bs)
          go zero k = rw (from_empty t g back moves x ne e 0 k refl) (after back)
          go (suc n) k =
              rw (from_record t g back moves x ne e (suc n) k (λ z. omega arith))
              (places_give x moves (suc n) e k (records_in t g bs) after n 0 (zero-add (suc n)))

-- ---- what stepping gives is determined

pub gives_only : (t : List ℕ) (s : Stepped) (ps qs : List Position) → Gives t s ps → Gives t s qs → ps ≡ qs
unfolding at_end
gives_only t s ps qs none none = refl
gives_only t s ps qs (one {c = c} {ps = us} g) (one {ps = vs} k) =
    ap (λ (r : List Position). position_of c ∷ r) (gives_only t (step_of t c) us vs g k)

-- ---- over an accepted table every record comes once, in chain order, and then the end; nothing is refused

start_gives : (t : List ℕ) (room : ℕ) → table_answer t room ≡ kept → AcceptedTable t (numbers_of t) →
    Gives t (start_of t) (records_of t (numbers_of t))
start_gives t room e a =
    let h = numbers_of t in
    rw (start_accepted t room e) (chain_gives t room e (used_of t h) h.first 0 (good_begins t h a)
    (omega (arith, a.few_blocks, shape_blocks h)) at_end)

pub stepping : (t : List ℕ) (room : ℕ) → table_answer t room ≡ kept → EveryRecord t (numbers_of t)
stepping t room e =
    let h = numbers_of t in
    let a = accepted_table t room e in
    let g = start_gives t room e a in
    record {
      gives = g;
      exactly = λ ps k. gives_only t (start_of t) ps (records_of t h) k g;
      once = λ p. record_once p t h a;
      no_more = λ p. record_no_more p t h a;
    }
