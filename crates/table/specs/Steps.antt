-- What the private functions that go along a chain ask and answer. No rule is stated here. Definitions only.
use Rattle.std.specs.Prelude.{ℕ, zero, suc, ◌+◌, ◌≤◌, ◌≡◌, Bool, true, false, cond, eqb, length}
use Rattle.std.specs.Prelude.{Option, Some, None, Err}
use Rattle.std.specs.Option.{is_some, IfSome}
use mathlib.Core.List.{List, foldl}
use Rattle.words.specs.Order.{is_less, order, range}
use Rattle.header.specs.Refusals.{Verdict}
use Rattle.header.specs.declared.refusal.Refusal.TheVariants.{WrongCount}
use Rattle.header.specs.Header.{most_blocks}
use Rattle.header.specs.declared.Header.{Header}
use Rattle.blocks.specs.Shape.{shape_of, record_at}
use Rattle.blocks.specs.Counts.{count_in}
use Rattle.blocks.specs.declared.Shape.{Shape}
use Rattle.chain.specs.Chain.{names, last_of}
use Rattle.chain.specs.Links.{previous_of, blocks_from, used_of}
use Rattle.chain.specs.Marks.{used_mark, free_mark, marks_of}
use Rattle.chain.specs.Following.{takes_all, marked, any_two}
use Rattle.table.specs.Table.{table_chained, tests_answer}
use Rattle.table.specs.declared.keys.Keys.{Keys}
use Rattle.table.specs.declared.keys.Keys.TheVariants.{Empty, Last, Unordered}
use Rattle.table.specs.declared.tally.Tally.{Tally}
use Rattle.table.specs.declared.used.UsedChain.{UsedChain}

-- ---- keys

-- the keys passed, with one more at an offset
unfoldable pub next_key : List ℕ → ℕ → Keys → ℕ → Keys
next_key t key Empty at = Last at
next_key t key (Last last) at = cond (is_less (order (range t last key) (range t at key))) (Last at) Unordered
next_key t key Unordered at = Unordered

-- the keys passed, with those of n records of block b from a place on
unfoldable pub keys_after : List ℕ → Shape → ℕ → ℕ → ℕ → ℕ → Keys → Keys
keys_after t g key b place zero keys = keys
keys_after t g key b place (suc n) keys = keys_after t g key b (suc place) n (next_key t key keys (record_at g b place))

-- the keys passed, with those of a block's n records; without key fields, key length 0, no key is looked at
unfoldable pub run_after : List ℕ → Shape → ℕ → ℕ → ℕ → Keys → Keys
run_after t g key b n keys = cond (eqb key 0) keys (keys_after t g key b 0 n keys)

-- every key passed was less than the one after it
unfoldable pub is_ordered : Keys → Bool
is_ordered Empty = true
is_ordered (Last last) = true
is_ordered Unordered = false

-- the last key passed stands inside the table
pub data KeyInside (t : List ℕ) (key : ℕ) : Keys → Type 0 where
  none : KeyInside t key Empty
  last : {at : ℕ} → at + key ≤ length t → KeyInside t key (Last at)
  unordered : KeyInside t key Unordered

-- ---- blocks

-- before the first block
unfoldable pub nothing : Tally
nothing = record { records = 0; keys = Empty }

-- the tally with block b by its count; there is none with a bad one
unfoldable pub add_count : List ℕ → Shape → ℕ → Tally → ℕ → Option ℕ → Option Tally
add_count t g key tally b (Some n) =
    Some (record { records = tally.records + n; keys = run_after t g key b n tally.keys })
add_count t g key tally b None = None

-- the tally with block b; behind a bad count there is none
unfoldable pub add_block : List ℕ → Shape → ℕ → Option Tally → ℕ → Option Tally
add_block t g key (Some tally) b = add_count t g key tally b (count_in t g b)
add_block t g key None b = None

-- the tally of some blocks
abbrev pub tally_of : List ℕ → Shape → ℕ → List ℕ → Option Tally
tally_of t g key bs = foldl (add_block t g key) (Some nothing) bs

-- a tally of at most so many records, whose last key stands inside the table
pub data TallyWithin (t : List ℕ) (key most : ℕ) : Option Tally → Type 0 where
  uncounted : TallyWithin t key most None
  counted : {tally : Tally} → tally.records ≤ most → KeyInside t key tally.keys → TallyWithin t key most (Some tally)

-- so many records leave room for those of one block more: a sum of 32 bits, a count of 16
abbrev pub most_before : ℕ
most_before = 4294901760

-- what a tally of the used blocks answers where the chain rules are kept and their counts are good: 9, 10, or kept
unfoldable pub tally_answer : Tally → ℕ → Verdict
tally_answer tally records = tests_answer true (eqb tally.records records) (is_ordered tally.keys)

-- what it answers where the chain rules are kept: with a bad count 9
unfoldable pub counted_answer : Option Tally → ℕ → Verdict
counted_answer (Some tally) records = tally_answer tally records
counted_answer None records = Err WrongCount

-- ---- chains

-- what following the used chain asks: a mark for each block, and a key that is part of its record
pub record Followable (g : Shape) (key : ℕ) (m : List ℕ) : Type 0 where
  pub short : key ≤ g.record_size
  pub few : g.blocks ≤ most_blocks
  pub long : length m ≡ g.blocks

-- what it answers, and leaves in the marks
pub record UsedFollowed (t : List ℕ) (g : Shape) (key first : ℕ) (m : List ℕ) (r : Option UsedChain) (m' : List ℕ)
    : Type 0 where
  pub judged : is_some r ≡ takes_all (names (previous_of t g)) used_mark 0 (blocks_from t g first) m
  pub ended : IfSome r (λ used. used.last ≡ last_of 0 (blocks_from t g first))
  pub stored : IfSome r (λ used. m' ≡ marked used_mark (blocks_from t g first) m)
  pub tallied : IfSome r (λ used. used.tally ≡ tally_of t g key (blocks_from t g first))

-- what following the free chain answers, and leaves in the marks
pub record FreeFollowed (t : List ℕ) (g : Shape) (first : ℕ) (m : List ℕ) (whole : Bool) (m' : List ℕ) : Type 0 where
  pub judged : whole ≡ takes_all any_two free_mark 0 (blocks_from t g first) m
  pub stored : whole ≡ true → m' ≡ marked free_mark (blocks_from t g first) m

-- what marking both chains answers, and leaves in the marks
pub record ChainsMarked (t : List ℕ) (h : Header) (r : Option UsedChain) (m' : List ℕ) : Type 0 where
  pub judged : is_some r ≡ table_chained t h
  pub stored : IfSome r (λ used. m' ≡ marks_of h.blocks (used_of t h))
  pub tallied : IfSome r (λ used. used.tally ≡ tally_of t (shape_of h) h.key_length (used_of t h))
