-- The key rule (refusal 10): the keys of all records, as stored bytes. Definitions only.
use Rattle.std.specs.Prelude.{ℕ, Bool, true, cond, ◌&&◌, List, [], ◌∷◌, map, leb}
use Rattle.words.specs.Order.{is_less, order, range}
use Rattle.header.specs.declared.Header.{Header}
use Rattle.blocks.specs.Shape.{shape_of, record_at}
use Rattle.blocks.specs.declared.Shape.{Shape}
use Rattle.chain.specs.Links.{used_of}
use Rattle.table.specs.Records.{Position, records_in}

-- a record's key of n bytes: its first n bytes
abbrev pub key_at : List ℕ → Shape → ℕ → Position → List ℕ
key_at t g n p = range t (record_at g p.block p.place) n

-- the keys of some records
abbrev pub keys_at : List ℕ → Shape → ℕ → List Position → List (List ℕ)
keys_at t g n ps = map (key_at t g n) ps

-- the keys of the records of some blocks, block by block
abbrev pub keys_in : List ℕ → Shape → ℕ → List ℕ → List (List ℕ)
keys_in t g n bs = keys_at t g n (records_in t g bs)

-- the keys of a table's records, in chain order
abbrev pub keys_of : List ℕ → Header → List (List ℕ)
keys_of t h = keys_in t (shape_of h) h.key_length (used_of t h)

-- each key is less than the one after it; a key stands before the first
unfoldable pub ascend_from : List ℕ → List (List ℕ) → Bool
ascend_from before [] = true
ascend_from before (key ∷ keys) = is_less (order before key) && ascend_from key keys

-- keys strictly ascend in byte order
unfoldable pub ascend : List (List ℕ) → Bool
ascend [] = true
ascend (key ∷ keys) = ascend_from key keys

-- 10: with key fields, the keys of all records of the used blocks strictly ascend; the key length is the header's
unfoldable pub keys_ascend : List ℕ → Header → List ℕ → Bool
keys_ascend t h used = cond (leb 1 h.key_fields) (ascend (keys_in t (shape_of h) h.key_length used)) true
