-- An entry of an index as it is read along with the used chain: a level 1 entry by the next block that holds records,
-- and one above it by the block that it names. Assumes nothing.
use Prim.Native.Nat.{ℕ, ◌+◌, ◌≤◌, ◌<◌}
use mathlib.Core.Path.{◌≡◌, sym, ap, subst, ◌∙◌}
use mathlib.Core.Bool.{Bool, true, false}
use native.Mathlib.Nat.{pos_of_ne-zero}
use native.Mathlib.Omega.{arith}
use lib.ListN.{length}
use Rattle.std.specs.Prelude.{Option, Some, None}
use Rattle.std.specs.declared.cmp.Ordering.{Ordering}
use Rattle.words.specs.Order.{is_same, order, range}
use Rattle.blocks.specs.Shape.{record_at}
use Rattle.blocks.proofs.CountLaws.{record_in_file}
use Rattle.chain.specs.Links.{next_of}
use Rattle.index.specs.Header.{entry_numbers}
use Rattle.index.specs.Entries.{entries_in, entry_key, entry_block, block_number}
use Rattle.index.proofs.EntryLaws.{WithEntries, with_entries, entry_inside}
use Rattle.pair.specs.Tree.{Entry, entry_at}
use Rattle.pair.specs.Steps.{holding_from, is_expected, shapes_in, entry_of, block_of, leaf_of, Descendable}
use Rattle.pair.specs.Looked.{block_looked_of, entry_looked_of}
use Rattle.pair.specs.declared.tree.Pair.{Pair}
use Rattle.pair.proofs.HoldingLaws.{Holding, keys_next}
use Rattle.pair.proofs.FollowLaws.{up_to, up_to_good, unexpected_end, unexpected_block, expected_tested}
use Rattle.pair.proofs.FollowLaws.{follow_one, follow_none}
use Rattle.pair.proofs.FollowLaws.{block_some, entry_read, key_tested, entry_leaf, entry_unfit, entry_other}
use Rattle.pair.proofs.FollowLaws.{entry_fits}

module _ {pair : Pair} where
  -- what going down asks holds on, where the first entries of a block come to
  pub descend_on : (level b i c d : ℕ) → Descendable pair c →
      up_to pair.table.bytes.now pair.index.bytes.now (shapes_in pair) level b i c ≡ Some d → Descendable pair d
  descend_on level b i c d a e =
      record {
        chain = up_to_good pair.table.bytes.now pair.index.bytes.now (shapes_in pair) level b i c d a.chain e;
        few = a.few;
        short = a.short;
        size = a.size;
      }

  -- ---- a level 1 entry, where the chain is at number c

  module _ {c : ℕ} (asked : Descendable pair c) (at named block : ℕ)
      (next : block ≡ holding_from pair.table.bytes.now pair.table.shape c) where
    -- the entry at the offset
    abbrev leaf : Entry
    leaf = record { key = range pair.index.bytes.now at pair.key_length; block = named }

    unexpected : is_expected pair.table.bytes.now pair.table.shape pair.key_length leaf c ≡ false →
        None ≡ leaf_of pair at named c
    unexpected e = sym (follow_none _ _ _ leaf c e)

    -- no block is to come
    pub leaf_end : block ≡ 0 → None ≡ leaf_of pair at named c
    leaf_end z = unexpected (unexpected_end _ _ _ leaf c (sym next ∙ z))

    module _ (some : block ≡ 0 → ⊥) where
      more : holding_from pair.table.bytes.now pair.table.shape c ≡ 0 → ⊥
      more z = some (next ∙ z)

      -- the next one has a first record, and the chain goes on after it
      pub leaf_holding : Holding pair.table.bytes.now pair.table.shape block
      leaf_holding = rw next (keys_next _ _ pair.key_length c asked.chain more).0

      pub first_inside : record_at pair.table.shape block 0 + pair.key_length ≤ length pair.table.bytes.now
      first_inside =
          let w = leaf_holding in
          let i = record_in_file _ _ pair.table.sound block _ w.counted w.low w.high 0 (omega arith) in
          omega (arith, asked.short, i)

      -- the entry names another
      pub leaf_other : (named ≡ block → ⊥) → None ≡ leaf_of pair at named c
      leaf_other other =
          unexpected (unexpected_block _ _ _ leaf c more (λ z. other (z ∙ sym next)))

      -- or it, and its key is compared with that of its first record, which stands at an offset
      module _ (same : named ≡ block) {first : ℕ} (stands : first ≡ record_at pair.table.shape block 0) {o : Ordering}
          (compared : o ≡ order leaf.key (range pair.table.bytes.now first pair.key_length)) {r : Bool}
          (is : r ≡ is_same o) where
        tested : is_expected pair.table.bytes.now pair.table.shape pair.key_length leaf c ≡ r
        tested = expected_tested _ _ _ leaf c more block first o r next same stands compared is

        pub leaf_unlike : r ≡ false → None ≡ leaf_of pair at named c
        leaf_unlike f = unexpected (tested ∙ f)

        pub leaf_follows : r ≡ true → (d : ℕ) → d ≡ next_of pair.table.bytes.now pair.table.shape block →
            Some d ≡ leaf_of pair at named c
        leaf_follows f d e = rw (e, next) (sym (follow_one _ _ _ leaf c (tested ∙ f)))

  -- ---- an entry of an index block

  -- its key and its numbers are inside the index
  pub entry_ends : {c at : ℕ} (b i : ℕ) → Descendable pair c → i < entries_in pair.index.bytes.now pair.index.shape b →
      at ≡ record_at pair.index.shape b i → at + pair.key_length + entry_numbers ≤ length pair.index.bytes.now
  entry_ends b i asked there place =
      omega (arith, place, entry_inside _ _ b pair.index.sound pair.key_length i asked.size there)

-- entry i of block b is there, its offset and the block that it names are read, and the chain is at number c
pub record EntryRead (pair : Pair) (b i c at named : ℕ) : Type 0 where
  pub asked : Descendable pair c
  pub there : i < entries_in pair.index.bytes.now pair.index.shape b
  pub place : at ≡ record_at pair.index.shape b i
  pub names : named ≡ block_number pair.index.bytes.now (at + pair.key_length)

module _ {pair : Pair} where
  pub read_entry : {b i c at named : ℕ} → Descendable pair c →
      i < entries_in pair.index.bytes.now pair.index.shape b → at ≡ record_at pair.index.shape b i →
      named ≡ block_number pair.index.bytes.now (at + pair.key_length) → EntryRead pair b i c at named
  read_entry d l p n = record { asked = d; there = l; place = p; names = n }

  module _ {b i c at named : ℕ} (r : EntryRead pair b i c at named) where
    abbrev its : Entry
    its = entry_at pair.index.bytes.now pair.index.shape pair.key_length b i

    named_is : named ≡ its.block
    unfolding entry_block
    named_is = rw (← r.place) r.names

    -- at level 0
    module _ {level : ℕ} (z : level ≡ 0) where
      pub entry_as_leaf : {fit : Option ℕ} → fit ≡ leaf_of pair at named c → fit ≡ entry_of pair level b i c
      entry_as_leaf f = f ∙ entry_read _ _ _ b i c at named r.place named_is ∙ sym (entry_leaf _ _ _ level its c z)

    -- above, where its block came to a number of the chain or to none, and so many entries were looked at
    module _ {level : ℕ} (above : level ≡ 0 → ⊥) {fit : Option ℕ} (came : fit ≡ block_of pair level named c) where
      least : 1 ≤ level
      least = pos_of_ne-zero above

      came_here : fit ≡ block_of pair level its.block c
      came_here = came ∙ ap (λ (m : ℕ). block_of pair level m c) named_is

      pub below_unfit : fit ≡ None → None ≡ entry_of pair level b i c
      below_unfit u = sym (entry_unfit _ _ _ level its c least (sym came_here ∙ u))

      module _ (next : ℕ) (fits : fit ≡ Some next) where
        fitted : block_of pair level its.block c ≡ Some next
        fitted = sym came_here ∙ fits

        -- the block that it names has a first entry
        some : 0 < entries_in pair.index.bytes.now pair.index.shape named
        some =
            subst (λ (m : ℕ). 0 < entries_in pair.index.bytes.now pair.index.shape m) (sym named_is)
            (block_some _ _ _ level its.block c next least fitted)

        pub named_there : WithEntries pair.index.bytes.now pair.index.shape named
        named_there = with_entries pair.index.bytes.now pair.index.shape named some

        pub first_ends : record_at pair.index.shape named 0 + pair.key_length ≤ length pair.index.bytes.now
        first_ends = omega (arith, entry_inside _ _ named pair.index.sound pair.key_length 0 r.asked.size some)

        -- whose key, which stands at an offset, is compared with its own
        module _ {first : ℕ} (stands : first ≡ record_at pair.index.shape named 0) {o : Ordering}
            (compared : o ≡ order (range pair.index.bytes.now at pair.key_length)
            (range pair.index.bytes.now first pair.key_length)) {p : Bool} (is : p ≡ is_same o) where
          its_key :
              is_same (order its.key (entry_key pair.index.bytes.now pair.index.shape pair.key_length its.block 0)) ≡ p
          its_key =
              key_tested pair.table.bytes.now _ (shapes_in pair) b i at named first o p r.place named_is stands
              compared is

          pub key_unlike : p ≡ false → None ≡ entry_of pair level b i c
          key_unlike f = sym (entry_other _ _ _ level its c least (its_key ∙ f))

          pub key_alike : p ≡ true → Some next ≡ entry_of pair level b i c
          key_alike f = sym (entry_fits _ _ _ level its c least next fitted (its_key ∙ f))

  -- the entries looked at below it, and itself
  pub its_looked : {b i c at named entries : ℕ} (level : ℕ) → EntryRead pair b i c at named →
      entries ≡ block_looked_of pair level named c →
      entries + 1 ≡ entry_looked_of pair level b i c
  its_looked {b} {i} {c} {at} {named} level r e =
      omega (arith, e ∙ ap (λ (m : ℕ). block_looked_of pair level m c) (named_is r))
