-- `put_head` meets its contract: seven pieces, one behind the other. Assumes nothing.
use mathlib.Core.List.{[], ◌∷◌, ◌++◌}
use native.Mathlib.Omega.{arith}
use Rattle.buffer.specs.Pieces.{Wrote}
use Rattle.buffer.specs.Text.{decimal}
use Rattle.buffer.proofs.PieceLaws.{wrote_then, wrote_length, at_front}
use Rattle.buffer.proofs.TextLaws.{decimal_most}
use Rattle.listing.specs.Listing.{newline, fields_word, key_word, records_word, head_text}
use Rattle.listing.proofs.HeadLaws.{fields_text, keys_text, fields_most, keys_most, head_most}
use Rattle.listing.proofs.put_head.Goals as goal
use Rattle.listing.proofs.put_head.Goals.{After-put_decimal-fields_end, After-put_decimal-keys_end}

pub put_decimal-fields_end-requires : goal.put_decimal-fields_end-requires
put_decimal-fields_end-requires c =
    let a = c.put-fields_at.ensures in
    let v = c.args in
    record { fits = omega (arith, a.ends, wrote_length a, decimal_most v.fields) }

-- as far as the number of fields
fields-put : (c : After-put_decimal-fields_end) → let v = c.args in
    Wrote v.out.now 0 (fields_text v.fields) c.put_decimal-fields_end.new.out c.put_decimal-fields_end.result
fields-put c = wrote_then fields_word (decimal _) c.put-fields_at.ensures c.put_decimal-fields_end.ensures

pub put-keys_at-requires : goal.put-keys_at-requires
put-keys_at-requires c =
    let w = fields-put (goal.at.put-keys_at-requires c).After-put_decimal-fields_end in
    let v = c.args in
    record { fits = omega (arith, w.ends, wrote_length w, fields_most v.fields) }

pub put_decimal-keys_end-requires : goal.put_decimal-keys_end-requires
put_decimal-keys_end-requires c =
    let w = fields-put (goal.at.put_decimal-keys_end-requires c).After-put_decimal-fields_end in
    let a = c.put-keys_at.ensures in
    let v = c.args in
    let m = decimal_most v.keys in
    record { fits = omega (arith, w.ends, wrote_length w, fields_most v.fields, a.ends, wrote_length a, m) }

-- as far as the number of key fields
keys-put : (c : After-put_decimal-keys_end) → let v = c.args in
    Wrote v.out.now 0 (keys_text v.fields v.keys) c.put_decimal-keys_end.new.out c.put_decimal-keys_end.result
keys-put c =
    let w = wrote_then fields_word (decimal _) c.put-fields_at.ensures c.put_decimal-fields_end.ensures in
    let a = wrote_then (fields_text _) key_word w c.put-keys_at.ensures in
    wrote_then (fields_text _ ++ key_word) (decimal _) a c.put_decimal-keys_end.ensures

pub put-records_at-requires : goal.put-records_at-requires
put-records_at-requires c =
    let w = keys-put (goal.at.put-records_at-requires c).After-put_decimal-keys_end in
    let v = c.args in
    record { fits = omega (arith, w.ends, wrote_length w, keys_most v.fields v.keys) }

pub put_decimal-end-requires : goal.put_decimal-end-requires
put_decimal-end-requires c =
    let w = keys-put (goal.at.put_decimal-end-requires c).After-put_decimal-keys_end in
    let a = c.put-records_at.ensures in
    let v = c.args in
    let m = keys_most v.fields v.keys in
    record { fits = omega (arith, w.ends, wrote_length w, m, a.ends, wrote_length a, decimal_most v.records) }

pub put_byte-requires : goal.put_byte-requires
put_byte-requires c =
    let w = keys-put (goal.at.put_byte-requires c).After-put_decimal-keys_end in
    let a = c.put-records_at.ensures in
    let b = c.put_decimal-end.ensures in
    let v = c.args in
    let m = keys_most v.fields v.keys in
    let d = decimal_most v.records in
    record { fits = omega (arith, w.ends, wrote_length w, m, a.ends, wrote_length a, b.ends, wrote_length b, d) }

pub returns : goal.returns
unfolding head_text
returns c =
    let v = c.args in
    let k = keys_text v.fields v.keys in
    let r = decimal v.records in
    let w = keys-put (goal.at.returns c).After-put_decimal-keys_end in
    let a = wrote_then k records_word w c.put-records_at.ensures in
    let b = wrote_then (k ++ records_word) r a c.put_decimal-end.ensures in
    let w = wrote_then (k ++ records_word ++ r) (newline ∷ []) b c.put_byte.ensures in
    let m = head_most v.fields v.keys v.records in
    let both_clauses = at_front v.out.now (head_text v.fields v.keys v.records) _ _ (omega (arith, m)) w in
    record { prefix_len = both_clauses.0; at_front = both_clauses.1 }
