-- `refused` meets its contract: three pieces, one behind the other. Assumes nothing.
use mathlib.Core.Path.{refl, ◌∙◌}
use mathlib.Core.List.{[], ◌∷◌, ◌++◌}
use native.Mathlib.Omega.{arith}
use Rattle.buffer.specs.Text.{decimal}
use Rattle.buffer.proofs.PieceLaws.{wrote_then, wrote_length, at_front}
use Rattle.buffer.proofs.TextLaws.{decimal_most}
use Rattle.listing.specs.Listing.{newline, refused_word, refused_text}
use Rattle.listing.proofs.HeadLaws.{refused_most}
use Rattle.listing.proofs.refused.Goals as goal

pub put_decimal-end-requires : goal.put_decimal-end-requires
put_decimal-end-requires c =
    let a = c.put-number_at.ensures in
    let m = decimal_most c.from-2.result in
    record { fits = omega (arith, a.ends, wrote_length a, m) }

pub put_byte-len-requires : goal.put_byte-len-requires
put_byte-len-requires c =
    let a = c.put-number_at.ensures in
    let b = c.put_decimal-end.ensures in
    let m = decimal_most c.from-2.result in
    record { fits = omega (arith, a.ends, wrote_length a, b.ends, wrote_length b, m) }

pub returns : goal.returns
unfolding refused_text
returns c =
    let v = c.args in
    let n = decimal c.from-2.result in
    let a = c.put-number_at.ensures in
    let b = c.put_decimal-end.ensures in
    let w = wrote_then (refused_word ++ n) (newline ∷ []) (wrote_then refused_word n a b) c.put_byte-len.ensures in
    let text = rw (c.from-2.ensures ∙ c.from.ensures) at w in
    let q = at_front v.out.now (refused_text v.refusal) _ _ (omega (arith, refused_most v.refusal)) text in
    record { prefix_len = q.0; at_front = q.1; records_value = refl }
