use Rattle.std.proofs.Common.{sym, ◌∙◌}
use Rattle.amo_text.proofs.HexDigits.{IsPairs-hex, texts_differ, spelt_by_pairs}
use Rattle.amo_text.proofs.hexadecimal.hex_length.Goals as goal

pub returns-then-not-are_pairs-clause-none : goal.returns-then-not-are_pairs-clause-none
returns-then-not-are_pairs-clause-none c = λ m bytes e.
    let spelt = IsPairs-hex _ m bytes (λ dash. texts_differ _ _ c.if-eq.ensures (dash ∙ sym c.as_slice.ensures)) e in
    let pairs = c.are_pairs.ensures.1 spelt.0 in
    cc (pairs, c.if-not-are_pairs.true)

pub returns-clause-found : goal.returns-clause-found
returns-clause-found c = spelt_by_pairs c.args.text.now (c.are_pairs.ensures.0 c.if-not-are_pairs.false)
