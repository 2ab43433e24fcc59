use Rattle.std.proofs.Common.{arith}
use Rattle.std.proofs.lemmas.List.{length-take-le}
use Rattle.amo_text.proofs.HexDigits.{same_length, spells_decoded}
use Rattle.amo_text.proofs.hexadecimal.read_hex.Goals as goal

pub returns-then-count-room-clause-none : goal.returns-then-count-room-clause-none
returns-then-count-room-clause-none c = λ m bytes fits e.
    let (n, known, spelt, count) = c.in_ok-count.ensures.found in
    let same = same_length c.args.text.now m n bytes known e spelt in
    omega (arith, same, count, fits, c.if-count-room.true)

pub returns-then-count-gt0-clause-found : goal.returns-then-count-gt0-clause-found
returns-then-count-gt0-clause-found c =
    let (m, known, spelt, count) = c.in_ok-count.ensures.found in
    let fits = length-take-le c.in_ok-count.count c.args.room.now c.if-count-room.false in
    spells_decoded _ m _ _ _ _ known spelt count c.if-count-gt0.true (rw fits at c.decode_to_slice.ensures.value)
