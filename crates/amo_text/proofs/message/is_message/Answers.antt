use Rattle.std.proofs.Common.{arith}
use Rattle.std.proofs.lemmas.Bool.{leb-true, le-leb}
use Rattle.amo_text.proofs.HexDigits.{same_length}
use Rattle.amo_text.proofs.message.is_message.Goals as goal

pub returns-in-Some : goal.returns-in-Some
returns-in-Some c =
    let (m, bytes, spelt, count) = c.in-Some.ensures.found in (
      (λ small. (m, (omega (arith, count, leb-true c.in-Some.length 1024 small), bytes), spelt)),
      (λ (k, known, e). let same = same_length c.args.field.now k m known.1 bytes e spelt in le-leb c.in-Some.length 1024 (omega (arith, same, count, known.0))),
    )
