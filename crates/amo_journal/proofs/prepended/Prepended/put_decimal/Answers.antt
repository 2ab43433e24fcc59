use Rattle.std.proofs.Common.{arith}
use Rattle.std.proofs.lemmas.Fmt.{length-decimal-le}
use Rattle.amo_journal.proofs.prepended.Prepended.put_decimal.Goals as goal

-- a number of 64 bits has twenty digits at most
pub write_digits-self-inside-requires : goal.write_digits-self-inside-requires
write_digits-self-inside-requires c =
    let number = c.args.number in
    (omega (arith, length-decimal-le 20 number (omega arith) (omega (arith, c.ranges.number.fits)) c.ranges.number.fits, c.if-self-lt-DIGITS.false), omega (arith, c.self.invariant))
