use Rattle.std.proofs.Common.{arith, ap, refl}
use Rattle.std.specs.Prelude.{option_copied}
use Rattle.amo_door.proofs.Blame.{too_great}
use Rattle.amo_door.proofs.call.read_wait.Goals as goal

pub returns-in-Some-2-clause-refused : goal.returns-in-Some-2-clause-refused
returns-in-Some-2-clause-refused c = λ side.
    let read = c.in-Some-read_decimal.ensures in
    let wrong = too_great c.in-Some.text.now c.in-Some-read_decimal.wait 60 read.fits (omega arith) c.if-wait-le-LONGEST_WAIT.false read.found in
    (c.in-Some.text.now, refl, ap option_copied c.in-Some.is, wrong)

pub returns-in-Some-2-2-clause-refused : goal.returns-in-Some-2-2-clause-refused
returns-in-Some-2-2-clause-refused c = λ side.
    (c.in-Some.text.now, refl, ap option_copied c.in-Some.is, λ wait within. c.in-Some-2.ensures.none wait (omega arith))
