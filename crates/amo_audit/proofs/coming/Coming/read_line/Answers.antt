use Rattle.std.proofs.Common.{arith}
use Rattle.amo_text.proofs.Readings.{shorter_behind}
use Rattle.amo_journal.specs.Journal.{InRange, fields_of}
use Rattle.amo_journal.proofs.Fields.{IsLine-fields_of}
use Rattle.amo_audit.proofs.Together.{comes, none_comes}
use Rattle.amo_audit.proofs.coming.Coming.read_line.Goals as goal

pub returns-in-Some-clause-coming : goal.returns-in-Some-clause-coming
returns-in-Some-clause-coming c =
    let here = rw c.in-Some.is at c.in_ok-line.ensures.some in
    λ events (number, spelt). comes c.args.lines _ number events _ spelt here.0 here.1 here.2

pub returns-in-Some-clause-stream : goal.returns-in-Some-clause-stream
returns-in-Some-clause-stream c =
    let here = rw c.in-Some.is at c.in_ok-line.ensures.some in here.0.1.stream

pub returns-in-Some-clause-fewer : goal.returns-in-Some-clause-fewer
returns-in-Some-clause-fewer c =
    let here = rw c.in-Some.is at c.in_ok-line.ensures.some in
    let short = shorter_behind fields_of (InRange c.args.lines.version) (IsLine-fields_of c.args.lines.version) _ _ _ here.1 in
    omega (arith, short)

pub returns-in-None-clause-coming : goal.returns-in-None-clause-coming
returns-in-None-clause-coming c =
    let none = rw c.in-None.is at c.in_ok-line.ensures.none in
    λ events (number, spelt). none_comes c.args.lines c.args.lines number events spelt none
