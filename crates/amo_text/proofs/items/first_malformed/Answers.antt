use Rattle.std.proofs.Common.{arith}
use Rattle.amo_text.proofs.Readings.{one_more, malformed_after, shorter_behind, not_empty}
use Rattle.amo_text.proofs.items.first_malformed.Goals as goal

pub loop-rest-preserved : goal.loop-rest-preserved
loop-rest-preserved g c =
    let here = c.in-Some.ensures.some in
    let line = c.fields_are_a_line.ensures in
    let short = shorter_behind g.I.LineItem.fields_of g.I.LineItem.InRange line here.0 c.loop-rest.rest.now _ here.2 in
    record {
      read = one_more g.I.LineItem.fields_of g.I.LineItem.InRange line c.args.bytes.now c.loop-rest.rest.now _ c.loop-rest.number here.0 c.loop-rest.invariant.read here.1 here.2;
      counted = omega (arith, c.loop-rest.invariant.counted, short);
    }

pub returns-in_default-clause-found : goal.returns-in_default-clause-found
returns-in_default-clause-found g c =
    malformed_after g.I.LineItem.fields_of g.I.LineItem.InRange c.fields_are_a_line.ensures c.args.bytes.now c.loop-rest.rest.now c.loop-rest.number c.loop-rest.invariant.read
    (not_empty _ c.loop-rest-test.ensures) c.in_default.ensures.none
