use Rattle.std.proofs.Common.{◌∙◌}
use Rattle.std.proofs.lemmas.Result.{IfOk-weaker, IfErr-weaker}
use Rattle.amo_journal.specs.Gathering.{Gathers}
use Rattle.amo_text.proofs.Readings.{not_empty, is_empty}
use Rattle.amo_journal.proofs.ReadOn.{malformed_here, read_on, all_read}
use Rattle.amo_journal.proofs.reading.read_into.Goals as goal

pub returns-in_default-clause-fault : goal.returns-in_default-clause-fault
returns-in_default-clause-fault g c =
    let so_far = c.loop-rest.invariant in
    let none = rw so_far.version at (rw c.in_default.is at c.in_ok-line.ensures.none) in
    malformed_here c.args.lines.version c.args.lines.text.now c.loop-rest.rest.text.now c.loop-rest.reading.lines _ so_far.read (not_empty _ c.loop-rest-test.ensures) none

pub loop-rest-preserved : goal.loop-rest-preserved
loop-rest-preserved g c =
    let so_far = c.loop-rest.invariant in
    let here = rw c.in-Some.is at c.in_ok-line.ensures.some in record {
      version = here.2 ∙ so_far.version;
      read = read_on c.args.lines.version c.args.lines.text.now c.loop-rest.rest.text.now _ c.loop-rest.reading.lines _ _ (Gathers g.T.TakeEvents.HasTaken c.take.new.self.taker c.take.new.self.lines c.take.new.self.gap) _ so_far.read
          (rw so_far.version at here.0) here.1 c.take.ensures.counted c.in_ok-take.ensures.gathers;
    }

pub returns-clause-taken : goal.returns-clause-taken
returns-clause-taken g c =
    let so_far = c.loop-rest.invariant.read in
    let spells = all_read c.args.lines.version c.args.lines.text.now c.loop-rest.rest.text.now c.loop-rest.reading.lines _ so_far (is_empty _ c.loop-rest-test.ensures) in
    IfOk-weaker c.finish.result _ _ (λ taker told. told c.args.lines.version so_far.lines c.args.lines.text.now so_far.holds spells) c.finish.ensures.taken

pub returns-clause-fault : goal.returns-clause-fault
returns-clause-fault g c =
    let so_far = c.loop-rest.invariant.read in
    let spells = all_read c.args.lines.version c.args.lines.text.now c.loop-rest.rest.text.now c.loop-rest.reading.lines _ so_far (is_empty _ c.loop-rest-test.ensures) in
    IfErr-weaker c.finish.result _ _ (λ fault told. told c.args.lines.version so_far.lines c.args.lines.text.now so_far.holds spells) c.finish.ensures.fault
