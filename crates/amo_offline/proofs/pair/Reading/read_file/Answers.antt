use Rattle.std.proofs.lemmas.Result.{IfOk-weaker}
use Rattle.amo_audit.specs.Reader.{grown}
use Rattle.amo_offline.proofs.GoneOn.{one_goes_on, twice_gone_on}
use Rattle.amo_offline.proofs.pair.Reading.read_file.Goals as goal

pub returns-in-Ok-true : goal.returns-in-Ok-true
returns-in-Ok-true g c = λ _.
    let (more, gives, grows) = c.in-Ok-true.ensures in
    one_goes_on c.args.which c.args.audit.now c.read_on.new.self (λ pieces others have. (grown more pieces, grows pieces others have))

pub returns-in-Ok-false : goal.returns-in-Ok-false
returns-in-Ok-false g c =
    let (more, gives, grows) = c.in-Ok-false.ensures in
    let read = one_goes_on c.args.which c.args.audit.now c.read_on.new.self (λ pieces others have. (grown more pieces, grows pieces others have)) in
    IfOk-weaker c.begin_next.result _ _ (λ goes_on given is. twice_gone_on c.args.audit.now c.read_on.new.self c.begin_next.new.audit read (given is)) c.begin_next.ensures
