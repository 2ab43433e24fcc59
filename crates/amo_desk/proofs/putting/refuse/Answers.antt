use Rattle.amo_live.specs.Service.{shown_by}
use Rattle.amo_lines.specs.Spelt.{Refused}
use Rattle.amo_live.proofs.Showing.{refusing_one}
use Rattle.amo_desk.proofs.putting.refuse.Goals as goal

pub returns-in_ok-tell_refused-clause-told : goal.returns-in_ok-tell_refused-clause-told
returns-in_ok-tell_refused-clause-told g c =
    let refused : Refused = record { id = c.args.id.now; input = c.lines.result; reason = c.as_str.result.now } in
    refusing_one refused (shown_by c.args.service.now) (shown_by c.tell_refused.new.self) c.in_ok-tell_refused.ensures.told
