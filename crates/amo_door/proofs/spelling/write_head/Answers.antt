use Rattle.std.proofs.Common.{◌≡◌, ◌++◌, ◌∙◌, ap, subst}
use Rattle.std.specs.Prelude.{Option, OnOk}
use Rattle.http1.specs.Head.{pairs}
use Rattle.http1.specs.Server.{after_response, planned_response, response_refusal}
use Rattle.http1.specs.declared.error.WriteError.{WriteError}
use Rattle.http1.specs.declared.server.Server.{Server}
use Rattle.amo_door.specs.Spelling.{Writes}
use Rattle.amo_door.proofs.Written.{alike, no_memory, written}
use Rattle.amo_door.proofs.spelling.write_head.Goals as goal

pub returns-clause-ok : goal.returns-clause-ok
returns-clause-ok c =
    let server = c.args.server.now in
    let status = c.args.answer.now.status in
    let same = alike (λ r s l. planned_response server status r s l) _ _ _ _ _ _ (c.as_bytes-reason.ensures.value ∙ c.reason_of.ensures) c.size_of-size.ensures (ap pairs c.as_slice.ensures.value ∙ c.in_ok-fields.ensures.ok) in
    subst (λ text. OnOk c.write_response.result (c.write_response.new.output.items ≡ c.args.output.now.items ++ text)) same c.write_response.ensures.ok

pub returns-clause-next : goal.returns-clause-next
returns-clause-next c =
    let server = c.args.server.now in
    let status = c.args.answer.now.status in
    let same = alike (λ r s l. after_response server status s l) _ _ _ _ _ _ (c.as_bytes-reason.ensures.value ∙ c.reason_of.ensures) c.size_of-size.ensures (ap pairs c.as_slice.ensures.value ∙ c.in_ok-fields.ensures.ok) in
    subst (λ (s : Server). OnOk c.write_response.result (c.write_response.new.self ≡ s)) same c.write_response.ensures.next

pub returns-clause-outcome : goal.returns-clause-outcome
returns-clause-outcome c =
    let server = c.args.server.now in
    let status = c.args.answer.now.status in
    let same = alike (λ r s l. response_refusal server status r s l) _ _ _ _ _ _ (c.as_bytes-reason.ensures.value ∙ c.reason_of.ensures) c.size_of-size.ensures (ap pairs c.as_slice.ensures.value ∙ c.in_ok-fields.ensures.ok) in
    subst (λ (f : Option WriteError). Writes f c.write_response.result) same (written _ _ _ c.write_response.result c.write_response.ensures.outcome)

-- memory was refused
pub returns-in_err-fields-clause-outcome : goal.returns-in_err-fields-clause-outcome
returns-in_err-fields-clause-outcome c = no_memory _ c.from_residual.result _ c.in_err-fields.ensures.memory c.from_residual.ensures.1
