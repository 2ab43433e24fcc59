use Rattle.std.proofs.Common.{◌≡◌, ◌++◌, [], ◌∙◌, ap, subst}
use Rattle.std.specs.Prelude.{OnOk}
use Rattle.http1.specs.Conn.{finish_refusal, finish_text}
use Rattle.http1.specs.Server.{after_end, with_writing, writing}
use Rattle.http1.specs.declared.conn.Writing.{Writing}
use Rattle.http1.specs.declared.server.Server.{Server}
use Rattle.amo_door.specs.Spelling.{Writes, behind_body, behind_head, body_fault, body_text, rest_fault, sent_body}
use Rattle.amo_door.proofs.Onward.{extends_either, extends_more}
use Rattle.amo_door.proofs.Written.{fails_first, goes_next, no_fault, whole, written}
use Rattle.amo_door.proofs.spelling.write_answer.Goals as goal

-- the head, the body and the end
pub returns-clause-extends : goal.returns-clause-extends
returns-clause-extends c =
    extends_more _ _ _ (extends_more _ _ _ (extends_either c.write_head.result _ _ _ c.write_head.ensures.ok c.write_head.ensures.kept) c.write_body.ensures.extends)
    (extends_either c.write_end.result _ _ _ c.write_end.ensures.ok c.write_end.ensures.err)

pub returns-clause-ok : goal.returns-clause-ok
returns-clause-ok c =
    let sent = sent_body c.args.is_head c.args.answer.now.body.items in
    let behind = ap writing c.in_ok-write_head.ensures.next in
    let body = subst (λ (w : Writing). c.write_body.new.output.items ≡ c.write_head.new.output.items ++ body_text w sent) behind c.in_ok-write_body.ensures.ok in
    let last = ap writing c.in_ok-write_body.ensures.next ∙ ap (λ (w : Writing). behind_body w sent) behind in
    let end = subst (λ (w : Writing). OnOk c.write_end.result (c.write_end.new.output.items ≡ c.write_body.new.output.items ++ finish_text w [])) last c.write_end.ensures.ok in
    whole c.write_end.result _ _ _ _ _ _ _ c.in_ok-write_head.ensures.ok body end

pub returns-clause-next : goal.returns-clause-next
returns-clause-next c =
    let sent = sent_body c.args.is_head c.args.answer.now.body.items in
    let body = c.in_ok-write_body.ensures.next ∙ ap (λ (s : Server). with_writing s (behind_body (writing s) sent)) c.in_ok-write_head.ensures.next in
    subst (λ (s : Server). OnOk c.write_end.result (c.write_end.new.self ≡ after_end s)) body c.write_end.ensures.done

pub returns-clause-outcome : goal.returns-clause-outcome
returns-clause-outcome c =
    let sent = sent_body c.args.is_head c.args.answer.now.body.items in
    let behind = ap writing c.in_ok-write_head.ensures.next in
    let last = ap writing c.in_ok-write_body.ensures.next ∙ ap (λ (w : Writing). behind_body w sent) behind in
    let body = subst (λ (w : Writing). Writes (body_fault w sent) c.write_body.result) behind c.write_body.ensures.outcome in
    let end = subst (λ (w : Writing). Writes (finish_refusal w []) c.write_end.result) last (written _ _ _ c.write_end.result c.write_end.ensures.outcome) in
    goes_next _ _ c.write_end.result (no_fault _ c.write_head.result _ c.write_head.ensures.outcome c.in_ok-write_head.was)
    (goes_next _ _ c.write_end.result (no_fault _ c.write_body.result _ body c.in_ok-write_body.was) end)

-- the head was refused
pub returns-in_err-write_head-clause-outcome : goal.returns-in_err-write_head-clause-outcome
returns-in_err-write_head-clause-outcome c =
    let rest = rest_fault (behind_head c.args.server.now c.args.answer.now c.args.closes) (sent_body c.args.is_head c.args.answer.now.body.items) in
    fails_first _ rest c.write_head.result c.from_residual.result _ c.write_head.ensures.outcome c.in_err-write_head.was c.from_residual.ensures.1

-- the body was refused
pub returns-in_err-write_body-clause-outcome : goal.returns-in_err-write_body-clause-outcome
returns-in_err-write_body-clause-outcome c =
    let sent = sent_body c.args.is_head c.args.answer.now.body.items in
    let behind = ap writing c.in_ok-write_head.ensures.next in
    let body = subst (λ (w : Writing). Writes (body_fault w sent) c.write_body.result) behind c.write_body.ensures.outcome in
    let end = finish_refusal (behind_body (behind_head c.args.server.now c.args.answer.now c.args.closes) sent) [] in
    goes_next _ _ c.from_residual-in_err-write_body.result (no_fault _ c.write_head.result _ c.write_head.ensures.outcome c.in_ok-write_head.was)
    (fails_first _ end c.write_body.result c.from_residual-in_err-write_body.result _ body c.in_err-write_body.was c.from_residual-in_err-write_body.ensures.1)

pub returns-in_err-write_head-clause-extends : goal.returns-in_err-write_head-clause-extends
returns-in_err-write_head-clause-extends c = extends_either c.write_head.result _ _ _ c.write_head.ensures.ok c.write_head.ensures.kept

pub returns-in_err-write_body-clause-extends : goal.returns-in_err-write_body-clause-extends
returns-in_err-write_body-clause-extends c =
    extends_more _ _ _ (extends_either c.write_head.result _ _ _ c.write_head.ensures.ok c.write_head.ensures.kept) c.write_body.ensures.extends
