use Rattle.amo_world.proofs.Replies.{put_has_reply, ack_has_reply, get_has_reply}
use Rattle.amo_world.proofs.Emitted.{start_is_done, batch_is_done, resend_is_done, deliver_is_done, crash_is_done, recover_is_done}
use Rattle.amo_world.proofs.laws.acts_have_replies.Goals as goal

pub returns-clause-put : goal.returns-clause-put
returns-clause-put c = put_has_reply

pub returns-clause-ack : goal.returns-clause-ack
returns-clause-ack c = ack_has_reply

pub returns-clause-get : goal.returns-clause-get
returns-clause-get c = get_has_reply

pub returns-clause-start : goal.returns-clause-start
returns-clause-start c = start_is_done

pub returns-clause-batch : goal.returns-clause-batch
returns-clause-batch c = batch_is_done

pub returns-clause-resend : goal.returns-clause-resend
returns-clause-resend c = resend_is_done

pub returns-clause-deliver : goal.returns-clause-deliver
returns-clause-deliver c = deliver_is_done

pub returns-clause-crash : goal.returns-clause-crash
returns-clause-crash c = crash_is_done

pub returns-clause-recover : goal.returns-clause-recover
returns-clause-recover c = recover_is_done
