-- What a sender's calls reply.
use Rattle.std.specs.Prelude.{ℕ, List, Result, Ok, Err}
use Rattle.amo_core.specs.declared.reply.Reply.{Reply}
use Rattle.amo_core.specs.declared.reply.Reply.TheVariants as reply
use Rattle.amo_core.specs.declared.sender.PutRefusal.{PutRefusal}
use Rattle.amo_core.specs.declared.sender.PutRefusal.TheVariants.{Full, Down}
use Rattle.amo_core.specs.declared.sender.AckReply.{AckReply}
use Rattle.amo_core.specs.declared.sender.AckReply.TheVariants as known
use Rattle.amo_core.specs.Codes.{full_code, down_code}

-- the reply to a put
abbrev pub put_reply : Result Unit PutRefusal → Reply
put_reply (Ok done) = reply.Ok
put_reply (Err (Full m)) = reply.Full
put_reply (Err (Down m)) = reply.Down

-- the message that comes back
abbrev pub refused_message : PutRefusal → List ℕ
refused_message (Full m) = m
refused_message (Down m) = m

-- the number of a refusal
abbrev pub refusal_code : PutRefusal → ℕ
refusal_code (Full m) = full_code
refusal_code (Down m) = down_code

-- the reply to a call for what is known of the last put
abbrev pub ack_reply : AckReply → Reply
ack_reply known.Yes = reply.Yes
ack_reply known.No = reply.No
ack_reply known.NotYet = reply.NotYet
ack_reply known.Down = reply.Down
