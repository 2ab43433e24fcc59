-- What a receiver's get replies.
use Rattle.std.specs.Prelude.{ℕ, List, Result, Ok, Err}
use Rattle.amo_core.specs.declared.reply.Reply.{Reply}
use Rattle.amo_core.specs.declared.reply.Reply.TheVariants as reply
use Rattle.amo_core.specs.declared.receiver.GetRefusal.{GetRefusal}
use Rattle.amo_core.specs.declared.receiver.GetRefusal.TheVariants.{Nothing, Down}
use Rattle.amo_core.specs.Codes.{nothing_code, down_code}

-- the reply to a get
abbrev pub get_reply : Result (List ℕ) GetRefusal → Reply
get_reply (Ok m) = reply.Got m
get_reply (Err Nothing) = reply.Nothing
get_reply (Err Down) = reply.Down

-- the number of a refusal
abbrev pub refusal_code : GetRefusal → ℕ
refusal_code Nothing = nothing_code
refusal_code Down = down_code
