-- The fields of the replies.
use Rattle.std.specs.Prelude.{ℕ, List, [], ◌∷◌, codes}
use Rattle.amo_core.specs.declared.reply.Reply.{Reply}
use Rattle.amo_core.specs.declared.reply.Reply.TheVariants as reply
use Rattle.amo_text.specs.Hexadecimal.{hex}
use Rattle.amo_text.specs.Line.{text_of}

-- the fields of a reply
abbrev pub reply_fields : Reply → List (List ℕ)
reply_fields reply.Ok = codes "ok" ∷ []
reply_fields reply.Full = codes "full" ∷ []
reply_fields reply.Down = codes "down" ∷ []
reply_fields (reply.Got m) = codes "got" ∷ hex m ∷ []
reply_fields reply.Nothing = codes "nothing" ∷ []
reply_fields reply.Yes = codes "yes" ∷ []
reply_fields reply.No = codes "no" ∷ []
reply_fields reply.NotYet = codes "notyet" ∷ []
reply_fields reply.Done = codes "done" ∷ []

-- those, with single spaces between them
abbrev pub reply_text : Reply → List ℕ
reply_text reply = text_of (reply_fields reply)
