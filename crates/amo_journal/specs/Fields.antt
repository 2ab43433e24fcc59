-- What a line's fields spell by themselves, before it is asked whether the act is one of its side's and the reply one of its act's.
use Rattle.std.specs.Prelude.{ℕ, ◌<◌, ◌^◌, List, ◌∷◌, ◌++◌}
use Rattle.std.specs.List.{AllByRecursion}
use Rattle.std.specs.Fmt.{decimal}
use Rattle.hex.specs.Hex.{IsBytes}
use Rattle.amo_object.specs.declared.step.End.{End}
use Rattle.amo_packet.specs.declared.packet.OwnedPacket.{OwnedPacket}
use Rattle.amo_packet.specs.Grammar.{messages_of, IsSpellable}
use Rattle.amo_core.specs.declared.act.Act.{Act}
use Rattle.amo_core.specs.declared.act.Act.TheVariants as act
use Rattle.amo_core.specs.declared.reply.Reply.{Reply}
use Rattle.amo_core.specs.declared.reply.Reply.TheVariants as reply
use Rattle.amo_text.specs.Line.{text_of}
use Rattle.amo_text.specs.Side.{letter_of}
use Rattle.amo_text.specs.Message.{IsMessage}
use Rattle.amo_journal.specs.Journal.{act_fields}

-- a packet that a field of HEX spells
abbrev pub IsPacket : OwnedPacket → Type 0
IsPacket packet = IsSpellable packet × AllByRecursion IsBytes (messages_of packet.body)

-- an act that fields spell, at whichever side
abbrev pub IsAct : Act → Type 0
IsAct (act.Put m) = IsMessage m
IsAct (act.Start word) = word < 2 ^ 64
IsAct (act.Batch word) = word < 2 ^ 64
IsAct (act.Deliver packet word) = IsPacket packet × (word < 2 ^ 64)
IsAct _ = Unit {0}

-- a reply that fields spell, to whichever act
abbrev pub IsReply : Reply → Type 0
IsReply (reply.Got m) = IsMessage m
IsReply _ = Unit {0}

-- a reply that is one field
abbrev pub IsOneField : Reply → Type 0
IsOneField (reply.Got m) = ⊥
IsOneField _ = Unit {0}

-- an act, and what follows it on the line
abbrev pub act_and : Act → List ℕ → List ℕ
act_and a rest = text_of (act_fields a) ++ 32 ∷ rest

-- a pass, a side and a stream, and what follows them on the line
abbrev pub place_and : ℕ → End → ℕ → List ℕ → List ℕ
place_and pass side stream rest = decimal pass ++ 32 ∷ (letter_of side ++ 32 ∷ (decimal stream ++ 32 ∷ rest))
