-- Either automaton, with one table for both.
use Rattle.std.specs.Prelude.{◌≡◌, ℕ, ◌++◌, Option, None, Some, List, length, drop}
use Rattle.amo_packet.specs.declared.packet.OwnedPacket.{OwnedPacket}
use Rattle.amo_packet.specs.Grammar.{spelling, IsSpellable}
use Rattle.amo_core.specs.declared.act.Act.{Act}
use Rattle.amo_core.specs.declared.act.Act.TheVariants.{Put}
use Rattle.amo_core.specs.declared.mode.Mode.{Mode}
use Rattle.amo_core.specs.declared.reply.Reply.{Reply}
use Rattle.amo_core.specs.declared.reply.Reply.TheVariants.{Ok}
use Rattle.amo_core.specs.declared.automaton.Automaton.{Automaton}
use Rattle.amo_core.specs.declared.automaton.Automaton.TheVariants.{Sender, Receiver}
use Rattle.amo_core.specs.Row.{Row}
use Rattle.amo_core.specs.Sender as sender
use Rattle.amo_core.specs.Receiver as receiver

-- a row of one of the tables, as a row of both
abbrev pub row_of : {S : Type 0} → (S → Automaton) → Row S → Row Automaton
row_of kind r = record { state = kind r.state; reply = r.reply; emitted = r.emitted }

-- both tables
abbrev pub row : Automaton → Act → Row Automaton
row (Sender s) act = row_of Sender (sender.row s act)
row (Receiver s) act = row_of Receiver (receiver.row s act)

-- the kind of the mode
abbrev pub mode_of : Automaton → Mode
mode_of (Sender s) = sender.kind s.mode
mode_of (Receiver s) = receiver.kind s.mode

-- the word that an act uses up
abbrev pub used_word : Automaton → Act → Option ℕ
used_word (Sender s) act = sender.used_word s act
used_word (Receiver s) act = receiver.used_word s act

-- the message of a put comes back unless it was taken
abbrev pub put_back : List ℕ → Option Reply → Option (List ℕ)
put_back m (Some Ok) = None
put_back m _ = Some m

-- what an act with this reply hands back
abbrev pub handed_back : Act → Option Reply → Option (List ℕ)
handed_back (Put m) reply = put_back m reply
handed_back _ reply = None

-- the packet stands at the front of the buffer, if there is one, in a spelling that no other packet has, and the rest
-- of the buffer is as it was
abbrev pub Writes : Option OwnedPacket → List ℕ → List ℕ → Option ℕ → Type 0
Writes None old new written = (new ≡ old) × (written ≡ None)
Writes (Some p) old new written =
    IsSpellable p × (new ≡ spelling p ++ drop (length (spelling p)) old) × (written ≡ Some (length (spelling p)))
