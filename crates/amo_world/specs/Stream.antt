-- A stream: what its events leave of both its sides.
use Rattle.std.specs.Prelude.{ℕ, ◌==◌, if◌then◌else◌, Option, List, [], ◌∷◌, ◌++◌}
use Rattle.std.specs.Option.{option_to_list}
use Rattle.amo_object.specs.declared.step.End.{End}
use Rattle.amo_object.specs.declared.step.End.TheVariants.{Sender, Receiver}
use Rattle.amo_packet.specs.declared.packet.OwnedPacket.{OwnedPacket}
pub use Rattle.amo_packet.specs.Stream.{IsStream}
use Rattle.amo_core.specs.declared.act.Act.{Act}
use Rattle.amo_core.specs.declared.act.Act.TheVariants.{Get}
use Rattle.amo_core.specs.declared.reply.Reply.{Reply}
use Rattle.amo_core.specs.declared.automaton.Automaton.{Automaton}
use Rattle.amo_core.specs.declared.automaton.Automaton.TheVariants as automaton
use Rattle.amo_core.specs.declared.sender.SenderMode.{SenderMode}
use Rattle.amo_core.specs.declared.sender.SenderMode.TheVariants.{NeedId, Send}
use Rattle.amo_core.specs.declared.receiver.ReceiverMode.{ReceiverMode}
use Rattle.amo_core.specs.declared.receiver.ReceiverMode.TheVariants.{Rcvd}
use Rattle.amo_core.specs.Row.{Row}
use Rattle.amo_core.specs.Automaton.{row, used_word}
use Rattle.amo_core.specs.Sender as sender
use Rattle.amo_core.specs.Receiver as receiver

-- a side: the state of its automaton, the packets that it emitted, and the words that it used up, the newest first
pub record Side (S : Type 0) : Type 0 where
  pub state : S
  pub emitted : List OwnedPacket
  pub words : List ℕ

module _ {S : Type 0} where
  -- a side at which nothing happened yet
  abbrev pub unused : S → Side S
  unused s = record { state = s; emitted = []; words = [] }

  -- the side after an act with this row, which used up this word, if any
  abbrev pub acted : Side S → Row S → Option ℕ → Side S
  acted side row word = record {
    state = row.state;
    emitted = option_to_list row.emitted ++ side.emitted;
    words = option_to_list word ++ side.words;
  }

-- both sides; and while the sender sends, the messages of what it sends that the receiver's client did not take yet. No row reads these.
pub record Stream : Type 0 where
  pub sender : Side sender.SenderState
  pub receiver : Side receiver.ReceiverState
  pub untaken : List (List ℕ)

-- a stream of this number in which nothing happened yet
abbrev pub initial : ℕ → Stream
initial number = record { sender = unused (sender.initial number); receiver = unused (receiver.initial number); untaken = [] }

-- the automaton of a side
abbrev pub automaton_of : Stream → End → Automaton
automaton_of s Sender = automaton.Sender s.sender.state
automaton_of s Receiver = automaton.Receiver s.receiver.state

-- what the row of an act replies, if the side has the act
abbrev pub reply_of : Stream → End → Act → Option Reply
reply_of s Sender act = (sender.row s.sender.state act).reply
reply_of s Receiver act = (receiver.row s.receiver.state act).reply

-- what the row of an act emits
abbrev pub emission_of : Stream → End → Act → Option OwnedPacket
emission_of s Sender act = (sender.row s.sender.state act).emitted
emission_of s Receiver act = (receiver.row s.receiver.state act).emitted

-- the word that an act uses up
abbrev pub word_of : Stream → End → Act → Option ℕ
word_of s Sender act = sender.used_word s.sender.state act
word_of s Receiver act = receiver.used_word s.receiver.state act

-- what a sender begins to send was not taken yet
abbrev pub untaken_once_sent : SenderMode → SenderMode → List (List ℕ) → List (List ℕ)
untaken_once_sent (NeedId jd waited) (Send id load) untaken = sender.messages_in load
untaken_once_sent _ _ untaken = untaken

-- a get takes the first of the messages that came under the sender's identifier
abbrev pub untaken_once_got : Act → SenderMode → ReceiverMode → List (List ℕ) → List (List ℕ)
untaken_once_got Get (Send id load) (Rcvd under held) untaken = if under == id then held.rest else untaken
untaken_once_got _ _ _ untaken = untaken

-- the stream after an act at a side
abbrev pub after : Stream → End → Act → Stream
after s Sender act = record s {
  sender = acted s.sender (sender.row s.sender.state act) (word_of s Sender act);
  untaken = untaken_once_sent s.sender.state.mode (sender.row s.sender.state act).state.mode s.untaken;
}
after s Receiver act = record s {
  receiver = acted s.receiver (receiver.row s.receiver.state act) (word_of s Receiver act);
  untaken = untaken_once_got act s.sender.state.mode s.receiver.state.mode s.untaken;
}

-- what a side emitted, the newest first
abbrev pub emitted_by : Stream → End → List OwnedPacket
emitted_by s Sender = s.sender.emitted
emitted_by s Receiver = s.receiver.emitted

-- the words that a side used up, the newest first
abbrev pub words_of : Stream → End → List ℕ
words_of s Sender = s.sender.words
words_of s Receiver = s.receiver.words

-- a side of a stream, with an automaton of either kind
abbrev pub side_of : Stream → End → Side Automaton
side_of s side = record { state = automaton_of s side; emitted = emitted_by s side; words = words_of s side }

-- such a side after an act
abbrev pub acts : Side Automaton → Act → Side Automaton
acts side act = acted side (row side.state act) (used_word side.state act)
