-- Events that are judged without those of the other side: whether a packet that came was sent is left open.
use Rattle.std.specs.Prelude.{◌≡◌, ◌↔◌, ℕ, ◌+◌, Option, Some, List, ◌∷◌, ◌++◌, length, reverse, IfSome, IsTrue, slice_get}
use Rattle.std.specs.List.{Contains, list_any}
use Rattle.std.specs.Ordering.{nat_cmp}
use Rattle.std.specs.BTreeSet.{contains}
use Rattle.amo_object.specs.declared.step.End.{End}
use Rattle.amo_object.specs.declared.step.End.TheVariants.{Sender, Receiver}
use Rattle.amo_core.specs.declared.act.Act.{Act}
use Rattle.amo_core.specs.declared.reply.Reply.{Reply}
use Rattle.amo_core.specs.declared.automaton.Automaton.{Automaton}
use Rattle.amo_core.specs.Automaton.{row, used_word}
use Rattle.amo_world.specs.declared.event.Event.{Event}
use Rattle.amo_world.specs.declared.fault.WorldFault.{WorldFault}
use Rattle.amo_world.specs.declared.fault.WorldFault.TheVariants as fault
use Rattle.amo_world.specs.Stream.{Stream, automaton_of, words_of}
use Rattle.amo_world.specs.History.{HasRightReply, UsesNewWord, IsRight, IsFresh, is_same_side, stream_after}
use Rattle.amo_audit.specs.declared.auditor.Finding.{Finding}
use Rattle.amo_audit.specs.declared.auditor.Finding.TheVariants.{Nothing, AtFault}
use Rattle.amo_audit.specs.declared.lone_side.LoneSide.{LoneSide}
use Rattle.amo_audit.specs.declared.lone_sides.LoneSides.{LoneSides}
use Rattle.amo_audit.specs.declared.verdict.Verdict.{Verdict}
use Rattle.amo_audit.specs.declared.verdict.Verdict.TheVariants as verdict
use Rattle.amo_audit.specs.declared.whose.Whose.{Whose}
use Rattle.amo_audit.specs.declared.whose.Whose.TheVariants as whose

-- right and fresh
abbrev pub IsSoundAlone : List Event → Type 0
IsSoundAlone past = IsRight past × IsFresh past

-- why an event is refused behind a history; want of memory says nothing
abbrev pub RefusesAlone : List Event → Event → WorldFault → Type 0
RefusesAlone past e fault.WrongReply = ¬ (HasRightReply past e)
RefusesAlone past e fault.Repeat = HasRightReply past e × (¬ (UsesNewWord past e))
RefusesAlone past e fault.Unsent = ⊥
RefusesAlone past e fault.NoMemory = Unit {0}

-- of events in the order of time, the event of this line, counted from 1, is the first that is refused, and this is why
pub record IsRefusedAt (events : List Event) (at : ℕ) (why : WorldFault) : Type 0 where
  pub before : List Event
  pub event : Event
  pub after : List Event
  pub whole : events ≡ before ++ event ∷ after
  pub sound : IsSoundAlone (reverse before)
  pub refused : RefusesAlone (reverse before) event why
  pub count : at ≡ length before + 1

-- what a verdict says of events in the order of time
abbrev pub JudgesAlone : List Event → Verdict → Type 0
JudgesAlone events verdict.Yes = IsSoundAlone (reverse events)
JudgesAlone events (verdict.WrongReply at) = IsRefusedAt events at fault.WrongReply
JudgesAlone events (verdict.Repeat at) = IsRefusedAt events at fault.Repeat
JudgesAlone events verdict.NoMemory = Unit {0}
JudgesAlone events _ = ⊥

-- whether some event is one at this side
abbrev pub HasEvents : End → List Event → Type 0
HasEvents side events = IsTrue (list_any (λ e. is_same_side side e.side) events)

-- whose events these are: a sender's alone, a receiver's alone, or of both sides
abbrev pub IsWhose : List Event → Whose → Type 0
IsWhose events whose.Sender = ¬ (HasEvents Receiver events)
IsWhose events whose.Receiver = HasEvents Receiver events × (¬ (HasEvents Sender events))
IsWhose events whose.Both = HasEvents Receiver events × HasEvents Sender events

-- a side is in this state and used up these words
pub record IsLone (kept : LoneSide) (automaton : Automaton) (words : List ℕ) : Type 0 where
  pub state : kept.automaton ≡ automaton
  pub known : (word : ℕ) → IsTrue (contains nat_cmp kept.words word) ↔ Contains words word

-- the word that is used up, if there is one, is not one of these
abbrev pub IsNew : Option ℕ → List ℕ → Type 0
IsNew word words = IfSome word (λ w. ¬ (Contains words w))

-- why an act with this reply is refused at a side that used up these words
abbrev pub RefusesAct : Automaton → List ℕ → Act → Reply → WorldFault → Type 0
RefusesAct automaton words act reply fault.WrongReply = ¬ ((row automaton act).reply ≡ Some reply)
RefusesAct automaton words act reply fault.Repeat = ((row automaton act).reply ≡ Some reply) × (¬ (IsNew (used_word automaton act) words))
RefusesAct automaton words act reply fault.Unsent = ⊥
RefusesAct automaton words act reply fault.NoMemory = Unit {0}

-- a side of a stream
abbrev pub side_of : LoneSides → End → LoneSide
side_of kept Sender = kept.sender
side_of kept Receiver = kept.receiver

-- each side is that of the stream
abbrev pub AreLone : LoneSides → Stream → Type 0
AreLone kept s = (end : End) → IsLone (side_of kept end) (automaton_of s end) (words_of s end)

-- all streams are as they are after a history
pub record Represents (streams : List LoneSides) (past : List Event) : Type 0 where
  pub count : length streams ≡ 256
  pub each : (place : ℕ) (kept : LoneSides) → slice_get streams place ≡ Some kept → AreLone kept (stream_after (place + 1) past)

-- what was found in the events so far, in the order of time, with these streams kept
abbrev pub FindsAlone : List LoneSides → Finding → List Event → Type 0
FindsAlone streams Nothing events = Represents streams (reverse events) × IsSoundAlone (reverse events)
FindsAlone streams (AtFault at why) events = IsRefusedAt events at why
