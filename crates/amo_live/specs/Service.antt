-- A host at work.
use Rattle.std.specs.Prelude.{◌≡◌, ℕ, zero, suc, ◌+◌, ◌-◌, ◌^◌, min, Bool, true, false, if◌then◌else◌, Option, Some, List, [], ◌∷◌, ◌++◌, get_or, slice_get, ◌⊎◌, ◌&&◌, nat_lt, not, is_some, None, length, map}
use Rattle.std.specs.List.{fold, list_all}
use Rattle.amo_object.specs.declared.step.End.{End}
use Rattle.amo_object.specs.declared.step.End.TheVariants.{Sender, Receiver}
use Rattle.amo_packet.specs.Batch.{max_batch}
use Rattle.amo_core.specs.declared.act.Act.{Act}
use Rattle.amo_core.specs.declared.act.Act.TheVariants as act
use Rattle.amo_core.specs.declared.mode.Mode.{Mode}
use Rattle.amo_core.specs.declared.mode.Mode.TheVariants as mode
use Rattle.amo_core.specs.Sender.{max_waiting}
use Rattle.amo_core.specs.Summary.{summary_of}
use Rattle.amo_core.specs.declared.summary.Summary.{Summary}
use Rattle.amo_journal.specs.declared.version.Version.{Version}
use Rattle.amo_journal.specs.declared.version.Version.TheVariants.{One, Two}
use Rattle.amo_book.specs.Pass.{PassState, automaton_after, mine}
use Rattle.amo_host.specs.AtStream.{AreCalm}
use Rattle.amo_live.specs.Client.{has}
use Rattle.amo_live.specs.Host.{puts_in}
use Rattle.amo_live.specs.Shown.{Told}
use Rattle.amo_lines.specs.declared.lines.Spelling.{Spelling}
use Rattle.amo_live.specs.declared.service.Lane.{Lane}
use Rattle.amo_live.specs.declared.service.door.Settled.{Settled}
use Rattle.amo_live.specs.declared.service.Service.{Service}
use Rattle.amo_live.specs.declared.service.Setup.{Setup}
use Rattle.amo_live.specs.Unanswered.{KeptLines}

-- how many streams it has, from 1 on
abbrev pub streams_of : {L S W : Type 0} → Service L S W → ℕ
streams_of service = length service.lanes.items

-- what is to be shown to its clients, and the ids that answers to come will have
abbrev pub shown_by : {L S W : Type 0} → Service L S W → Told
shown_by service = record { text = service.shown.items; owed = service.ids }

-- how many messages were got
abbrev pub got_by : {L S W : Type 0} → Service L S W → ℕ
got_by service = service.got

-- the handshakes that ended since what is shown was cleared, in their order
abbrev pub settled_by : {L S W : Type 0} → Service L S W → List Settled
settled_by service = service.settled.items

-- where its next words come from
abbrev pub words_of : {L S W : Type 0} → Service L S W → W
words_of service = service.words

-- no stream waits for its peer, and each message that was put has its answer
abbrev pub IsAtRest : {L S W : Type 0} → Service L S W → Type 0
IsAtRest service = (service.owed ≡ 0) × AreCalm service.host.pump.host

-- it listened for datagrams, and nothing else
abbrev pub Listened : {L S W : Type 0} → Service L S W → Service L S W → Type 0
Listened before after =
    (after.host ≡ record before.host { link = after.host.link }) × (streams_of after ≡ streams_of before) × (shown_by after ≡ shown_by before)
    × (after.setup ≡ before.setup) × (words_of after ≡ words_of before)

-- a datagram waits to be taken that it heard while it listened
abbrev pub has_come : {L S W : Type 0} → Service L S W → Bool
has_come service = is_some service.come

-- what is known of a stream at first: it has no messages
abbrev pub nothing_known : Lane
nothing_known = record { waiting = 0; began = 0; held = 0; owed = false; in_doubt = false }

-- what is known of a stream, from 1 on, if it is there
abbrev pub lane_at : List Lane → ℕ → Option Lane
lane_at lanes zero = None
lane_at lanes (suc place) = slice_get lanes place

abbrev pub lane_of : {L S W : Type 0} → Service L S W → ℕ → Option Lane
lane_of service stream = lane_at service.lanes.items stream

-- Whether a stream takes a message while fewer than so many wait on it, by what is known of it: it is there, fewer do, and its last message has its answer
-- where each waits for that.
abbrev pub takes_in : Bool → ℕ → Option Lane → Bool
takes_in each most None = false
takes_in each most (Some lane) = not (each && lane.owed) && nat_lt lane.waiting most

-- whether it takes one, as a sender holds no more
abbrev pub takes_one : {L S W : Type 0} → Service L S W → ℕ → Bool
takes_one service stream = takes_in service.setup.each max_waiting (lane_of service stream)

-- and whether it lacks one, as fewer wait than travel together at most
abbrev pub lacks_one : {L S W : Type 0} → Service L S W → ℕ → Bool
lacks_one service stream = takes_in service.setup.each max_batch (lane_of service stream)

-- how many messages a stream lacks: as many as wait fewer than travel together at most, or where each waits for its answer one, if its last one has it
abbrev pub lacked_in : Bool → Lane → ℕ
lacked_in each lane = if each then (if lane.owed then 0 else 1) else max_batch - lane.waiting

-- and all streams together, as far as a number of 64 bits tells
abbrev pub lacked_by : {L S W : Type 0} → Service L S W → ℕ
lacked_by service = fold (λ all (lane : Lane). min (all + lacked_in service.setup.each lane) (2 ^ 64 - 1)) 0 service.lanes.items

-- whether messages wait on each stream
abbrev pub wait_on_each : {L S W : Type 0} → Service L S W → Bool
wait_on_each service = list_all (λ (lane : Lane). nat_lt 0 lane.waiting) service.lanes.items

-- how the host's side of a stream stands by the tables, after all that happened at the host
abbrev pub summary_on : {L S W : Type 0} → Service L S W → ℕ → Summary
summary_on service stream = summary_of (automaton_after service.host.side stream service.host.pass.seen)

-- the side is up
abbrev pub is_up : Mode → Bool
is_up mode.Down = false
is_up _ = true

-- whether a message can be put at a side that stands so: at a sender that is up, and at which fewer wait than may
abbrev pub takes_put : End → Summary → Bool
takes_put Sender summary = is_up summary.mode && nat_lt summary.waiting max_waiting
takes_put Receiver summary = false

-- whether one can be got there: at a receiver, where one has come that was not got
abbrev pub gives_message : End → Summary → Bool
gives_message Sender summary = false
gives_message Receiver summary = nat_lt 0 summary.held

-- no message can be put on a stream, or be got of it: it is not there, or its side stands so that none can
abbrev pub CannotPut : {L S W : Type 0} → Service L S W → ℕ → Type 0
CannotPut service stream = (has (streams_of service) stream ≡ false) ⊎ (takes_put service.host.side (summary_on service stream) ≡ false)

abbrev pub CannotGet : {L S W : Type 0} → Service L S W → ℕ → Type 0
CannotGet service stream = (has (streams_of service) stream ≡ false) ⊎ (gives_message service.host.side (summary_on service stream) ≡ false)

-- whether this is the mode of a receiver that holds messages
abbrev pub is_rcvd : Option Mode → Bool
is_rcvd (Some mode.Rcvd) = true
is_rcvd _ = false

-- it looked how a stream stands, and nothing happened
abbrev pub HasLooked : {L S W : Type 0} → Service L S W → Service L S W → Type 0
HasLooked before after = after ≡ record before { host = record before.host { other = after.host.other } }

-- whether it is in doubt what became of an earlier message of a stream
abbrev pub doubted : List Lane → ℕ → Bool
doubted lanes zero = false
doubted lanes (suc place) = get_or (map (λ (lane : Lane). lane.in_doubt) lanes) place false

abbrev pub is_in_doubt : {L S W : Type 0} → Service L S W → ℕ → Bool
is_in_doubt service stream = doubted service.lanes.items stream

-- those of these streams, from stream 1 on, on which it is
abbrev pub doubtful_to : (ℕ → Bool) → ℕ → List ℕ
doubtful_to doubts zero = []
doubtful_to doubts (suc streams) = doubtful_to doubts streams ++ (if doubts (suc streams) then (suc streams ∷ []) else [])

-- those of the streams that it was set up for
abbrev pub doubtful : {L S W : Type 0} → Service L S W → List ℕ
doubtful service = doubtful_to (is_in_doubt service) service.setup.streams

-- the lines that it keeps of a sender's journal
abbrev pub unanswered_by : {L S W : Type 0} → Service L S W → KeptLines
unanswered_by service = service.host.unanswered

-- a delivery brings a sender that asked for an identifier to send messages
abbrev pub begins_to_send : Option Mode → Mode → Bool
begins_to_send (Some mode.NeedId) mode.Send = true
begins_to_send _ _ = false

-- no message was put
abbrev pub PutsNone : PassState → PassState → Type 0
PutsNone v w = puts_in (mine w) ≡ puts_in (mine v)

-- how it spells what it shows
abbrev pub spelling_of : {L S W : Type 0} → Service L S W → Spelling
spelling_of service = service.setup.spelling

-- the version of a new journal of this side: a sender's tells of batches where it is to start some, a receiver's always
abbrev pub version_at : End → Bool → Version
version_at Sender batch = if batch then Two else One
version_at Receiver batch = Two

abbrev pub new_version : Setup → Version
new_version setup = version_at setup.side setup.batch

-- whether messages that wait travel together: where it is so wanted, and a journal of this version has lines for it
abbrev pub starts_batches : Bool → Version → Bool
starts_batches batch One = false
starts_batches batch Two = batch

-- the act by which a handshake begins under this word
abbrev pub start_of : Bool → Version → ℕ → Act
start_of batch version word = if starts_batches batch version then act.Batch word else act.Start word
