-- What a sender that starts again tells of the puts of its earlier lives.
use Rattle.std.specs.Prelude.{◌≡◌, ◌≢◌, ◌⊎◌, ℕ, ◌+◌, ◌-◌, ◌^◌, ◌<◌, ◌≤◌, Bool, true, false, Option, Some, None, List, [], ◌∷◌, ◌++◌, get_or, length, map, reverse, set}
use Rattle.std.specs.Bool.{Decides}
use Rattle.std.specs.List.{All, Contains, flat_map, range_with_len}
use Rattle.std.specs.Ordering.{nat_cmp}
use Rattle.std.specs.BTreeMap.{get}
use Rattle.amo_journal.specs.declared.lines.Lines.{Lines}
use Rattle.amo_journal.specs.declared.numbered.Numbered.{Numbered}
use Rattle.amo_journal.specs.Journal.{SpellsLines, numbered}
use Rattle.amo_core.specs.declared.act.Act.{Act}
use Rattle.amo_core.specs.declared.act.Act.TheVariants as act
use Rattle.amo_core.specs.declared.reply.Reply.TheVariants as reply
use Rattle.amo_world.specs.declared.event.Event.{Event}
use Rattle.amo_world.specs.History.{IsRight}
use Rattle.amo_outcomes.specs.RightPuts.{ArePutsRight}
use Rattle.amo_outcomes.specs.StandsFor.{GoesOnFrom, more_puts}
use Rattle.amo_world.specs.Stream.{IsStream}
use Rattle.amo_outcomes.specs.declared.sender_followers.SenderFollowers.{SenderFollowers}
use Rattle.amo_outcomes.specs.Heard.{all_sent}
use Rattle.amo_outcomes.specs.Puts.{puts_after}
use Rattle.amo_outcomes.specs.SenderFollowers.{HaveFollowedSenders}
use Rattle.amo_outcomes.specs.declared.sender_outcome.SenderOutcome.{SenderOutcome}
use Rattle.amo_outcomes.specs.declared.sender_outcome.SenderOutcome.TheVariants.{Unknown}
use Rattle.amo_outcomes.specs.SenderOutcome.{HasSenderOutcome}
use Rattle.amo_lives.specs.declared.doubt.Span.{Span}
use Rattle.amo_telling.specs.declared.unanswered.Progress.{Progress}
use Rattle.amo_telling.specs.declared.put.Put.{Put}
use Rattle.amo_telling.specs.declared.tally.Tally.{Tally}
use Rattle.amo_telling.specs.declared.untold.Untold.{Untold}
use Rattle.amo_telling.specs.Outcomes.{puts_in}
use Rattle.amo_telling.specs.Told.{Counts}
use Rattle.amo_telling.specs.Unanswered.{StopsBy, is_ack, is_answer, is_sent, is_settled_by_now, is_unsettled, settled_line, told_if, told_line}
use Rattle.amo_telling.specs.declared.unanswered.Told.{Told}

-- the events of lines
abbrev pub events_of : List Numbered → List Event
events_of lines = map (λ line. line.event) lines

-- Of lines that were read, the newest of which is the first, one of this number tells that this message was put on a stream, which took so many
-- before it there.
pub record IsPutAt (past : List Numbered) (number stream place : ℕ) (message : List ℕ) : Type 0 where
  pub later : List Numbered
  pub line : Numbered
  pub before : List Numbered
  pub splits : past ≡ later ++ line ∷ before
  pub number_is : line.number ≡ number
  pub stream_is : line.event.stream ≡ stream
  pub place_is : puts_in stream (events_of before) ≡ place
  pub act_is : line.event.act ≡ act.Put message
  pub reply_is : line.event.reply ≡ reply.Ok

-- An ack answers a put: it was sent, and not settled what became of it, and by the ack it is.
abbrev pub IsAnsweredBy : ℕ → List Event → Event → ℕ → Type 0
IsAnsweredBy stream past e place = (is_ack e.act ≡ true) × HasSenderOutcome stream past place (Unknown false)
    × ((outcome : SenderOutcome) × HasSenderOutcome stream (e ∷ past) place outcome × (is_answer outcome ≡ true))

-- one did
abbrev pub IsAnswered : ℕ → List Event → ℕ → Type 0
IsAnswered stream [] place = ⊥
IsAnswered stream (e ∷ past) place = IsAnsweredBy stream past e place ⊎ IsAnswered stream past place

-- a put, as it is kept
abbrev pub IsKept : (ℕ → Option Put) → ℕ → ℕ → ℕ → List ℕ → Type 0
IsKept kept number stream place message = (put : Put) × (kept number ≡ Some put) × (put.stream ≡ stream) × (put.place ≡ place) × (put.message.items ≡ message)

-- the stream is marked as one of which an ack answered a put
abbrev pub IsMarked : List Bool → ℕ → Type 0
IsMarked marks stream = IsStream stream × (get_or marks (stream - 1) false ≡ true)

-- these lines were taken, the newest of which is the first: each put is kept, unless an ack answered it, and nothing else is
pub record HasTaken (untold : Untold) (past : List Numbered) : Type 0 where
  pub followed : ArePutsRight (events_of past) → HaveFollowedSenders untold.followers (events_of past)
  pub counted : Counts untold.counts (events_of past)
  pub kept : (number : ℕ) (put : Put) → get nat_cmp untold.puts number ≡ Some put → IsPutAt past number put.stream put.place put.message.items
  pub all : (number stream place : ℕ) (message : List ℕ) → IsPutAt past number stream place message
      → IsKept (get nat_cmp untold.puts) number stream place message ⊎ (IsMarked untold.answered stream × (ArePutsRight (events_of past) → IsAnswered stream (events_of past) place))
  pub marked : (stream : ℕ) → IsMarked untold.answered stream → ArePutsRight (events_of past) → (place : ℕ) × IsAnswered stream (events_of past) place

-- and reading goes on at the line of this number, in front of which they are: no stream took more puts than there are numbers
pub record HasRead (untold : Untold) (next : ℕ) (past : List Numbered) : Type 0 where
  pub taken : HasTaken untold past
  pub next_is : untold.next ≡ next
  pub before : All (λ line. line.number < next) past
  pub few : (stream : ℕ) → puts_in stream (events_of past) ≤ next

-- the put that is kept of this number was sent, and it is not settled what became of it
abbrev pub IsSent : Untold → ℕ → Type 0
IsSent untold number = (put : Put) × (get nat_cmp untold.puts number ≡ Some put)
    × ((past : List Event) → HaveFollowedSenders untold.followers past → HasSenderOutcome put.stream past put.place (Unknown false))

-- and an ack comes
abbrev pub IsSentHere : Untold → Act → ℕ → Type 0
IsSentHere untold a number = (is_ack a ≡ true) × IsSent untold number

-- it was answered, by the events that were followed since
abbrev pub IsAnsweredBehind : Untold → SenderFollowers → ℕ → Type 0
IsAnsweredBehind old now number = (put : Put) × (get nat_cmp old.puts number ≡ Some put) × ((outcome : SenderOutcome) × (is_answer outcome ≡ true)
    × ((past : List Event) → HaveFollowedSenders now past → HasSenderOutcome put.stream past put.place outcome))

-- of these puts some are kept no more, which were answered
abbrev pub DropsPuts : Untold → Untold → List ℕ → Type 0
DropsPuts old new sent = (number : ℕ) → (get nat_cmp new.puts number ≡ get nat_cmp old.puts number)
    ⊎ ((get nat_cmp new.puts number ≡ None) × Contains sent number × IsAnsweredBehind old old.followers number)

-- their streams are marked, and no others than before
abbrev pub MarksDropped : Untold → Untold → Type 0
MarksDropped old new = (number : ℕ) (put : Put) → get nat_cmp old.puts number ≡ Some put → get nat_cmp new.puts number ≡ None → IsMarked new.answered put.stream

abbrev pub KeepsMarks : Untold → Untold → Type 0
KeepsMarks old new = (stream : ℕ) → IsMarked old.answered stream → IsMarked new.answered stream

abbrev pub MarksNoOther : Untold → Untold → List ℕ → Type 0
MarksNoOther old new sent = (stream : ℕ) → IsMarked new.answered stream
    → IsMarked old.answered stream ⊎ ((number : ℕ) × Contains sent number × ((answered : IsAnsweredBehind old old.followers number) × (answered.0.stream ≡ stream)))

abbrev pub Drops : Untold → Untold → List ℕ → Type 0
Drops old new sent = DropsPuts old new sent × MarksDropped old new × KeepsMarks old new × MarksNoOther old new sent

-- a put that a stream takes is kept, under the number of its line, and counted
pub record KeepsPut (old new : Untold) (number stream : ℕ) (message : List ℕ) : Type 0 where
  pub counts : get_or old.counts (stream - 1) 0 + 1 < 2 ^ 64 → new.counts ≡ set old.counts (stream - 1) (get_or old.counts (stream - 1) 0 + 1)
  pub kept : IsKept (get nat_cmp new.puts) number stream (get_or old.counts (stream - 1) 0) message
  pub others : (other : ℕ) → other ≢ number → get nat_cmp new.puts other ≡ get nat_cmp old.puts other

-- a line is taken behind others, if it has a number that is not kept, and few puts are before it
abbrev pub Takes : Untold → Untold → Numbered → Type 0
Takes old new line = (past : List Numbered) → HasTaken old past → get nat_cmp old.puts line.number ≡ None → puts_in line.event.stream (events_of past) + 1 < 2 ^ 64
    → HasTaken new (line ∷ past)

-- a line is not the next one, or no other one can come behind it
abbrev pub IsNotNext : ℕ → Numbered → Type 0
IsNotNext next line = (line.number ≢ next) ⊎ (2 ^ 64 ≤ next + 1)

-- A line is not one of those in front of the next one that were not read yet: its number is not smaller, or that of a put that was read, or its stream
-- took as many puts as there are smaller numbers.
abbrev pub IsNotBefore : ℕ → List Numbered → Numbered → Type 0
IsNotBefore next past line = (next ≤ line.number)
    ⊎ (((stream : ℕ) × (place : ℕ) × (message : List ℕ) × IsPutAt past line.number stream place message) ⊎ (next ≤ puts_in line.event.stream (events_of past)))

-- behind past lines these begin with those of other events, which go on with the numbers, and are read no further
pub record GoesOn (untold : Untold) (next : ℕ) (past : List Numbered) (lines : Lines) (rest : List ℕ) (progress : Progress) : Type 0 where
  pub events : List Event
  pub front : List ℕ
  pub whole : lines.text.now ≡ front ++ rest
  pub read : SpellsLines lines.version front (numbered next events)
  pub have : HasRead untold (next + length events) (reverse (numbered next events) ++ past)
  pub stops : StopsBy lines.version (IsNotNext (next + length events)) rest progress

-- behind past lines these begin with others, which are in front of the next one, each with a number of its own, and are read no further
pub record Recalls (untold : Untold) (next : ℕ) (past : List Numbered) (lines : Lines) (rest : List ℕ) (progress : Progress) : Type 0 where
  pub recalled : List Numbered
  pub front : List ℕ
  pub whole : lines.text.now ≡ front ++ rest
  pub read : SpellsLines lines.version front recalled
  pub have : HasRead untold next (reverse recalled ++ past)
  pub stops : StopsBy lines.version (IsNotBefore next (reverse recalled ++ past)) rest progress

-- what is known of a put that a stream took: what its events tell, or that the stream took none of that number
abbrev pub IsKnownAs : List Event → Put → Option SenderOutcome → Type 0
IsKnownAs past put None = (puts_after put.stream past).count ≤ put.place
IsKnownAs past put (Some outcome) = HasSenderOutcome put.stream past put.place outcome

-- its line, behind what was told before: none where it was got
abbrev pub told_text : Bool → ℕ → Put → Option Told → List ℕ
told_text json number put None = []
told_text json number put (Some what) = told_line json number put.stream what put.message.items

-- where this is known of puts
abbrev pub TellsPut : (Put → Option SenderOutcome → Type 0) → List Span → Bool → ℕ × Put → List ℕ → List ℕ → Type 0
TellsPut IsKnown doubts json (number, put) old new = (outcome : Option SenderOutcome) × IsKnown put outcome × (new ≡ old ++ told_text json number put (told_if doubts number outcome))

-- and those of these puts, in their order
abbrev pub TellsPuts : (Put → Option SenderOutcome → Type 0) → List Span → Bool → List (ℕ × Put) → List ℕ → List ℕ → Type 0
TellsPuts IsKnown doubts json [] old new = new ≡ old
TellsPuts IsKnown doubts json (put ∷ puts) old new = (middle : List ℕ) × TellsPut IsKnown doubts json put old middle × TellsPuts IsKnown doubts json puts middle new

-- a put is kept of this stream, and what is known of it passes this test
abbrev pub HasPut : List (ℕ × Put) → List Event → (ℕ → Option SenderOutcome → Bool) → ℕ → Type 0
HasPut puts past test stream = (number : ℕ) × (put : Put) × Contains puts (number, put) × (put.stream ≡ stream)
    × ((outcome : Option SenderOutcome) × IsKnownAs past put outcome × (test number outcome ≡ true))

-- it was sent; or it is told as unknown, and not settled; or it is told as unknown, and settled
abbrev pub sent_at : ℕ → Option SenderOutcome → Bool
sent_at number outcome = is_sent outcome

abbrev pub unsettled_at : List Span → ℕ → Option SenderOutcome → Bool
unsettled_at doubts number outcome = is_unsettled outcome (told_if doubts number outcome)

abbrev pub settled_at : List Span → ℕ → Option SenderOutcome → Bool
settled_at doubts number outcome = is_settled_by_now outcome (told_if doubts number outcome)

-- this is known of these puts of a stream, whichever events were followed
abbrev pub IsWhether : SenderFollowers → List (ℕ × Put) → (ℕ → Option SenderOutcome → Bool) → ℕ → Bool → Type 0
IsWhether followers puts test stream flag = (past : List Event) → HaveFollowedSenders followers past → Decides flag (HasPut puts past test stream)

pub record IsTally (followers : SenderFollowers) (puts : List (ℕ × Put)) (doubts : List Span) (stream : ℕ) (tally : Tally) : Type 0 where
  pub sent : IsWhether followers puts sent_at stream tally.is_sent
  pub unsettled : IsWhether followers puts (unsettled_at doubts) stream tally.is_unsettled
  pub settled : IsWhether followers puts (settled_at doubts) stream tally.is_settled

-- of none
abbrev pub no_puts : Tally
no_puts = record { is_sent = false; is_unsettled = false; is_settled = false }

-- and of those of each stream, that of stream 1 first
pub record AreTalliesOf (followers : SenderFollowers) (puts : List (ℕ × Put)) (doubts : List Span) (tallies : List Tally) : Type 0 where
  pub each : (place : ℕ) → place < 256 → IsTally followers puts doubts (place + 1) (get_or tallies place no_puts)

abbrev pub AreTallies : Untold → List Span → List Tally → Type 0
AreTallies untold doubts tallies = AreTalliesOf untold.followers untold.puts.entries doubts tallies

-- a put of the stream was sent
abbrev pub WasSentOn : List Event → ℕ → Type 0
WasSentOn past stream = IsStream stream × ((put : ℕ) × Contains (all_sent (puts_after stream past).sent) put)

-- a put of the stream is told as unknown, and its events do not settle what became of it
abbrev pub IsUnsettled : Untold → List Event → List Span → ℕ → Type 0
IsUnsettled untold past doubts stream = HasPut untold.puts.entries past (unsettled_at doubts) stream

-- they settle it of one, and there is none of which they do not
abbrev pub IsSettledByNow : Untold → List Event → List Span → ℕ → Type 0
IsSettledByNow untold past doubts stream = HasPut untold.puts.entries past (settled_at doubts) stream × (¬ (IsUnsettled untold past doubts stream))

-- it is in doubt what became of a message of the stream: of a put that is told as unknown, or it was so before, and none was sent there since
abbrev pub IsInDoubt : Untold → List Event → List Span → List ℕ → ℕ → Type 0
IsInDoubt untold past doubts before stream = IsUnsettled untold past doubts stream ⊎ (Contains before stream × (¬ (WasSentOn past stream)))

-- of some numbers those of which this holds, in their order
abbrev pub Picks : (ℕ → Type 0) → List ℕ → List ℕ → Type 0
Picks Holds [] those = those ≡ []
Picks Holds (number ∷ numbers) those = (Holds number × ((more : List ℕ) × (those ≡ number ∷ more) × Picks Holds numbers more)) ⊎ ((¬ (Holds number)) × Picks Holds numbers those)

pub record AreThose (Holds : ℕ → Type 0) (numbers those : List ℕ) : Type 0 where
  pub picked : Picks Holds numbers those

-- What a start tells of lines that were read: of the streams in doubt on which a put was sent that they are settled, of each put that is kept what is known
-- of it, in the order of their lines, and then of the streams of which one is told as unknown, and nothing is in doubt, that they are settled by now.
abbrev pub TellsBy : (Put → Option SenderOutcome → Type 0) → Untold → List Event → List Span → List ℕ → Bool → List ℕ → Type 0
TellsBy IsKnown untold past doubts in_doubt json text = (streams : List ℕ) × AreThose (WasSentOn past) in_doubt streams
    × ((told : List ℕ) × TellsPuts IsKnown doubts json untold.puts.entries (flat_map (settled_line json) streams) told
    × ((by_now : List ℕ) × AreThose (IsSettledByNow untold past doubts) (range_with_len 1 256) by_now × (text ≡ told ++ flat_map (settled_line json) by_now)))

-- of each put what the events of these lines tell
abbrev pub TellsAll : Untold → List Event → List Span → List ℕ → Bool → List ℕ → Type 0
TellsAll untold past doubts in_doubt json text = TellsBy (IsKnownAs past) untold past doubts in_doubt json text

-- The events of a journal's newer lines go on from a list of its earlier ones, as they do from all of these. Its events are right, and so are the list's puts.
pub record Resumes (newer listed earlier : List Event) : Type 0 where
  pub each : (stream : ℕ) → GoesOnFrom stream newer listed earlier
  pub right : IsRight (newer ++ earlier)
  pub puts : ArePutsRight listed

-- what all events of a journal tell of a put that was read as one of a part of them: by its number from the newest one on
abbrev pub IsKnownByAll : List Event → List Event → Put → Option SenderOutcome → Type 0
IsKnownByAll part all put outcome = IsKnownAs all (record put { place = more_puts put.stream part all + put.place }) outcome

-- each put of the part is kept, unless an ack answered it, as all of the journal tells
abbrev pub KeepsAllOf : Untold → List Numbered → List Event → List Event → Type 0
KeepsAllOf untold past part all = (number stream place : ℕ) (message : List ℕ) → IsPutAt past number stream place message
    → IsKept (get nat_cmp untold.puts) number stream place message ⊎ IsAnswered stream all (more_puts stream part all + place)
