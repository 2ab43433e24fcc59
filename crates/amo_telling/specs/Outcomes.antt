-- What is told of puts, by two journals.
use Rattle.std.specs.Prelude.{◌≡◌, ◌≢◌, ℕ, ◌+◌, ◌==◌, Bool, true, false, nat_lt, not, ◌&&◌, if◌then◌else◌, List, [], ◌∷◌, ◌++◌, length, reverse}
use Rattle.std.specs.List.{list_any}
use Rattle.amo_core.specs.declared.act.Act.{Act}
use Rattle.amo_core.specs.declared.act.Act.TheVariants as act
use Rattle.amo_core.specs.declared.reply.Reply.{Reply}
use Rattle.amo_core.specs.declared.reply.Reply.TheVariants as reply
use Rattle.amo_world.specs.declared.event.Event.{Event}
use Rattle.amo_outcomes.specs.declared.outcome.Outcome.{Outcome}
use Rattle.amo_outcomes.specs.declared.outcome.Outcome.TheVariants.{Got, Gone, Open}
use Rattle.amo_outcomes.specs.declared.sender_outcome.SenderOutcome.{SenderOutcome}
use Rattle.amo_outcomes.specs.declared.sender_outcome.SenderOutcome.TheVariants as told
use Rattle.amo_outcomes.specs.Outcome.{HasOutcome}
use Rattle.amo_outcomes.specs.SenderOutcome.{HasSenderOutcome}
use Rattle.amo_journal.specs.declared.lines.Lines.{Lines}
use Rattle.amo_journal.specs.Lines.{Tell}
use Rattle.amo_audit.specs.Audit.{AreOf, IsSound}
use Rattle.amo_audit.specs.declared.reach.Reach.{Reach}
use Rattle.amo_audit.specs.declared.reach.Reach.TheVariants.{First, Second}
use Rattle.amo_audit.specs.Judgement.{AreApart, judgement_status}
use Rattle.amo_audit.specs.Outcomes.{FindsBoth, GoesOnSoundly}
use Rattle.amo_audit.specs.Reach.{AreBeginnings, Reaches, counted}
use Rattle.amo_lives.specs.declared.doubt.Span.{Span}
use Rattle.amo_telling.specs.declared.asked.Asked.{Asked}
use Rattle.amo_telling.specs.declared.choice.Choice.{Choice}
use Rattle.amo_telling.specs.declared.put_outcome.PutOutcome.{PutOutcome}
use Rattle.amo_telling.specs.declared.put_outcome.PutOutcome.TheVariants.{ByBoth, BySender, InDoubt}
use Rattle.amo_telling.specs.declared.telling.Telling.{Telling}
use Rattle.amo_telling.specs.declared.telling.Telling.TheVariants.{Told, Nothing}
use Rattle.amo_telling.specs.Shown.{outcome_line}

-- whether an outcome is told
abbrev pub is_wanted : Choice → PutOutcome → Bool
is_wanted choice (ByBoth Gone) = choice.gone
is_wanted choice (BySender told.Gone) = choice.gone
is_wanted choice (ByBoth Open) = choice.open
is_wanted choice (BySender told.Open) = choice.open
is_wanted choice _ = false

abbrev pub is_chosen : Choice → PutOutcome → Bool
is_chosen choice outcome = if (not choice.open) && (not choice.gone) then true else is_wanted choice outcome

-- whether a put was taken
abbrev pub is_put : Act → Reply → Bool
is_put (act.Put m) reply.Ok = true
is_put _ _ = false

-- how many puts of a stream were taken
abbrev pub one_if : Bool → ℕ
one_if true = 1
one_if false = 0

abbrev pub puts_in : ℕ → List Event → ℕ
puts_in number [] = 0
puts_in number (e ∷ events) = puts_in number events + one_if ((number == e.stream) && is_put e.act e.reply)

-- which outcomes are told, and which lines are doubtful
pub record Manner : Type 0 where
  pub choice : Choice
  pub doubts : List Span

abbrev pub by : Choice → List Span → Manner
by choice doubts = record { choice = choice; doubts = doubts }

-- whether the line of this number is one of these
abbrev pub holds : ℕ → Span → Bool
holds number span = not (nat_lt number span.first) && nat_lt number span.end

-- what a loss of power may have changed is not known: that a put was lost, or waits
abbrev pub doubted : PutOutcome → PutOutcome
doubted (ByBoth Gone) = InDoubt
doubted (BySender told.Gone) = BySender (told.Unknown false)
doubted (BySender told.Open) = BySender (told.Unknown false)
doubted outcome = outcome

-- what is told of a put on the line of this number
abbrev pub as_told : List Span → ℕ → PutOutcome → PutOutcome
as_told doubts number outcome = if list_any (holds number) doubts then doubted outcome else outcome

-- its line, if that is chosen
abbrev pub line_by : Choice → ℕ → ℕ → List ℕ → PutOutcome → List ℕ
line_by choice number stream m outcome = if is_chosen choice outcome then outcome_line choice.json number stream outcome m else []

-- the line of a put, which became of it so
abbrev pub line_if : Manner → ℕ → ℕ → List ℕ → PutOutcome → List ℕ
line_if manner number stream m outcome = line_by manner.choice number stream m (as_told manner.doubts number outcome)

-- what became of a put of a stream, in a history of both sides
abbrev pub IsKnown : List Event → ℕ → ℕ → PutOutcome → Type 0
IsKnown history stream put (ByBoth outcome) = HasOutcome stream history put outcome
IsKnown history stream put _ = ⊥

-- what is told where the other side lacks lines, by a history of both sides as far as they merge and by all of the sender's own events: what an
-- ack says was got, was got; and of what was sent, the lines that are lacking may tell that it was got, so it is not gone
abbrev pub told_further : Outcome → SenderOutcome → PutOutcome
told_further Got alone = ByBoth Got
told_further outcome told.Got = BySender told.Got
told_further Gone (told.Unknown settled) = InDoubt
told_further outcome alone = ByBoth outcome

-- what is told of a put there, which became this of in such a history, by the sender's own history
abbrev pub IsToldFurther : List Event → ℕ → ℕ → Outcome → PutOutcome → Type 0
IsToldFurther own stream put outcome known = (alone : SenderOutcome) × HasSenderOutcome stream own put alone × (known ≡ told_further outcome alone)

abbrev pub IsKnownFurther : List Event → List Event → ℕ → ℕ → PutOutcome → Type 0
IsKnownFurther history own stream put known = (outcome : Outcome) × HasOutcome stream history put outcome × IsToldFurther own stream put outcome known

-- what is known of the puts of each of two journals, where this is how far they merge, and these are its events: of one that goes on, more
abbrev pub IsKnownOfFirst : Reach → List Event → List Event → ℕ → ℕ → PutOutcome → Type 0
IsKnownOfFirst (First at) history events = IsKnownFurther history (reverse events)
IsKnownOfFirst _ history events = IsKnown history

abbrev pub IsKnownOfSecond : Reach → List Event → List Event → ℕ → ℕ → PutOutcome → Type 0
IsKnownOfSecond (Second at) history events = IsKnownFurther history (reverse events)
IsKnownOfSecond _ history events = IsKnown history

-- what a sender's own events tell of it
abbrev pub IsKnownAlone : List Event → ℕ → ℕ → PutOutcome → Type 0
IsKnownAlone history stream put (BySender outcome) = HasSenderOutcome stream history put outcome
IsKnownAlone history stream put _ = ⊥

-- given what is told of the puts of each stream, which are counted from 0
module _ (Has : ℕ → ℕ → PutOutcome → Type 0) (choice : Manner) where
  -- what is written of an event of a journal, on its line of this number, behind so many puts of its stream
  abbrev pub TellsReply : ℕ → ℕ → ℕ → Act → Reply → List ℕ → Type 0
  TellsReply number put stream (act.Put m) reply.Ok text = (outcome : PutOutcome) × Has stream put outcome × (text ≡ line_if choice number stream m outcome)
  TellsReply number put stream _ _ text = text ≡ []

  -- and of events in the order of time, behind those of the same journal before them, the newest of which is the first
  abbrev pub Tells : List Event → List Event → List ℕ → Type 0
  Tells before [] text = text ≡ []
  Tells before (e ∷ events) text = (line : List ℕ) × (more : List ℕ) × TellsReply (length before) (puts_in e.stream before) e.stream e.act e.reply line
      × Tells (e ∷ before) events more × (text ≡ line ++ more)

-- the text tells what became of each put in the greatest beginnings of two journals that merge, whose merged history is right, honest and
-- fresh: first those of the first one
pub record IsTelling (reach : Reach) (choice : Choice) (first second : List ℕ) (doubts doubts' : List Span) (text : List ℕ) : Type 0 where
  pub ours : Lines
  pub theirs : Lines
  pub opens : AreOf first ours × AreOf second theirs
  pub x : List Event
  pub y : List Event
  pub tell : Tell x ours × Tell y theirs
  pub apart : AreApart x y
  pub our_front : List Event
  pub their_front : List Event
  pub merged : List Event
  pub beginnings : AreBeginnings x y our_front their_front merged
  pub found : Reach
  pub reaches : Reaches found x y our_front their_front
  pub counts : reach ≡ counted ours.version theirs.version found
  pub goes_on : GoesOnSoundly found x y
  pub sound : IsSound (reverse merged)
  pub of_first : List ℕ
  pub of_second : List ℕ
  pub puts : Tells (IsKnownOfFirst found (reverse merged) x) (by choice doubts) [] our_front of_first
      × Tells (IsKnownOfSecond found (reverse merged) y) (by choice doubts') [] their_front of_second
  pub is : text ≡ of_first ++ of_second

-- the doubtful lines of the first of two journals, and of the second, where there are others if the other one goes on behind it
abbrev pub first_doubts : Reach → List Span → List Span → List Span
first_doubts (Second line) doubts if_short = if_short
first_doubts _ doubts if_short = doubts

abbrev pub second_doubts : Reach → List Span → List Span → List Span
second_doubts (First line) doubts if_short = if_short
second_doubts _ doubts if_short = doubts

-- the text tells of two journals that were asked, where both are judged so far
abbrev pub IsToldOf : Reach → Choice → Asked → Asked → List ℕ → Type 0
IsToldOf reach choice first second text = IsTelling reach choice first.bytes.now second.bytes.now (first_doubts reach first.doubts.now first.if_short.now)
    (second_doubts reach second.doubts.now second.if_short.now) text

-- what is written where this is told
abbrev pub TellsIf : Telling → Choice → Asked → Asked → List ℕ → Type 0
TellsIf (Told reach) choice first second text = IsToldOf reach choice first second text
TellsIf (Nothing judgement) choice first second text = (text ≡ []) × FindsBoth first.bytes.now second.bytes.now judgement × (judgement_status judgement ≢ 4)
