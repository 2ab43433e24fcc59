-- What journals tell of puts.
use Rattle.std.proofs.Common.{◌≡◌, ◌≢◌, ◌∙◌, ℕ, ◌+◌, ◌-◌, ◌<◌, Option, Some, List, Vec, Global, [], get_or, map, reverse, refl, ap, subst, arith}
use Rattle.std.specs.List.{All}
use Rattle.std.specs.Borrow.{Bor}
use Rattle.std.specs.Option.{option_map}
use Rattle.std.specs.Prelude.{slice_get}
use Rattle.std.proofs.lemmas.Option.{slice_get-get_or}
use Rattle.amo_world.specs.declared.event.Event.{Event}
use Rattle.amo_world.specs.Stream.{IsStream}
use Rattle.amo_world.specs.History.{IsRight}
use Rattle.amo_outcomes.specs.declared.outcome.Outcome.{Outcome}
use Rattle.amo_outcomes.specs.declared.outcome.Outcome.TheVariants.{Got}
use Rattle.amo_outcomes.specs.declared.sender_outcome.SenderOutcome.{SenderOutcome}
use Rattle.amo_outcomes.specs.declared.sender_outcome.SenderOutcome.TheVariants as of_sender
use Rattle.amo_outcomes.specs.Puts.{puts_after}
use Rattle.amo_outcomes.specs.SenderOutcome.{AreSenderOutcomes, SendersTold}
use Rattle.amo_outcomes.specs.Told.{AreOutcomes, StreamsTold}
use Rattle.amo_journal.specs.declared.fault.JournalFault.{JournalFault}
use Rattle.amo_journal.specs.declared.fault.JournalFault.TheVariants as fault
use Rattle.amo_journal.specs.declared.lines.Lines.{Lines}
use Rattle.amo_journal.specs.declared.version.Version.{Version}
use Rattle.amo_journal.specs.Fault.{LinesFault}
use Rattle.amo_journal.specs.Journal.{AreEvents}
use Rattle.amo_journal.specs.Lines.{Tell}
use Rattle.amo_journal.proofs.Unambiguous.{gap_no_events, malformed_no_events, one_opening}
use Rattle.amo_audit.specs.Audit.{AreOf}
use Rattle.amo_telling.specs.declared.listing.Listing.TheVariants.{OfSender}
use Rattle.amo_telling.specs.declared.put_outcome.PutOutcome.{PutOutcome}
use Rattle.amo_telling.specs.declared.put_outcome.PutOutcome.TheVariants.{ByBoth, BySender}
use Rattle.amo_telling.specs.Outcomes.{Manner, IsKnown, IsKnownAlone, Tells}
use Rattle.amo_telling.specs.Told.{in_list, told_text}
use Rattle.amo_telling.proofs.Counted.{puts_alone}
use Rattle.amo_telling.proofs.PutLines.{text_tells}

-- the lines of a file are one
pub same_lines : (bytes : List ℕ) (ours lines : Lines) (events : List Event) → AreOf bytes ours → AreOf bytes lines → Tell events ours → Tell events lines
same_lines bytes ours lines events first second told =
    let same = one_opening bytes ours.version lines.version ours.text.now lines.text.now first second in
    subst (λ (t : List ℕ). AreEvents lines.version events t) same.1 (subst (λ (v : Version). AreEvents v events ours.text.now) same.0 told)

-- lines that tell of events have no fault
pub no_fault : (lines : Lines) (events : List Event) (f : JournalFault) → Tell events lines → LinesFault lines.version lines.text.now f → f ≢ fault.NoMemory → ⊥
no_fault lines events fault.NoMemory told found not = not refl
no_fault lines events (fault.Malformed at) told found not = malformed_no_events lines.version lines.text.now at events found told
no_fault lines events (fault.Gap at) told found not = gap_no_events lines.version lines.text.now at events found told
no_fault lines events fault.Device told found not = found

-- what is told of a put that was taken is listed, by a history of both sides
pub both_told : (history : List Event) (lists : List (List Outcome)) → StreamsTold history 256 lists → (stream put : ℕ) → IsStream stream → put < (puts_after stream history).count
    → (outcome : PutOutcome) × IsKnown history stream put outcome × (option_map ByBoth (in_list (slice_get lists (stream - 1)) put) ≡ Some outcome)
both_told history lists streams stream put is less =
    let place : stream - 1 + 1 ≡ stream = omega (arith, is.0) in
    let told = get_or lists (stream - 1) [] in
    let here : slice_get lists (stream - 1) ≡ Some told = slice_get-get_or lists (stream - 1) [] (omega (arith, is.0, is.1, streams.count)) in
    let of_stream = subst (λ (n : ℕ). AreOutcomes n history told) place (streams.each (stream - 1) told here) in
    let outcome = get_or told put Got in
    let there : slice_get told put ≡ Some outcome = slice_get-get_or told put Got (omega (arith, less, of_stream.count)) in
    (ByBoth outcome, of_stream.each put outcome there, ap (λ (o : Option (List Outcome)). option_map ByBoth (in_list o put)) here ∙ ap (option_map ByBoth) there)

-- and by a sender's own events
pub sender_told : (history : List Event) (lists : List (List SenderOutcome)) → SendersTold history 256 lists → (stream put : ℕ) → IsStream stream → put < (puts_after stream history).count
    → (outcome : PutOutcome) × IsKnownAlone history stream put outcome × (option_map BySender (in_list (slice_get lists (stream - 1)) put) ≡ Some outcome)
sender_told history lists streams stream put is less =
    let place : stream - 1 + 1 ≡ stream = omega (arith, is.0) in
    let told = get_or lists (stream - 1) [] in
    let here : slice_get lists (stream - 1) ≡ Some told = slice_get-get_or lists (stream - 1) [] (omega (arith, is.0, is.1, streams.count)) in
    let of_stream = subst (λ (n : ℕ). AreSenderOutcomes n history told) place (streams.each (stream - 1) told here) in
    let outcome = get_or told put of_sender.Got in
    let there : slice_get told put ≡ Some outcome = slice_get-get_or told put of_sender.Got (omega (arith, less, of_stream.count)) in
    (BySender outcome, of_stream.each put outcome there, ap (λ (o : Option (List SenderOutcome)). option_map BySender (in_list o put)) here ∙ ap (option_map BySender) there)

-- the events of a sender alone
pub tells_alone : (choice : Manner) (all : Bor (List (Vec SenderOutcome Global))) (events : List Event) → All (λ e. IsStream e.stream) events → IsRight (reverse events)
    → SendersTold (reverse events) 256 (map (λ told. told.items) all.now) → Tells (IsKnownAlone (reverse events)) choice [] events (told_text choice (OfSender all) [] events)
tells_alone choice all events are right told =
    text_tells choice (OfSender all) (IsKnownAlone (reverse events)) (λ number. (puts_after number (reverse events)).count)
    (sender_told (reverse events) (map (λ told. told.items) all.now) told) [] events are (λ number. let count = puts_alone number events right in omega (arith, count))
