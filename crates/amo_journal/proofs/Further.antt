-- Places among lines, and the same counted from a file's first line.
use Rattle.std.proofs.Common.{ℕ, ◌+◌, ◌≤◌, List, [], ◌∷◌, length, length-append, refl, ◌∙◌, ap, arith}
use Rattle.std.specs.List.{All, AllByRecursion, flat_map}
use Rattle.std.proofs.lemmas.List.Elements.{All-from_recursion}
use Rattle.amo_packet.specs.Stream.{IsStream}
use Rattle.amo_world.specs.declared.event.Event.{Event}
use Rattle.amo_text.specs.Line.{text_of}
use Rattle.amo_journal.specs.declared.fault.JournalFault.{JournalFault}
use Rattle.amo_journal.specs.declared.fault.JournalFault.TheVariants.{NoMemory, Malformed, Gap, Device}
use Rattle.amo_journal.specs.declared.numbered.Numbered.{Numbered}
use Rattle.amo_journal.specs.declared.version.Version.{Version}
use Rattle.amo_journal.specs.declared.version.Version.TheVariants.{One, Two}
use Rattle.amo_journal.specs.Version.{lines_before, Opens}
use Rattle.amo_journal.specs.Journal.{fields_of, line_text, numbered, InRange, SpellsLines, AreEvents, IsJournal, HasMalformed, HasGap}
use Rattle.amo_journal.specs.Fault.{Faults, LinesFault, further, line_named}
use Rattle.amo_journal.proofs.Gaps.{length-numbered}

-- each line has a byte
pub few_lines : (lines : List Numbered) → length lines ≤ length (flat_map line_text lines)
few_lines [] = omega arith
few_lines (l ∷ lines) =
    let rest = few_lines lines in
    let both = length-append (line_text l) (flat_map line_text lines) in
    let end = length-append (text_of (fields_of l)) (10 ∷ []) in
    omega (arith, rest, both, end)

pub lines_within : (version : Version) (body : List ℕ) (lines : List Numbered) → SpellsLines version body lines → length lines ≤ length body
lines_within version body lines spells = let few = few_lines lines in let same = ap length spells.1 in omega (arith, few, same)

pub malformed_within : (version : Version) (body : List ℕ) (at : ℕ) → HasMalformed version body at → at ≤ length body + 1
malformed_within version body at (items, front, rest, spells, unread, whole, count) =
    let few = lines_within version front items spells in
    let both = ap length whole ∙ length-append front rest in
    omega (arith, few, both, count)

pub gap_within : (version : Version) (body : List ℕ) (at : ℕ) → HasGap version body at → at ≤ length body + 1
gap_within version body at (lines, spells, gap) =
    let few = lines_within version body lines spells in
    let long = ap length gap.whole ∙ length-append (numbered 0 gap.before) (gap.line ∷ gap.after) in
    let front = length-numbered 0 gap.before in
    omega (arith, few, long, front, gap.count)

pub fault_within : (version : Version) (body : List ℕ) (fault : JournalFault) → LinesFault version body fault → line_named fault ≤ length body + 1
fault_within version body NoMemory found = omega arith
fault_within version body (Malformed line) found = malformed_within version body line found
fault_within version body (Gap line) found = gap_within version body line found
fault_within version body Device found = absurd found

pub one_before : (version : Version) → lines_before version ≤ 1
one_before One = omega arith
one_before Two = omega arith

-- what is wrong with the lines is wrong with the file
pub file_fault : (version : Version) (body bytes : List ℕ) (fault : JournalFault) → Opens version body bytes → LinesFault version body fault → Faults bytes (further (lines_before version) fault)
file_fault version body bytes NoMemory opens found = tt
file_fault version body bytes (Malformed line) opens found = record { version = version; body = body; place = line; opens = opens; holds = found; at_is = refl }
file_fault version body bytes (Gap line) opens found = record { version = version; body = body; place = line; opens = opens; holds = found; at_is = refl }
file_fault version body bytes Device opens found = absurd found

-- the events of lines are of streams that there are
in_range_streams : (version : Version) (n : ℕ) (events : List Event) → AllByRecursion (InRange version) (numbered n events) → AllByRecursion (λ e. IsStream e.stream) events
in_range_streams version n [] known = tt
in_range_streams version n (e ∷ events) known = (known.0.1.stream, in_range_streams version (n + 1) events known.1)

pub event_streams : (version : Version) (body : List ℕ) (events : List Event) → AreEvents version events body → All (λ e. IsStream e.stream) events
event_streams version body events lines = All-from_recursion (λ e. IsStream e.stream) events (in_range_streams version 0 events lines.0)

-- the lines behind a heading are a file's events
pub file_events : (version : Version) (body bytes : List ℕ) (events : List Event) → Opens version body bytes → AreEvents version events body → IsJournal events bytes
file_events version body bytes events opens lines = (version, record { body = body; opens = opens; lines = lines })
