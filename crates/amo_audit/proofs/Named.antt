-- The lines that are named are few.
use Rattle.std.proofs.Common.{◌≡◌, ℕ, ◌+◌, ◌≤◌, ◌<◌, ◌^◌, List, [], ◌∷◌, length, length-append, inl, inr, ap, arith}
use Rattle.amo_world.specs.declared.event.Event.{Event}
use Rattle.amo_world.specs.declared.fault.WorldFault.{WorldFault}
use Rattle.amo_journal.specs.declared.lines.Lines.{Lines}
use Rattle.amo_journal.specs.Journal.{numbered}
use Rattle.amo_journal.specs.Lines.{Tell}
use Rattle.amo_journal.proofs.Further.{gap_within, lines_within, malformed_within}
use Rattle.amo_journal.proofs.Gaps.{length-numbered}
use Rattle.amo_audit.specs.declared.judgement.Judgement.{Judgement}
use Rattle.amo_audit.specs.declared.judgement.Judgement.TheVariants.{Whole, First, Second, Shared, Stuck}
use Rattle.amo_audit.specs.declared.verdict.Verdict.{Verdict}
use Rattle.amo_audit.specs.declared.verdict.Verdict.TheVariants as verdict
use Rattle.amo_audit.specs.Audit.{IsFaultAt, JudgesEvents, JudgesLines, TellFaultAt}
use Rattle.amo_audit.specs.Audit as audit
use Rattle.amo_audit.specs.Judgement.{JudgesTwo, MergeIsJudged, OfBoth, TellNone}
use Rattle.amo_audit.specs.Judgement as judgement
use Rattle.amo_audit.specs.Merge.{Interleaves}
use Rattle.amo_audit.proofs.Greedy.{preferred_interleaves}

pub few_events : (lines : Lines) (events : List Event) → Tell events lines → length events ≤ length lines.text.now
few_events lines events told =
    let few = lines_within lines.version lines.text.now (numbered 0 events) told in
    let long = length-numbered 0 events in
    omega (arith, few, long)

at_within : (events : List Event) (at : ℕ) (why : WorldFault) → IsFaultAt events at why → at ≤ length events
at_within events at why found =
    let long = ap length found.whole in
    let both = length-append found.before (found.event ∷ found.after) in
    omega (arith, long, both, found.count)

fault_within : (lines : Lines) (at : ℕ) (why : WorldFault) → TellFaultAt lines at why → at ≤ length lines.text.now + 1
fault_within lines at why (events, told, found) =
    let few = few_events lines events told in
    let within = at_within events at why found in
    omega (arith, few, within)

pub judged_within : (lines : Lines) (v : Verdict) → JudgesLines lines v → audit.line_named v ≤ length lines.text.now + 1
judged_within lines verdict.Yes judged = omega arith
judged_within lines verdict.NoMemory judged = omega arith
judged_within lines (verdict.Malformed at) judged = malformed_within lines.version lines.text.now at judged
judged_within lines (verdict.Gap at) judged = gap_within lines.version lines.text.now at judged
judged_within lines (verdict.WrongReply at) judged = fault_within lines at _ judged
judged_within lines (verdict.Unsent at) judged = fault_within lines at _ judged
judged_within lines (verdict.Repeat at) judged = fault_within lines at _ judged

pub none_within : (lines : Lines) (v : Verdict) → TellNone lines v → audit.line_named v ≤ length lines.text.now + 1
none_within lines (verdict.Malformed at) found = malformed_within lines.version lines.text.now at found
none_within lines (verdict.Gap at) found = gap_within lines.version lines.text.now at found
none_within lines verdict.NoMemory found = omega arith
none_within lines verdict.Yes found = absurd found
none_within lines (verdict.WrongReply at) found = absurd found
none_within lines (verdict.Unsent at) found = absurd found
none_within lines (verdict.Repeat at) found = absurd found

-- an interleaving is as long as both lists
pub as_long : (x y merged : List Event) → Interleaves x y merged → length merged ≡ length x + length y
as_long x y [] both = let p = ap length both.0 in let q = ap length both.1 in omega (arith, p, q)
as_long x y (e ∷ merged) (inl (rest, is, more)) = let p = ap length is in let long = as_long rest y merged more in omega (arith, p, long)
as_long x y (e ∷ merged) (inr (rest, is, more)) = let p = ap length is in let long = as_long x rest merged more in omega (arith, p, long)

pub events_within : (events : List Event) (v : Verdict) → JudgesEvents events v → audit.line_named v ≤ length events
events_within events verdict.Yes judged = omega arith
events_within events verdict.NoMemory judged = omega arith
events_within events (verdict.Malformed at) judged = absurd judged
events_within events (verdict.Gap at) judged = absurd judged
events_within events (verdict.WrongReply at) judged = at_within events at _ judged
events_within events (verdict.Unsent at) judged = at_within events at _ judged
events_within events (verdict.Repeat at) judged = at_within events at _ judged

merged_within : (first second : Lines) (v : Verdict) → OfBoth first second (MergeIsJudged v) → audit.line_named v ≤ length first.text.now + length second.text.now
merged_within first second v (x, y, p, q, (apart, (merged, preferred, judged))) =
    let within = events_within merged v judged in
    let long = as_long x y merged (preferred_interleaves [] x y merged preferred) in
    let few = few_events first x p in
    let few' = few_events second y q in
    omega (arith, within, long, few, few')

-- no line that is named is the last number
module _ (first second : Lines) (short : length first.text.now < 2 ^ 63) (short' : length second.text.now < 2 ^ 63) where
  whole_within : (v : Verdict) → OfBoth first second (MergeIsJudged v) → audit.line_named v + 1 < 2 ^ 64
  whole_within v found = let within = merged_within first second v found in omega (arith, within)

  pub found_within : (j : Judgement) → JudgesTwo first second j → judgement.line_named j + 1 < 2 ^ 64
  found_within (First v) found = let within = none_within first v found in omega (arith, within)
  found_within (Second v) found = let within = none_within second v found.1 in omega (arith, within)
  found_within Shared found = omega arith
  found_within Stuck found = omega arith
  found_within (Whole verdict.NoMemory) found = omega arith
  found_within (Whole verdict.Yes) found = omega arith
  found_within (Whole (verdict.Malformed at)) found = whole_within (verdict.Malformed at) found
  found_within (Whole (verdict.Gap at)) found = whole_within (verdict.Gap at) found
  found_within (Whole (verdict.WrongReply at)) found = whole_within (verdict.WrongReply at) found
  found_within (Whole (verdict.Unsent at)) found = whole_within (verdict.Unsent at) found
  found_within (Whole (verdict.Repeat at)) found = whole_within (verdict.Repeat at) found
