-- What is found of events, and of which streams they are.
use Rattle.std.proofs.Common.{◌≡◌, ℕ, List, reverse, subst}
use Rattle.std.specs.List.{All}
use Rattle.amo_world.specs.declared.event.Event.{Event}
use Rattle.amo_world.specs.declared.fault.WorldFault.{WorldFault}
use Rattle.amo_world.specs.Stream.{IsStream}
use Rattle.amo_world.proofs.Serving.{serves}
use Rattle.amo_audit.specs.declared.auditor.Finding.{Finding}
use Rattle.amo_audit.specs.declared.auditor.Finding.TheVariants.{Nothing, AtFault}
use Rattle.amo_audit.specs.declared.verdict.Verdict.{Verdict}
use Rattle.amo_audit.specs.declared.verdict.Verdict.TheVariants as verdict
use Rattle.amo_audit.specs.declared.judgement.Judgement.TheVariants.{Whole}
use Rattle.amo_journal.specs.declared.lines.Lines.{Lines}
use Rattle.amo_journal.specs.Lines.{Tell}
use Rattle.amo_audit.specs.Audit.{Finds, JudgesEvents, IsFaultAt, IsSound}
use Rattle.amo_audit.specs.Merge.{IsPreferred, SharesSide}
use Rattle.amo_audit.specs.declared.coming.Source.TheVariants.{Journal}
use Rattle.amo_audit.specs.Judgement.{JudgesTwo}
use Rattle.amo_audit.specs.Merging.{Merges, OfSources}
use Rattle.amo_journal.proofs.Further.{event_streams}

-- the events that lines tell of are of streams that there are
pub told_streams : (lines : Lines) (events : List Event) → Tell events lines → All (λ e. IsStream e.stream) events
told_streams lines events told = event_streams lines.version lines.text.now events told

-- what is found of events in the order of time
module _ (world : List Event) (finding : Finding) (events : List Event) (finds : Finds world finding events) where
  pub sound_events : finding ≡ Nothing → JudgesEvents events verdict.Yes
  sound_events is =
      let found = subst (λ (f : Finding). Finds world f events) is finds in
      let sound = subst IsSound found.0 found.1 in
      (sound, λ number. serves number (reverse events) sound.0 sound.1 sound.2)

  pub event_at_fault : (at : ℕ) (why : WorldFault) → finding ≡ AtFault at why → IsFaultAt events at why
  event_at_fault at why is = subst (λ (f : Finding). Finds world f events) is finds

-- what is found of the preferred interleaving is found of both
pub merge_judged : (first second : Lines) (x y merged : List Event) (v : Verdict) → Tell x first → Tell y second → (¬ (SharesSide x y)) → IsPreferred x y merged → JudgesEvents merged v → JudgesTwo first second (Whole v)
merge_judged first second x y merged verdict.NoMemory p q apart preferred judged = tt
merge_judged first second x y merged verdict.Yes p q apart preferred judged = (x, y, p, q, (apart, (merged, preferred, judged)))
merge_judged first second x y merged (verdict.Malformed at) p q apart preferred judged = absurd judged
merge_judged first second x y merged (verdict.Gap at) p q apart preferred judged = absurd judged
merge_judged first second x y merged (verdict.WrongReply at) p q apart preferred judged = (x, y, p, q, (apart, (merged, preferred, judged)))
merge_judged first second x y merged (verdict.Unsent at) p q apart preferred judged = (x, y, p, q, (apart, (merged, preferred, judged)))
merge_judged first second x y merged (verdict.Repeat at) p q apart preferred judged = (x, y, p, q, (apart, (merged, preferred, judged)))

-- a world that has taken the merge
pub merged_soundly : (first second : Lines) (world : List Event) → OfSources (Journal first) (Journal second) (Merges (λ (w : List Event) past. (w ≡ past) × IsSound past) world) → JudgesTwo first second (Whole verdict.Yes)
merged_soundly first second world (x, y, p, q, (apart, (merged, preferred, held))) =
    let sound = held.1 in
    merge_judged first second x y merged verdict.Yes p q apart preferred (sound, λ number. serves number (reverse merged) sound.0 sound.1 sound.2)
