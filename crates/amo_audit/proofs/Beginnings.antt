-- What is told of the greatest beginnings of two journals that merge, and what is found of others.
use Rattle.std.proofs.Common.{◌≡◌, ◌≢◌, ℕ, ◌+◌, ◌<◌, ◌≤◌, ◌^◌, List, [], ◌∷◌, ◌++◌, length, length-append, reverse, refl, sym, ap, subst, inl, inr, ◌⊎◌, arith}
use Rattle.std.proofs.lemmas.List.{append-nil, reverse-reverse}
use Rattle.amo_world.specs.declared.event.Event.{Event}
use Rattle.amo_world.specs.declared.fault.WorldFault.{WorldFault}
use Rattle.amo_outcomes.specs.declared.outcome.Outcome.{Outcome}
use Rattle.amo_outcomes.specs.Told.{StreamsTold}
use Rattle.amo_journal.specs.declared.lines.Lines.{Lines}
use Rattle.amo_audit.specs.declared.coming.Source.TheVariants.{Journal}
use Rattle.amo_audit.specs.declared.judgement.Judgement.{Judgement}
use Rattle.amo_audit.specs.declared.merging.Ending.{Ending}
use Rattle.amo_audit.specs.declared.merging.Ending.TheVariants as ending
use Rattle.amo_audit.specs.declared.judgement.Judgement.TheVariants as found
use Rattle.amo_audit.specs.declared.reach.Reach.{Reach}
use Rattle.amo_audit.specs.declared.reach.Reach.TheVariants.{Whole, First, Second}
use Rattle.amo_audit.specs.declared.verdict.Verdict.{Verdict}
use Rattle.amo_audit.specs.declared.verdict.Verdict.TheVariants as verdict
use Rattle.amo_audit.specs.Alone.{IsRefusedAt, JudgesAlone}
use Rattle.amo_audit.specs.Audit as audit
use Rattle.amo_audit.specs.Audit.{Finds, IsSound, JudgesEvents}
use Rattle.amo_audit.specs.Judgement as judgement
use Rattle.amo_audit.specs.Judgement.{AreNotMerged, CannotMerge, OfBoth, TellNone}
use Rattle.amo_audit.specs.Merge.{IsPreferred}
use Rattle.amo_audit.specs.Merging.{Begins, Ends, Merges, OfSources}
use Rattle.amo_audit.specs.Outcomes.{BeginningsAreJudged, FindsTwo, FollowsIfSound, IsAtFault, TellMerge, TellOutcomes}
use Rattle.amo_audit.specs.Hosts as hosts
use Rattle.amo_audit.specs.declared.auditor.Auditor.{Auditor}
use Rattle.amo_audit.specs.declared.outcomes.Audited.{Audited}
use Rattle.amo_audit.specs.declared.outcomes.Followed.{Followed}
use Rattle.amo_audit.specs.declared.site.Hosted.{Hosted}
use Rattle.amo_outcomes.specs.Followers.{HaveFollowed}
use Rattle.amo_audit.specs.Reach as extent
use Rattle.amo_audit.specs.Reach.{AreBeginnings, Reaches}
use Rattle.amo_audit.proofs.Greedy.{preferred_interleaves}
use Rattle.amo_audit.proofs.Named.{as_long, events_within, few_events, none_within}

-- what sites have taken
abbrev pub InWorld : List Event → List Event → Type 0
InWorld world past = (world ≡ past) × IsSound past

abbrev pub InAuditor : Hosted Auditor → List Event → Type 0
InAuditor site past = hosts.Represents site.hosts.streams.items past × Finds site.taker.world site.taker.finding (reverse past)

abbrev pub InAudited : Hosted Audited → List Event → Type 0
InAudited site past = hosts.Represents site.hosts.streams.items past
    × (Finds site.taker.auditor.world site.taker.auditor.finding (reverse past) × FollowsIfSound site.taker.followers (reverse past))

abbrev pub InFollowed : Followed → List Event → Type 0
InFollowed site past = (site.world ≡ past) × IsSound past × HaveFollowed site.followers past

-- lists that merge are their own greatest beginnings
pub all_begin : (x y merged : List Event) → IsPreferred x y merged → AreBeginnings x y x y merged
all_begin x y merged preferred = record {
  behind_first = [];
  behind_second = [];
  first_of = sym (append-nil x);
  second_of = sym (append-nil y);
  preferred = preferred;
  first_waits = λ may. may;
  second_waits = λ may. may;
}

-- beginnings of which this is found
abbrev Found : Lines → Lines → Verdict → Type 0
Found first second v = OfBoth first second (BeginningsAreJudged v)

pub judged_so : (first second : Lines) (v : Verdict) → v ≢ verdict.Yes → Found first second v → FindsTwo first second (found.Whole v)
judged_so first second verdict.NoMemory not it = tt
judged_so first second verdict.Yes not it = (not, it)
judged_so first second (verdict.Malformed at) not it = (not, it)
judged_so first second (verdict.Gap at) not it = (not, it)
judged_so first second (verdict.WrongReply at) not it = (not, it)
judged_so first second (verdict.Unsent at) not it = (not, it)
judged_so first second (verdict.Repeat at) not it = (not, it)

-- what a site tells of what it has taken
module _ {S : Type 0} (HasTaken : S → List Event → Type 0) (first second : Lines) (site : S) where
  module _ (all : List (List Outcome)) (tells : (past : List Event) → HasTaken site past → IsSound past × StreamsTold past 256 all) where
    pub whole_tells : OfSources (Journal first) (Journal second) (Merges HasTaken site) → TellMerge first second Whole all
    whole_tells (x, y, p, q, (apart, (merged, preferred, held))) =
        let told = tells (reverse merged) held in
        (x, y, p, q, record { apart = apart; first = x; second = y; merged = merged; beginnings = all_begin x y merged preferred; reaches = (refl, refl); sound = told.0; told = told.1 })

    pub early_tells : (reach : Reach) → OfSources (Journal first) (Journal second) (Begins HasTaken site reach) → TellMerge first second reach all
    early_tells reach (x, y, p, q, it) =
        let told = tells (reverse it.merged) it.taken in
        (x, y, p, q, record { apart = it.cannot.0; first = it.first; second = it.second; merged = it.merged; beginnings = it.beginnings; reaches = it.reaches; sound = told.0; told = told.1 })

  module _ (j : Judgement) (finds : (past : List Event) → HasTaken site past → (v : Verdict) × (j ≡ found.Whole v) × (v ≢ verdict.Yes) × JudgesEvents (reverse past) v) where
    pub whole_found : OfSources (Journal first) (Journal second) (Merges HasTaken site) → FindsTwo first second j
    whole_found (x, y, p, q, (apart, (merged, preferred, held))) =
        let (v, is, not, judged) = finds (reverse merged) held in
        subst (FindsTwo first second) (sym is) (judged_so first second v not
        (x, y, p, q, (apart, (x, y, merged, all_begin x y merged preferred, subst (λ (t : List Event). JudgesEvents t v) (reverse-reverse merged) judged))))

    pub early_found : (reach : Reach) → OfSources (Journal first) (Journal second) (Begins HasTaken site reach) → FindsTwo first second j
    early_found reach (x, y, p, q, it) =
        let (v, is, not, judged) = finds (reverse it.merged) it.taken in
        subst (FindsTwo first second) (sym is) (judged_so first second v not
        (x, y, p, q, (it.cannot.0, (it.first, it.second, it.merged, it.beginnings, subst (λ (t : List Event). JudgesEvents t v) (reverse-reverse it.merged) judged))))

-- where a merge ends early, or is stuck, all of both do not merge
pub not_all_merge : {S : Type 0} → (HasTaken : S → List Event → Type 0) (MayEnd : Type 0) (first second : Lines) (it : Ending S) → Ends HasTaken MayEnd (Journal first) (Journal second) it
    → ((site : S) × (reach : Reach) × (it ≡ ending.Early site reach)) ⊎ ((at : ℕ) × (other : ℕ) × (it ≡ ending.Stuck at other)) → OfBoth first second CannotMerge
not_all_merge HasTaken MayEnd first second it ends (inl (site, reach, is)) =
    let (x, y, p, q, it) = subst (Ends HasTaken MayEnd (Journal first) (Journal second)) is ends in
    (x, y, p, q, it.cannot)
not_all_merge HasTaken MayEnd first second it ends (inr (at, other, is)) =
    let (x, y, p, q, it) = subst (Ends HasTaken MayEnd (Journal first) (Journal second)) is ends in
    (x, y, p, q, it.0.0)

-- what is not merged
no_yes : (lines : Lines) (v : Verdict) → TellNone lines v → v ≢ verdict.Yes
no_yes lines v none is = subst (TellNone lines) is none

pub not_merged : (first second : Lines) (j : Judgement) → AreNotMerged first second j → FindsTwo first second j
not_merged first second (found.First v) none = (no_yes first v none, inl none)
not_merged first second (found.Second v) none = (no_yes second v none.1, none.0, inl none.1)
not_merged first second found.Shared shares = shares
not_merged first second found.Stuck it = absurd it
not_merged first second (found.Whole v) it = absurd it

-- the lines that are named are few
refused_within : (events : List Event) (at : ℕ) (why : WorldFault) → IsRefusedAt events at why → at ≤ length events
refused_within events at why it =
    let long = ap length it.whole in
    let both = length-append it.before (it.event ∷ it.after) in
    omega (arith, long, both, it.count)

alone_within : (events : List Event) (v : Verdict) → JudgesAlone events v → audit.line_named v ≤ length events
alone_within events verdict.Yes judged = omega arith
alone_within events verdict.NoMemory judged = omega arith
alone_within events (verdict.Malformed at) judged = absurd judged
alone_within events (verdict.Gap at) judged = absurd judged
alone_within events (verdict.WrongReply at) judged = refused_within events at _ judged
alone_within events (verdict.Unsent at) judged = absurd judged
alone_within events (verdict.Repeat at) judged = refused_within events at _ judged

at_fault_within : (lines : Lines) (v : Verdict) → IsAtFault lines v → audit.line_named v ≤ length lines.text.now + 1
at_fault_within lines v (inl none) = none_within lines v none
at_fault_within lines v (inr (events, told, judged)) =
    let within = alone_within events v judged in
    let few = few_events lines events told in
    omega (arith, within, few)

longer : (x front behind : List Event) → x ≡ front ++ behind → length front ≤ length x
longer x front behind is =
    let long = ap length is in
    let both = length-append front behind in
    omega (arith, long, both)

begun_within : (first second : Lines) (v : Verdict) → Found first second v → audit.line_named v ≤ length first.text.now + length second.text.now
begun_within first second v (x, y, p, q, (apart, (front, front', merged, are, judged))) =
    let within = events_within merged v judged in
    let long = as_long front front' merged (preferred_interleaves [] front front' merged are.preferred) in
    let shorter = longer x front are.behind_first are.first_of in
    let shorter' = longer y front' are.behind_second are.second_of in
    let few = few_events first x p in
    let few' = few_events second y q in
    omega (arith, within, long, shorter, shorter', few, few')

module _ (first second : Lines) (short : length first.text.now < 2 ^ 63) (short' : length second.text.now < 2 ^ 63) where
  whole_within : (v : Verdict) → Found first second v → audit.line_named v + 1 < 2 ^ 64
  whole_within v it = let within = begun_within first second v it in omega (arith, within)

  pub finds_within : (j : Judgement) → FindsTwo first second j → judgement.line_named j + 1 < 2 ^ 64
  finds_within (found.First v) it = let within = at_fault_within first v it.1 in omega (arith, within)
  finds_within (found.Second v) it = let within = at_fault_within second v it.2 in omega (arith, within)
  finds_within found.Shared it = omega arith
  finds_within found.Stuck it = omega arith
  finds_within (found.Whole verdict.NoMemory) it = omega arith
  finds_within (found.Whole verdict.Yes) it = omega arith
  finds_within (found.Whole (verdict.Malformed at)) it = whole_within (verdict.Malformed at) it.1
  finds_within (found.Whole (verdict.Gap at)) it = whole_within (verdict.Gap at) it.1
  finds_within (found.Whole (verdict.WrongReply at)) it = whole_within (verdict.WrongReply at) it.1
  finds_within (found.Whole (verdict.Unsent at)) it = whole_within (verdict.Unsent at) it.1
  finds_within (found.Whole (verdict.Repeat at)) it = whole_within (verdict.Repeat at) it.1

  reached_within : (reach : Reach) (x y front front' : List Event) → Reaches reach x y front front' → length x ≤ length first.text.now → length y ≤ length second.text.now → extent.line_named reach + 1 < 2 ^ 64
  reached_within Whole x y front front' reaches few few' = omega arith
  reached_within (First at) x y front front' reaches few few' = omega (arith, reaches.1, reaches.2, few)
  reached_within (Second at) x y front front' reaches few few' = omega (arith, reaches.1, reaches.2, few')

  pub reach_within : (reach : Reach) (all : List (List Outcome)) → TellOutcomes first second reach all → extent.line_named reach + 1 < 2 ^ 64
  reach_within reach all ((x, y, p, q, it), goes_on) = reached_within reach x y it.first it.second it.reaches (few_events first x p) (few_events second y q)
