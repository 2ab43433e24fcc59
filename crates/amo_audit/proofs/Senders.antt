-- What is found of a sender's journal.
use Rattle.std.proofs.Common.{ℕ, ◌+◌, ◌≤◌, ◌<◌, ◌^◌, List, ◌∷◌, length, length-append, inl, inr, ap, arith}
use Rattle.amo_world.specs.declared.event.Event.{Event}
use Rattle.amo_world.specs.declared.fault.WorldFault.{WorldFault}
use Rattle.amo_journal.specs.declared.lines.Lines.{Lines}
use Rattle.amo_journal.specs.Lines.{Tell}
use Rattle.amo_audit.specs.declared.sender_found.SenderFound.{SenderFound}
use Rattle.amo_audit.specs.declared.sender_found.SenderFound.TheVariants.{Good, Wrong, OfReceiver, OfBoth}
use Rattle.amo_audit.specs.declared.verdict.Verdict.{Verdict}
use Rattle.amo_audit.specs.declared.verdict.Verdict.TheVariants as verdict
use Rattle.amo_audit.specs.Audit as audit
use Rattle.amo_audit.specs.Alone.{IsRefusedAt, JudgesAlone}
use Rattle.amo_audit.specs.Sender.{FindsEvents, FindsLines, line_named}
use Rattle.amo_audit.proofs.Named.{few_events, none_within}

refused_within : (events : List Event) (at : ℕ) (why : WorldFault) → IsRefusedAt events at why → at ≤ length events
refused_within events at why found =
    let long = ap length found.whole in
    let both = length-append found.before (found.event ∷ found.after) in
    omega (arith, long, both, found.count)

alone_within : (events : List Event) (v : Verdict) → JudgesAlone events v → audit.line_named v ≤ length events
alone_within events verdict.Yes judged = omega arith
alone_within events verdict.NoMemory judged = omega arith
alone_within events (verdict.Malformed at) judged = absurd judged
alone_within events (verdict.Gap at) judged = absurd judged
alone_within events (verdict.WrongReply at) judged = refused_within events at _ judged
alone_within events (verdict.Unsent at) judged = absurd judged
alone_within events (verdict.Repeat at) judged = refused_within events at _ judged

-- no line that is named is the last number
module _ (lines : Lines) (short : length lines.text.now < 2 ^ 63) where
  pub sender_within : (found : SenderFound) → FindsLines lines found → line_named found + 1 < 2 ^ 64
  sender_within Good found = omega arith
  sender_within OfReceiver found = omega arith
  sender_within OfBoth found = omega arith
  sender_within (Wrong v) (inl none) = let within = none_within lines v none in omega (arith, within)
  sender_within (Wrong v) (inr (events, told, found)) =
      let few = few_events lines events told in
      let within = alone_within events v found.1 in
      omega (arith, few, within)

-- what is found of events is found of the lines that tell of them
pub lines_found : (lines : Lines) (events : List Event) (found : SenderFound) → Tell events lines → FindsEvents events found → FindsLines lines found
lines_found lines events Good told is = (events, told, is)
lines_found lines events (Wrong v) told is = inr (events, told, is)
lines_found lines events OfReceiver told is = (events, told, is)
lines_found lines events OfBoth told is = (events, told, is)
