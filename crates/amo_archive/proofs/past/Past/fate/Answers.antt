use Rattle.std.proofs.Common.{◌≡◌, ◌<◌, ◌^◌, ◌∙◌, ℕ, Option, Some, None, List, length, sym, subst, ap, refl, arith, Bool}
use Rattle.amo_door.specs.declared.answer.Fate.{Fate}
use Rattle.amo_door.specs.declared.answer.Fate.TheVariants as fate
use Rattle.amo_journal.specs.declared.numbered.Numbered.{Numbered}
use Rattle.amo_outcomes.specs.declared.sender_outcome.SenderOutcome.{SenderOutcome}
use Rattle.amo_archive.specs.Fates.{fate_of_none}
use Rattle.amo_archive.specs.Lane.{message_of, owners_in}
use Rattle.amo_archive.specs.Past.{HasRead, IsTold, IsUnknown, TellsMessage, TellsPut, events_of}
use Rattle.amo_archive.specs.Reign.{owners_of}
use Rattle.amo_archive.proofs.Pasts.{few_owners, owners_at}
use Rattle.amo_archive.proofs.past.Past.fate.Goals as goal

pub returns-in_default : goal.returns-in_default
returns-in_default c = λ past few read.
    let s = c.args.self.now in
    let owners = owners_at s.lives.items s.doubts.items past s.lanes.items c.args.stream c.index.result.now c.requires s.all c.index.ensures read.1.lanes in
    let bound : length (owners_in c.index.result.now) < 2 ^ 64 = omega (arith, few, few_owners s.lives.items s.doubts.items c.args.stream past, ap length owners) in
    let found : None ≡ message_of c.args.life c.args.number (owners_of s.lives.items s.doubts.items c.args.stream past) = sym c.in_default.is ∙ (c.find.ensures bound ∙ ap (message_of c.args.life c.args.number) owners) in
    subst (λ (m : Option (ℕ × Bool)). TellsMessage (fate_of_none s.doubts.items s.lives.items c.args.life) c.args.stream past m c.fate_of_none.result) found c.fate_of_none.ensures

pub returns-in-Some-outcome : goal.returns-in-Some-outcome
returns-in-Some-outcome c = λ past few read.
    let s = c.args.self.now in
    let owners = owners_at s.lives.items s.doubts.items past s.lanes.items c.args.stream c.index.result.now c.requires s.all c.index.ensures read.1.lanes in
    let bound : length (owners_in c.index.result.now) < 2 ^ 64 = omega (arith, few, few_owners s.lives.items s.doubts.items c.args.stream past, ap length owners) in
    let found : Some (c.in-Some.put, c.in-Some.is_doubtful) ≡ message_of c.args.life c.args.number (owners_of s.lives.items s.doubts.items c.args.stream past) = sym c.in-Some.is ∙ (c.find.ensures bound ∙ ap (message_of c.args.life c.args.number) owners) in
    subst (λ (m : Option (ℕ × Bool)). TellsMessage (fate_of_none s.doubts.items s.lives.items c.args.life) c.args.stream past m c.fate_of.result) found
    (IsTold c.in-Some-outcome.outcome (λ right. rw c.in-Some-outcome.is at c.outcome.ensures.some (events_of past) (read.1.followed right)) c.fate_of.ensures)

pub returns-in-None : goal.returns-in-None
returns-in-None c = λ past few read.
    let s = c.args.self.now in
    let owners = owners_at s.lives.items s.doubts.items past s.lanes.items c.args.stream c.index.result.now c.requires s.all c.index.ensures read.1.lanes in
    let bound : length (owners_in c.index.result.now) < 2 ^ 64 = omega (arith, few, few_owners s.lives.items s.doubts.items c.args.stream past, ap length owners) in
    let found : Some (c.in-Some.put, c.in-Some.is_doubtful) ≡ message_of c.args.life c.args.number (owners_of s.lives.items s.doubts.items c.args.stream past) = sym c.in-Some.is ∙ (c.find.ensures bound ∙ ap (message_of c.args.life c.args.number) owners) in
    subst (λ (m : Option (ℕ × Bool)). TellsMessage (fate_of_none s.doubts.items s.lives.items c.args.life) c.args.stream past m fate.Unknown) found (IsUnknown refl)
