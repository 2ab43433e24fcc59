use Rattle.std.proofs.Common.{◌≡◌, Some, length, slice_get, refl, subst}
use Rattle.std.proofs.lemmas.Option.{slice_get_read}
use Rattle.amo_outcomes.specs.declared.marks.Mark.{Mark}
use Rattle.amo_outcomes.specs.Heard.{all_sent}
use Rattle.amo_outcomes.specs.Marks.{Says}
use Rattle.amo_outcomes.proofs.SenderKeeping.{tells}
use Rattle.amo_outcomes.proofs.sender_places.SenderPlaces.outcome.Goals as goal

pub returns-in-Got : goal.returns-in-Got
returns-in-Got c = λ mode p h asks keeps.
    let marks = c.args.self.now.marks.items in
    let there : slice_get marks c.args.put ≡ Some c.index.result.now =
    slice_get_read marks (length marks) c.args.put c.index.result.now refl c.requires c.index.ensures in
    subst (λ (m : Mark). Says m (all_sent p.sent) h c.args.put) c.in-Got.is
    (tells c.args.self.now mode p h c.args.put c.index.result.now keeps there)

pub returns-in-Settled : goal.returns-in-Settled
returns-in-Settled c = λ mode p h asks keeps.
    let marks = c.args.self.now.marks.items in
    let there : slice_get marks c.args.put ≡ Some c.index.result.now =
    slice_get_read marks (length marks) c.args.put c.index.result.now refl c.requires c.index.ensures in
    subst (λ (m : Mark). Says m (all_sent p.sent) h c.args.put) c.in-Settled.is
    (tells c.args.self.now mode p h c.args.put c.index.result.now keeps there)

pub returns-in-Sent : goal.returns-in-Sent
returns-in-Sent c = λ mode p h asks keeps.
    let marks = c.args.self.now.marks.items in
    let there : slice_get marks c.args.put ≡ Some c.index.result.now =
    slice_get_read marks (length marks) c.args.put c.index.result.now refl c.requires c.index.ensures in
    subst (λ (m : Mark). Says m (all_sent p.sent) h c.args.put) c.in-Sent.is
    (tells c.args.self.now mode p h c.args.put c.index.result.now keeps there)

pub returns-in-Unsent : goal.returns-in-Unsent
returns-in-Unsent c = λ mode p h asks keeps.
    let marks = c.args.self.now.marks.items in
    let there : slice_get marks c.args.put ≡ Some c.index.result.now =
    slice_get_read marks (length marks) c.args.put c.index.result.now refl c.requires c.index.ensures in
    c.outcome_unsent.ensures mode p h asks keeps
    (subst (λ (m : Mark). Says m (all_sent p.sent) h c.args.put) c.in-Unsent.is
    (tells c.args.self.now mode p h c.args.put c.index.result.now keeps there))
