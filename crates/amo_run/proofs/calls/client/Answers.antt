use Rattle.std.proofs.Common.{◌≡◌, ℕ, Option, List, [], ◌∷◌, ◌++◌, sym, ap, ◌∙◌, subst}
use Rattle.amo_world.specs.declared.event.Event.{Event}
use Rattle.amo_journal.specs.declared.version.Version.TheVariants.{One}
use Rattle.amo_run.specs.Crew.{IsCall}
use Rattle.amo_run.specs.Fits.{AllFit}
use Rattle.amo_run.specs.Told.{Tells, listed}
use Rattle.amo_run.proofs.Spellings.{fit_both}
use Rattle.amo_run.proofs.Tellings.{tells_more}
use Rattle.amo_run.proofs.calls.client.Goals as goal

pub calls-preserved-in-Some-3 : goal.calls-preserved-in-Some-3
calls-preserved-in-Some-3 g c =
    let sides = c.args.book.now.sides in
    let one : List (ℕ × Event) = c.in-Some-3.one ∷ [] in
    let told : Tells c.calls.pass c.answer.new.pass one = subst (λ (o : Option (ℕ × Event)). Tells c.calls.pass c.answer.new.pass (listed o)) c.in-Some-3.is c.in_ok-one.ensures.told in
    let fit : AllFit One sides IsCall one = subst (λ (o : Option (ℕ × Event)). AllFit One sides IsCall (listed o)) c.in-Some-3.is c.in_ok-one.ensures.fit in
    let more : Tells c.args.pass.now c.answer.new.pass (c.calls.made.items ++ one) = tells_more c.args.pass.now c.calls.pass c.answer.new.pass c.calls.made.items one c.calls.invariant.1 told in
    let items : c.push_reserved.new.self.items ≡ c.calls.made.items ++ one = c.push_reserved.ensures.items ∙ ap (λ l. l ++ one) c.reserve.ensures.items in
    (more.book ∙ c.requires.book, subst (Tells c.args.pass.now c.answer.new.pass) (sym items) more, subst (AllFit One sides IsCall) (sym items) (fit_both One sides IsCall c.calls.made.items one c.calls.invariant.2 fit))
