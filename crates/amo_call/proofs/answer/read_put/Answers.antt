use Rattle.std.proofs.Common.{◌∷◌, ◌∙◌}
use Rattle.amo_door.specs.Answer.{place_members}
use Rattle.amo_call.specs.Answer.{event_members}
use Rattle.amo_call.proofs.Steps.{IfNone-weaker, left}
use Rattle.amo_call.proofs.answer.read_put.Goals as goal

pub returns-clause-none : goal.returns-clause-none
returns-clause-none c = IfNone-weaker c.place_in.result _ _ (λ none place told.
    let claim = c.args.claim.now in
    none place told.fits (left c.as_slice.result.now (place_members claim.life claim.stream claim.number) (44 ∷ c.in_ok-rest.rest.now) (event_members place) c.in_ok-rest.ensures.found (c.as_slice.ensures.value ∙ told.body)))
    c.place_in.ensures.none
