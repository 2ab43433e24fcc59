-- A service that listens changes nothing else.
use Rattle.std.proofs.Common.{◌∙◌, refl, ap}
use Rattle.amo_live.specs.Host.{HostState}
use Rattle.amo_live.specs.declared.service.Service.{Service}
use Rattle.amo_live.specs.Service.{Listened}

pub listened_none : {L S W : Type 0} (service : Service L S W) → Listened service service
listened_none service = (refl, refl, refl, refl, refl)

pub listened_on : {L S W : Type 0} (first middle last : Service L S W) → Listened first middle → Listened middle last → Listened first last
listened_on {L = L} {S = S} first middle last one two = (
  two.0 ∙ ap (λ (host : HostState L S). record host { link = last.host.link }) one.0,
  two.1 ∙ one.1,
  two.2 ∙ one.2,
  two.3 ∙ one.3,
  two.4 ∙ one.4,
)
