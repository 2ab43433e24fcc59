use Rattle.std.proofs.Common.{inl, refl, ◌∙◌}
use Rattle.amo_call.proofs.putting.begin_again.Goals as goal

pub returns-else-pause : goal.returns-else-pause
returns-else-pause g c = inl (c.in-Some.response, c.in-Some.is, refl, c.pause.ensures.saved ∙ c.in_ok-forget.ensures.saved)
