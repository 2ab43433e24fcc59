use Rattle.std.proofs.Common.{inl, refl}
use Rattle.amo_audit.specs.declared.sender_found.SenderFound.TheVariants.{Wrong}
use Rattle.amo_audit.specs.declared.verdict.Verdict.TheVariants.{NoMemory}
use Rattle.amo_telling.proofs.alone.text_of.Goals as goal

pub returns-clause-found : goal.returns-clause-found
returns-clause-found c = (record { lines = c.in_ok-events.ensures.good.0; opens = c.in_ok-events.ensures.good.1; inner = Wrong NoMemory; finds = inl tt; is = refl }, λ e. cc)
